use Rattle.std.proofs.Common.{◌∙◌, ap, [], arith}
use Rattle.std.proofs.lemmas.List.{get_or_read}
use Rattle.simplex.specs.InOrder.{is_increasing}
use Rattle.simplex.specs.Simplex.{simplex_cmp}
use Rattle.ranked_set.proofs.BlockLaws.{block_rising}
use Rattle.ranked_set.proofs.blocks.block_for.Goals as goal

pub is_below-requires : goal.is_below-requires
is_below-requires c = record {
  rising =
      let within = c.loop-low.invariant.within in
      ap (is_increasing simplex_cmp) (get_or_read c.args.blocks.now _ _ (omega arith) c.index-blocks-middle.is [])
      ∙ block_rising c.args.blocks.now _ (omega arith) c.loop-low.invariant.ranked;
}
