use Rattle.std.proofs.Common.{◌∙◌, ap, []}
use Rattle.std.proofs.lemmas.List.{get_or_read}
use Rattle.simplex.specs.InOrder.{is_increasing}
use Rattle.simplex.specs.Simplex.{simplex_cmp}
use Rattle.ranked_set.proofs.BlockLaws.{block_rising, none_there}
use Rattle.ranked_set.proofs.blocks.find_in.Goals as goal

pub find-requires : goal.find-requires
find-requires c = record {
  rising =
      ap (is_increasing simplex_cmp) (get_or_read c.args.blocks.now _ _ c.block_for-block.ensures.within c.index-blocks-block.is [])
      ∙ block_rising c.args.blocks.now _ c.block_for-block.ensures.within c.requires.ranked;
}

pub returns-in_err-inner-clause-none : goal.returns-in_err-inner-clause-none
returns-in_err-inner-clause-none c = λ _.
    none_there c.args.s.now c.args.blocks.now c.block_for-block.result c.block_for-block.ensures.within c.requires.ranked c.block_for-block.ensures.before c.block_for-block.ensures.here
    c.index-blocks-block.result c.index-blocks-block.is (c.find.ensures.none c.in_err-inner.was)
