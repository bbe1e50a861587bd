use Rattle.std.proofs.Common.{◌∙◌, ap, refl, arith}
use Rattle.std.specs.List.{slice_get}
use Rattle.ranked_set.proofs.BlockLaws.{IsTaken}
use Rattle.ranked_set.proofs.ChangeLaws.{member_read}
use Rattle.ranked_set.proofs.ranked.RankedSet.at.Goals as goal

at_place : (c : goal.After-simplex) → IsTaken c.self.inside.blocks.items c.deref.result.now c.self.inside.blocks.items c.place_in-at.result.block c.place_in-at.result.inner c.args.k c.index.result.now
at_place c = record {
  now_is = refl;
  seen_is = c.deref.ensures.value;
  ranked = c.self.invariant.ranked;
  within = c.place_in-at.ensures.block;
  inner_within = c.place_in-at.ensures.inner;
  sum = c.place_in-at.ensures.sum;
  block_is = c.index.ensures;
}

pub returns-clause-value : goal.returns-clause-value
returns-clause-value c =
    member_read c.self.inside.blocks.items c.deref.result.now c.place_in-at.result.block c.place_in-at.result.inner c.args.k c.index.result.now (at_place c)
    c.simplex.result (c.simplex.ensures.value ∙ c.at.ensures) (omega (arith, c.if-k-self.false, c.self.invariant.len_is))
    ∙ ap (λ v. slice_get v.members c.args.k) c.self.view_is
