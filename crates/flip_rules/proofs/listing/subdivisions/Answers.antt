use Rattle.std.proofs.Common.{map, sym, ◌∙◌, arith}
use Rattle.flip_rules.specs.Tallies.{flip_of}
use Rattle.flip_rules.proofs.ExchangeLaws.{none_impure, none_above}
use Rattle.flip_rules.proofs.SubdivisionLaws.{fresh_label, subdivisions_are, no_subdivisions}
use Rattle.flip_rules.proofs.listing.subdivisions.Goals as goal
use Rattle.flip_rules.proofs.listing.subdivisions.Goals.{then-not-is_pure-via-then-not-is_pure, then-not-is_pure-via-else-not-is_pure+then-size-eq0}

pub returns-then-not-is_pure : goal.returns-then-not-is_pure
returns-then-not-is_pure c = elim c.then-not-is_pure.branch [
  | then-not-is_pure-via-then-not-is_pure w ↦ c.new.ensures ∙ none_impure c.args.c.now 0 (sym c.is_pure.ensures ∙ w.if-not-is_pure.true)
  | then-not-is_pure-via-else-not-is_pure+then-size-eq0 w ↦ c.new.ensures ∙ none_above c.args.c.now 0 (omega (arith, w.size.ensures.value, w.if-size-eq0.true))
]

pub point-requires : goal.point-requires
point-requires c = fresh_label c.args.c.now c.as_slice.ensures.simplices c.in-Some.label (sym c.in_ok-label.ensures ∙ c.in-Some.is)

pub returns-in_ok-flips-in-Some : goal.returns-in_ok-flips-in-Some
returns-in_ok-flips-in-Some c =
    c.from_vec.ensures
    ∙ c.in_ok-flips-in-Some.ensures
    ∙ (λ i. map (λ a. flip_of a (c.point.ensures i)) (c.as_slice.ensures.value i))
    ∙ subdivisions_are c.args.c.now c.as_slice.ensures.simplices c.as_slice.ensures.complex (sym c.is_pure.ensures ∙ c.if-not-is_pure.false) (omega (arith, c.size.ensures.value, c.if-size-eq0.false)) c.in-Some.label (sym c.in_ok-label.ensures ∙ c.in-Some.is)

pub returns-in-None : goal.returns-in-None
returns-in-None c = c.new-in-None.ensures ∙ no_subdivisions c.args.c.now (sym c.in_ok-label.ensures ∙ c.in-None.is)
