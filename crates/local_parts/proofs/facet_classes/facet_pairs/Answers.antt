use Rattle.std.proofs.Common.{◌+◌, take, nat_eq, sym, subst, List, ℕ}
use Rattle.std.specs.HashMap.{get}
use Rattle.std.specs.Cmp.Lexicographic.{pointwise}
use Rattle.local_parts.proofs.StrongLaws.{Ties, ties_step, ties_all}
use Rattle.local_parts.proofs.facet_classes.facet_pairs.Goals as goal

pub loop-place-preserved : goal.loop-place-preserved
loop-place-preserved c =
    subst (λ (l : List (ℕ × ℕ)). Ties (get (pointwise nat_eq) c.first_at.new.firsts) (take (c.loop-place.place-index + 1) c.args.places.now) l) (sym c.in_ok-push.ensures.items)
    (ties_step (get (pointwise nat_eq) c.loop-place.firsts) (get (pointwise nat_eq) c.first_at.new.firsts) c.args.places.now c.loop-place.pairs.items c.loop-place.place-index c.in_ok-first.first c.place-item.result
    c.loop-place-test.true c.place-item.is c.loop-place.invariant c.in_ok-first.ensures.found c.in_ok-first.ensures.kept c.in_ok-first.ensures.added)

pub returns : goal.returns
returns c = ties_all (get (pointwise nat_eq) c.loop-place.firsts) c.args.places.now c.loop-place.pairs.items c.loop-place.place-index c.loop-place-test.false c.loop-place.invariant
