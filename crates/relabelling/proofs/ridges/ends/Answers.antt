use Rattle.std.proofs.Common.{List, [], ℕ, nat_eq, refl, sym, subst, take, take_all}
use Rattle.std.specs.HashMap.{get}
use Rattle.std.specs.Map.{lookup}
use Rattle.std.specs.Cmp.Lexicographic.{pointwise}
use Rattle.simplex.proofs.Members.{none}
use Rattle.relabelling.specs.Ridges.{IsAcross, TellsTwo}
use Rattle.relabelling.proofs.RidgeLaws.{told_before, told_more, told_facet}
use Rattle.relabelling.proofs.ridges.ends.Goals as goal

pub loop-s-init : goal.loop-s-init
loop-s-init c = λ r. subst (λ (es : List (List ℕ × (ℕ × ℕ))). TellsTwo (lookup (pointwise nat_eq r) es) (IsAcross [] r)) (sym c.new-ends.ensures.empty) (λ a i. none i.0 i.1)

pub loop-label-init : goal.loop-label-init
loop-label-init c = λ r. told_before (take c.loop-s.s-index c.args.simplices.now) c.s-item.result (get (pointwise nat_eq) c.loop-s.ends r) r (c.loop-s.invariant r)

pub loop-label-preserved : goal.loop-label-preserved
loop-label-preserved c = λ r.
    told_more (take c.loop-s.s-index c.args.simplices.now) c.s-item.result c.labels-label-items.result.now c.loop-label.label-index (pointwise nat_eq c.without.result r) (get (pointwise nat_eq) c.loop-label.ends c.without.result) (get (pointwise nat_eq) c.loop-label.ends r)
    (get (pointwise nat_eq) c.add_end.new.ends r) c.without.result r c.labels-label-items.ensures.value c.loop-label-test.true c.without.ensures.value (c.loop-label.invariant c.without.result) (c.loop-label.invariant r) refl (c.in_ok-add_end.ensures r)

pub loop-s-preserved : goal.loop-s-preserved
loop-s-preserved c = λ r.
    told_facet c.args.simplices.now c.s-item.result c.labels-label-items.result.now c.loop-s.s-index c.loop-label.label-index (get (pointwise nat_eq) c.loop-label.ends r) r c.labels-label-items.ensures.value c.loop-label-test.false c.loop-s-test.true c.s-item.is
    (c.loop-label.invariant r)

pub returns : goal.returns
returns c = λ r. subst (λ l. TellsTwo (get (pointwise nat_eq) c.loop-s.ends r) (IsAcross l r)) (take_all c.loop-s.s-index c.args.simplices.now c.loop-s-test.false) (c.loop-s.invariant r)
