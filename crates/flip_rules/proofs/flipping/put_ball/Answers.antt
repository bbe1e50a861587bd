use Rattle.std.proofs.Common.{map, length, refl, ap, ◌∙◌, subst, arith}
use Rattle.std.proofs.lemmas.List.{take_all}
use Rattle.simplex.specs.Simplex.{union, without}
use Rattle.facet_set.proofs.BallLaws.{room}
use Rattle.flip_rules.specs.Members.{HasBoth}
use Rattle.flip_rules.proofs.FlippedList.{both_at_first, both_more}
use Rattle.flip_rules.proofs.flipping.put_ball.Goals as goal

pub union-requires : goal.union-requires
union-requires c =
    room c.args.flip.now.a c.args.flip.now.b c.labels-label-items.result.now c.without.result c.loop-label.label-index c.labels-label-items.ensures.simplex
    c.labels-label-items.ensures.value c.loop-label-test.true c.without.ensures.value c.requires

pub loop-label-init : goal.loop-label-init
loop-label-init c = both_at_first c.args.list.now.items c.args.list.now.items refl

pub loop-label-preserved : goal.loop-label-preserved
loop-label-preserved c =
    let b = c.args.flip.now.b in
    let a = c.args.flip.now.a in
    both_more (λ x. union b (without a x)) a c.labels-label-items.result.now c.args.list.now.items c.loop-label.list.items c.put.new.list.items c.loop-label.label-index c.union.result
    c.labels-label-items.ensures.value c.loop-label-test.true (c.union.ensures ∙ ap (union b) c.without.ensures.value) c.loop-label.invariant c.in_ok-put.ensures

pub returns : goal.returns
returns c =
    let b = c.args.flip.now.b in
    let a = c.args.flip.now.a in
    let same = ap length c.labels-label-items.ensures.value in
    subst (λ l. HasBoth c.loop-label.list.items c.args.list.now.items (map (λ x. union b (without a x)) l)) (take_all c.loop-label.label-index a (omega (arith, same, c.loop-label-test.false, c.loop-label.auto.label-index-end))) c.loop-label.invariant
