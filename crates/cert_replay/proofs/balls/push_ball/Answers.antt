use Rattle.std.proofs.Common.{ap, ◌∙◌}
use Rattle.simplex.specs.Simplex.{union, without}
use Rattle.facet_set.proofs.BallLaws.{room, pushed}
use Rattle.cert_replay.proofs.balls.push_ball.Goals as goal

pub union-requires : goal.union-requires
union-requires c =
    room c.args.flip.now.a c.args.flip.now.b c.labels-label-items.result.now c.without.result c.loop-label.label-index c.labels-label-items.ensures.simplex
    c.labels-label-items.ensures.value c.loop-label-test.true c.without.ensures.value c.requires

pub loop-label-preserved : goal.loop-label-preserved
loop-label-preserved c =
    let b = c.args.flip.now.b in
    let a = c.args.flip.now.a in
    pushed (λ x. union b (without a x)) a c.labels-label-items.result.now c.loop-label.list.items c.push.new.self.items _ c.loop-label.label-index c.union.result
    c.labels-label-items.ensures.value c.loop-label-test.true (c.union.ensures ∙ ap (union b) c.without.ensures.value) c.in_ok-push.ensures.items c.loop-label.invariant
