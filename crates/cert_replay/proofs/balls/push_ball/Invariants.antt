use Rattle.std.proofs.Common.{◌≡◌, ◌++◌, drop, map}
use Rattle.simplex.specs.Simplex.{union, without}
use Rattle.cert_replay.proofs.balls.push_ball.Given as goal

abbrev pub invariant-loop-label : goal.invariant-loop-label
invariant-loop-label l =
    l.list.items ++ map (λ x. union l.flip.b (without l.flip.a x)) (drop l.label-index l.flip.a)
    ≡ l.fn.list.items ++ map (λ x. union l.flip.b (without l.flip.a x)) l.flip.a
