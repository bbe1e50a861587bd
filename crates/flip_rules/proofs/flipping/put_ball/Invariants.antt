use Rattle.std.proofs.Common.{map, take}
use Rattle.simplex.specs.Simplex.{union, without}
use Rattle.flip_rules.specs.Members.{HasBoth}
use Rattle.flip_rules.proofs.flipping.put_ball.Given as goal

abbrev pub invariant-loop-label : goal.invariant-loop-label
invariant-loop-label l = HasBoth l.list.items l.fn.list.items (map (λ x. union l.flip.b (without l.flip.a x)) (take l.label-index l.flip.a))
