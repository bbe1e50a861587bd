use Rattle.std.proofs.Common.{◌≡◌, ◌||◌, not, take}
use Rattle.std.specs.List.{filter}
use Rattle.simplex.specs.Simplex.{has}
use Rattle.flip_plans.proofs.asked.outside.Given as goal

abbrev pub invariant-loop-label : goal.invariant-loop-label
invariant-loop-label l = l.key ≡ filter (λ x. not (has l.flip.a x || has l.flip.b x)) (take l.label-index l.labels)
