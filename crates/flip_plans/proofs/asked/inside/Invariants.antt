use Rattle.std.proofs.Common.{◌≡◌, ◌&&◌, not, take, [], ◌∷◌}
use Rattle.std.specs.List.{filter}
use Rattle.simplex.specs.Simplex.{has, is_within, union}
use Rattle.flip_plans.proofs.asked.inside.Given as goal

abbrev pub invariant-loop-label : goal.invariant-loop-label
invariant-loop-label l = l.key ≡ filter (λ x. not (has l.s x) && not (is_within l.flip.a (union l.s (x ∷ [])))) (take l.label-index l.labels)
