use Rattle.std.proofs.Common.{◌≡◌, ◌++◌, List}
use Rattle.face_lattice.specs.Lattice.{askers_in, id_in}
use Rattle.flip_plans.specs.declared.plan.SetChange.{SetChange}
use Rattle.flip_plans.proofs.AddLaws.{IsFarBy}
use Rattle.flip_plans.proofs.PlanLaws.{Gathered}
use Rattle.flip_plans.proofs.steps.add_far.Given as goal

abbrev pub invariant-loop-asker : goal.invariant-loop-asker
invariant-loop-asker l =
    (more : List SetChange) × (l.changes.items ≡ l.initial.changes.items ++ more)
    × Gathered (λ (x : SetChange). x.face) (IsFarBy l.l.facets l.flip l.s (id_in l.l) (askers_in l.l l.s)) l.asker-index more
