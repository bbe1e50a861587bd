use Rattle.std.proofs.Common.{◌≡◌, ◌+◌, ◌-◌, ◌++◌, false, map}
use Rattle.constructions.specs.Runs.{runs}
use Rattle.constructions.proofs.cyclic_spheres.+add_runs.Given as goal

abbrev pub decreases-add_runs : goal.decreases-add_runs
decreases-add_runs l = l.k

abbrev pub invariant-loop-i : goal.invariant-loop-i
invariant-loop-i l =
    l.list.items ++ map (λ s. l.front ++ s) (runs false (l.first + l.i) (l.count - l.i) l.k) ≡ l.fn.list.items ++ map (λ s. l.front ++ s) (runs false l.first l.count l.k)
