use Rattle.invariants.proofs.Boundary.{boundaries_have_sphere_invariants_lem}
use Rattle.invariants.proofs.laws.boundaries_have_sphere_invariants.Goals as goal

pub returns : goal.returns
returns c = boundaries_have_sphere_invariants_lem
