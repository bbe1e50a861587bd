use Rattle.invariants.proofs.Steps.{reason_tells_no_sphere_lem}
use Rattle.invariants.proofs.laws.reason_tells_no_sphere.Goals as goal

pub returns : goal.returns
returns c = reason_tells_no_sphere_lem
