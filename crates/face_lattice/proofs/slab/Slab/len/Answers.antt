use Rattle.std.proofs.Common.{subst}
use Rattle.face_lattice.specs.Slots.{AreLed}
use Rattle.face_lattice.proofs.slab.Slab.len.Goals as goal

pub returns-clause-led : goal.returns-clause-led
returns-clause-led c = subst (λ v. AreLed v.ids v.slots) c.self.view_is c.self.invariant.led
