use Rattle.std.proofs.Common.{subst}
use Rattle.face_lattice.specs.Slots.{AreLed}
use Rattle.face_lattice.proofs.slab.Slab.put_back_idle.Goals as goal

pub returns-else-is_idle-clause-led : goal.returns-else-is_idle-clause-led
returns-else-is_idle-clause-led c = subst (λ v. AreLed v.ids v.slots) c.self.view_is c.self.invariant.led
