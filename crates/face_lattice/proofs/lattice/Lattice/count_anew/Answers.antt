use Rattle.std.proofs.Common.{ap}
use Rattle.face_lattice.specs.Lattice.{LatticeState, askers_in, id_in}
use Rattle.face_lattice.proofs.lattice.Lattice.count_anew.Goals as goal

pub returns-clause-holds : goal.returns-clause-holds
returns-clause-holds c = record { asked = λ s. ap (λ (l : LatticeState). askers_in l s) c.self.view_is; ids = λ s p q. ap (λ (l : LatticeState). id_in l s) c.self.view_is }
