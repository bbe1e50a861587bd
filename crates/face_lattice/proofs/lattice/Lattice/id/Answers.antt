use Rattle.std.proofs.Common.{subst}
use Rattle.face_lattice.specs.Lattice.{AreIdsNeeded}
use Rattle.face_lattice.proofs.IdLaws.{ids_needed}
use Rattle.face_lattice.proofs.lattice.Lattice.id.Goals as goal

pub returns-clause-needed : goal.returns-clause-needed
returns-clause-needed c = subst AreIdsNeeded c.self.view_is (ids_needed c.self.inside.slab c.self.inside.counts c.self.inside.members.items _ c.self.inside.changes c.self.invariant)
