use Rattle.face_lattice.proofs.HoldLaws.{holds_itself}
use Rattle.face_lattice.proofs.lattice.Lattice.expect.Goals as goal

pub returns-then-has_room-clause-holds : goal.returns-then-has_room-clause-holds
returns-then-has_room-clause-holds c = holds_itself c.args.self.now
