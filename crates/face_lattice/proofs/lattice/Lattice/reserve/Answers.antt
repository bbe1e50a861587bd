use Rattle.face_lattice.proofs.HoldLaws.{holds_again}
use Rattle.face_lattice.proofs.lattice.Lattice.reserve.Goals as goal

pub returns-clause-holds : goal.returns-clause-holds
returns-clause-holds c = holds_again c.args.self.now c.clear_room.new.self c.make_room.new.self c.clear_room.ensures.holds c.clear_room.ensures.facets c.make_room.ensures.holds
