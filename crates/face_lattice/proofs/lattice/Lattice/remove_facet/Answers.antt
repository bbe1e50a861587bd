use Rattle.face_lattice.proofs.HoldLaws.{holds_again}
use Rattle.face_lattice.proofs.lattice.Lattice.remove_facet.Goals as goal

pub returns-clause-holds : goal.returns-clause-holds
returns-clause-holds g c = holds_again c.args.self.now c.clear_room.new.self c.take_out.new.self c.clear_room.ensures.holds c.clear_room.ensures.facets c.take_out.ensures.holds
