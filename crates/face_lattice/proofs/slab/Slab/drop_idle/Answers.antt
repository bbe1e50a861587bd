use Rattle.face_lattice.specs.Slots.{cell_at, face_of}
use Rattle.face_lattice.proofs.KeepLaws.{one_back}
use Rattle.face_lattice.proofs.LastLaws.{lasting_back, lasting_itself}
use Rattle.face_lattice.proofs.slab.Slab.drop_idle.Goals as goal

pub returns-in-Some-clause-cells : goal.returns-in-Some-clause-cells
returns-in-Some-clause-cells c = λ fs h. one_back fs (face_of c.args.self.now c.in-Some.id) (cell_at c.args.self.now) (cell_at c.put_back_idle.new.self) h c.put_back_idle.ensures.cells

pub returns-in-Some-clause-lasts : goal.returns-in-Some-clause-lasts
returns-in-Some-clause-lasts c = lasting_back c.args.self.now c.put_back_idle.new.self (face_of c.args.self.now c.in-Some.id) c.put_back_idle.ensures.ids c.put_back_idle.ensures.cells

pub returns-in_default-clause-lasts : goal.returns-in_default-clause-lasts
returns-in_default-clause-lasts c = lasting_itself c.args.self.now
