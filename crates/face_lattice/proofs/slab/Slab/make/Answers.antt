use Rattle.std.proofs.Common.{sym}
use Rattle.face_lattice.proofs.LastLaws.{lasting_itself, lasting_made}
use Rattle.face_lattice.proofs.slab.Slab.make.Goals as goal

pub returns-in-Some-clause-lasts : goal.returns-in-Some-clause-lasts
returns-in-Some-clause-lasts c = lasting_itself c.args.self.now

pub returns-clause-lasts : goal.returns-clause-lasts
returns-clause-lasts c = lasting_made c.args.self.now c.add.new.self c.args.s.now c.add.result (sym c.in_default.ensures.value) c.add.ensures.id c.add.ensures.stays c.add.ensures.asked c.add.ensures.err
