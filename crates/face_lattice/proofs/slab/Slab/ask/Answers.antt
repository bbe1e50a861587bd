use Rattle.std.proofs.Common.{sym}
use Rattle.face_lattice.proofs.AskLaws.{fresh_asked, fresh_keeps}
use Rattle.face_lattice.proofs.slab.Slab.ask.Goals as goal

pub returns-in-Ok-clause-asked : goal.returns-in-Ok-clause-asked
returns-in-Ok-clause-asked c = fresh_asked c.args.self.now c.add.new.self c.ask_at-2.new.self c.args.s.now c.in_ok-id.id c.args.asker (sym c.in_default.ensures.value) c.in_ok-id.ensures.id c.add.ensures.led c.in_ok-id.ensures.cells c.add.ensures.stays c.in_ok-id.ensures.asked c.in-Ok.ensures.ok

pub returns-in-Ok-clause-keeps : goal.returns-in-Ok-clause-keeps
returns-in-Ok-clause-keeps c = fresh_keeps c.args.self.now c.add.new.self c.ask_at-2.new.self c.args.s.now c.in_ok-id.id c.args.asker (sym c.in_default.ensures.value) c.in_ok-id.ensures.id c.add.ensures.led c.in_ok-id.ensures.cells c.add.ensures.stays c.in_ok-id.ensures.asked c.in-Ok.ensures.ok
