use Rattle.morse_lists.proofs.StepLaws.{possible_pair}
use Rattle.morse_lists.proofs.face_table.FaceTable.is_possible.Goals as goal

pub returns-in-Some : goal.returns-in-Some
returns-in-Some c = possible_pair c.args.self.now c.args.step.now c.in-Some.high c.eq.result c.if-is_critical.ensures c.in-Some.ensures c.eq.ensures
