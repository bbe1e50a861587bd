use Rattle.std.proofs.Common.{arith}
use Rattle.replay_report.proofs.CuttingLaws.{line_at, line_whole}
use Rattle.replay_report.proofs.cutting.line_len.Goals as goal

pub returns-in-Some-clause-line : goal.returns-in-Some-clause-line
returns-in-Some-clause-line c = line_at c.args.bytes.now c.in-Some.at cc

pub returns-in-None-clause-line : goal.returns-in-None-clause-line
returns-in-None-clause-line c = line_whole c.args.bytes.now (omega arith) cc
