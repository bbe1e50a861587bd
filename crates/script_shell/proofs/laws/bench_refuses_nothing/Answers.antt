use Rattle.script_shell.proofs.BenchLaws.{nothing_refused}
use Rattle.script_shell.proofs.laws.bench_refuses_nothing.Goals as goal

pub returns : goal.returns
returns c = nothing_refused
