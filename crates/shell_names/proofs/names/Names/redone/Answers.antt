use Rattle.std.proofs.Common.{ap, sym, length}
use Rattle.std.specs.Prelude.{nat_lt}
use Rattle.shell_names.specs.State.{Named}
use Rattle.shell_names.proofs.StateLaws.{entry_of_none}
use Rattle.shell_names.proofs.names.Names.redone.Goals as goal

pub returns-in-None-clause-some : goal.returns-in-None-clause-some
returns-in-None-clause-some c =
    sym (ap (λ (n : Named). nat_lt 0 (length n.future)) (entry_of_none c.args.self.now c.args.name.now c.in-None.ensures))
