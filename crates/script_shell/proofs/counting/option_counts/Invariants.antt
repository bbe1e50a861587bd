use Rattle.std.proofs.Common.{◌≡◌, map}
use Rattle.std.specs.List.{range_with_len}
use Rattle.script_shell.proofs.Options.{option_count}
use Rattle.script_shell.proofs.counting.option_counts.Given as goal

abbrev pub invariant-loop-class : goal.invariant-loop-class
invariant-loop-class l = l.counts ≡ map (option_count l.complex) (range_with_len 0 l.class)
