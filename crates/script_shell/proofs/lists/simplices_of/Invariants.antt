use Rattle.std.proofs.Common.{◌≡◌, ◌++◌, map, drop}
use Rattle.std.specs.List.{flat_map}
use Rattle.simplex.specs.FirstFailing.{first_failing}
use Rattle.simplex.specs.SimplexFault.{set}
use Rattle.script_shell.specs.Commands.{list_tests}
use Rattle.script_shell.proofs.lists.simplices_of.Given as goal

abbrev pub invariant-loop-list : goal.invariant-loop-list
invariant-loop-list l = record {
  sets : l.simplices ++ map set (drop l.list-index l.lists) ≡ map set l.lists;
  clean : first_failing (flat_map list_tests (drop l.list-index l.lists)) ≡ first_failing (flat_map list_tests l.lists);
}
