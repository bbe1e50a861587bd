use Rattle.std.proofs.Common.{◌≡◌, ◌+◌, true}
use Rattle.std.specs.Prelude.{take, drop}
use Rattle.std.specs.List.{list_all}
use Rattle.simplex.specs.FirstFailing.{first_failing}
use Rattle.simplex.specs.Simplex.{is_simplex}
use Rattle.morse_lists.specs.Morse.{is_morse_list, morse_fault, morse_tests}
use Rattle.morse_lists.proofs.checking.check_morse.Given as goal

abbrev pub invariant-loop-i : goal.invariant-loop-i
invariant-loop-i l = record {
  list : is_morse_list l.c l.list ≡ is_morse_list l.faces (drop l.i l.list);
  fault : morse_fault l.c l.list ≡ first_failing (morse_tests (l.i + 1) l.faces (drop l.i l.list));
  simplices : list_all (λ m. is_simplex m.low) (take l.i l.list) ≡ true;
}
