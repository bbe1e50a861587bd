use Rattle.std.proofs.Common.{ℕ, List, length}
use Rattle.std.specs.Bool.{IsTrue}
use Rattle.simplex.specs.Members.{In}
use Rattle.simplex.specs.Simplex.{is_simplex}
use Rattle.morse_lists.specs.Morse.{is_top}
use Rattle.morse_lists.proofs.greedy.next_facet.Given as goal

abbrev pub invariant-loop-facet : goal.invariant-loop-facet
invariant-loop-facet l = (s : List ℕ) → IsTrue (is_simplex s) → IsTrue (is_top l.table s) → In s l.queue

abbrev pub decreases-loop-facet : goal.decreases-loop-facet
decreases-loop-facet l = length l.queue
