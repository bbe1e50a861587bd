use Rattle.std.proofs.Common.{ℕ, List, length}
use Rattle.std.specs.Bool.{IsTrue}
use Rattle.simplex.specs.Members.{In}
use Rattle.simplex.specs.Simplex.{is_simplex}
use Rattle.collapse_moves.specs.Collapses.{is_free}
use Rattle.morse_lists.proofs.greedy.next_collapse.Given as goal

abbrev pub invariant-loop-low : goal.invariant-loop-low
invariant-loop-low l = (s : List ℕ) → IsTrue (is_simplex s) → IsTrue (is_free l.table s) → In s l.queue

abbrev pub decreases-loop-low : goal.decreases-loop-low
decreases-loop-low l = length l.queue
