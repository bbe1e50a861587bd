use Rattle.std.proofs.Common.{◌≡◌, ℕ, List, map, take}
use Rattle.simplex.specs.Members.{In}
use Rattle.simplex.specs.Simplex.{without}
use Rattle.morse_lists.specs.Queues.{Grows, Waits}
use Rattle.morse_lists.proofs.greedy.Search.add_below.Given as goal

abbrev pub invariant-loop-label : goal.invariant-loop-label
invariant-loop-label l = record {
  faces : l.self.faces ≡ l.fn.self.faces;
  free_stay : Grows l.fn.self.free l.self.free;
  tops_stay : Grows l.fn.self.tops l.self.tops;
  below : (s : List ℕ) → In s (map (without l.face) (take l.label-index l.face)) → Waits l.fn.self.faces l.self.free l.self.tops s;
}
