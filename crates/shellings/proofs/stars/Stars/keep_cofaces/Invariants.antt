use Rattle.std.proofs.Common.{◌≡◌, ℕ, ◌&&◌, List, [], length, take, get_or}
use Rattle.simplex.specs.Simplex.{is_within}
use Rattle.shellings.specs.Places.{is_one}
use Rattle.shellings.specs.Stars.{AreStars}
use Rattle.shellings.proofs.stars.Stars.keep_cofaces.Given as goal

abbrev pub invariant-loop-label : goal.invariant-loop-label
invariant-loop-label l = record {
  len : length l.places.words.items ≡ length l.initial.places.words.items;
  value : (c : List (List ℕ)) → AreStars c l.self.labels l.self.sets.items → (k : ℕ)
      → is_one l.places.words.items k ≡ (is_one l.initial.places.words.items k && is_within (take l.label-index l.s) (get_or c k []));
}
