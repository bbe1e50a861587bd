use Rattle.std.proofs.Common.{◌≡◌, ℕ, length, nat_lt}
use Rattle.shellings.specs.Places.{is_one}
use Rattle.shellings.proofs.placement.first_places.Given as goal

abbrev pub invariant-loop-place : goal.invariant-loop-place
invariant-loop-place l = record {
  len : length l.places.words.items ≡ l.len;
  value : (k : ℕ) → is_one l.places.words.items k ≡ nat_lt k l.place;
}
