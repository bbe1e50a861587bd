-- For each vertex the places of the facets that have it.
use Rattle.std.specs.Prelude.{◌≡◌, ◌<◌, ℕ, ◌==◌, ◌&&◌, ◌||◌, true, false, List, [], length, slice_index_or}
use Rattle.std.specs.Ordering.{nat_cmp}
use Rattle.simplex.specs.InOrder.{is_increasing}
use Rattle.simplex.specs.Simplex.{has}
use Rattle.shellings.specs.declared.place_set.PlaceSet.{PlaceSet}
use Rattle.shellings.specs.Places.{is_one}

-- sets of so many words, one for each of the labels, which are in increasing order
pub record AreShaped (labels : List ℕ) (sets : List PlaceSet) (len : ℕ) : Type 0 where
  pub rising : is_increasing nat_cmp labels ≡ true
  pub count : length sets ≡ length labels
  pub wide : (r : ℕ) (s : PlaceSet) → r < length labels → length (slice_index_or sets r s).words.items ≡ len

-- the set of each label has the places of the members of c that have it
pub record AreStars (c : List (List ℕ)) (labels : List ℕ) (sets : List PlaceSet) : Type 0 where
  pub each : (r : ℕ) (s : PlaceSet) (k : ℕ) → r < length labels → is_one (slice_index_or sets r s).words.items k ≡ has (slice_index_or c k []) (slice_index_or labels r 0)

-- so many sets of so many words, all empty
pub record AreEmpty (sets : List PlaceSet) (count len : ℕ) : Type 0 where
  pub whole : length sets ≡ count
  pub wide : (r : ℕ) (s : PlaceSet) → r < count → length (slice_index_or sets r s).words.items ≡ len
  pub empty : (r : ℕ) (s : PlaceSet) (k : ℕ) → r < count → is_one (slice_index_or sets r s).words.items k ≡ false

-- the sets of the labels of f have the place too, and as many words as before
pub record IsPut (labels : List ℕ) (place : ℕ) (f : List ℕ) (old next : List PlaceSet) : Type 0 where
  pub each : (r : ℕ) (s : PlaceSet) (k : ℕ) → r < length labels
      → is_one (slice_index_or next r s).words.items k ≡ (((k == place) && has f (slice_index_or labels r 0)) || is_one (slice_index_or old r s).words.items k)
  pub count : length next ≡ length old
  pub wide : (r : ℕ) (s : PlaceSet) → r < length labels → length (slice_index_or next r s).words.items ≡ length (slice_index_or old r s).words.items
