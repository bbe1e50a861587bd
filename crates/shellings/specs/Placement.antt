-- What is known of the facets that are placed.
use Rattle.std.specs.Prelude.{◌≡◌, ◌<◌, ◌≤◌, ◌*◌, ◌^◌, ℕ, true, List, [], nat_lt, length, slice_index_or}
use Rattle.simplex.specs.Members.{In}
use Rattle.facet_set.specs.Complex.{verts}
use Rattle.shellings.specs.declared.placement.Placement.{Placement}
use Rattle.shellings.specs.Places.{is_one}
use Rattle.shellings.specs.Stars.{AreShaped, AreStars}

-- the members of the list are those of c that have a place in the set
pub record ArePlaced (c l : List (List ℕ)) (places : List ℕ) : Type 0 where
  pub there : (k : ℕ) → is_one places k ≡ true → In (slice_index_or c k []) l
  pub each : (s : List ℕ) → In s l → (k : ℕ) × (is_one places k ≡ true) × (slice_index_or c k [] ≡ s)

-- all sets have as many words
pub record IsFitting (p : Placement) : Type 0 where
  pub stars : AreShaped p.stars.labels p.stars.sets.items (length p.all.words.items)
  pub placed : length p.placed.words.items ≡ length p.all.words.items
  pub found : length p.found.words.items ≡ length p.all.words.items
  pub few : length p.all.words.items < 2 ^ 57

-- these are the facets of c that are placed
pub record IsPlacement (c : List (List ℕ)) (p : Placement) : Type 0 where
  pub fitting : IsFitting p
  pub labels : p.stars.labels ≡ verts c
  pub stars : AreStars c p.stars.labels p.stars.sets.items
  pub all : (k : ℕ) → is_one p.all.words.items k ≡ nat_lt k (length c)
  pub room : length c ≤ 64 * length p.all.words.items
  pub placed : ArePlaced c p.order p.placed.words.items

-- only what was found is another
pub record IsSearched (old next : Placement) : Type 0 where
  pub order : next.order ≡ old.order
  pub stars : next.stars ≡ old.stars
  pub all : next.all ≡ old.all
  pub placed : next.placed ≡ old.placed
  pub found : length next.found.words.items ≡ length old.found.words.items
