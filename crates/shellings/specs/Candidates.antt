-- What is kept of each facet while the greedy order grows.
use Rattle.std.specs.Prelude.{◌≡◌, ◌<◌, ℕ, true, false, not, List, [], length, slice_index_or, IsTrue}
use Rattle.std.specs.List.{list_all, filter}
use Rattle.simplex.specs.Simplex.{is_within, without}
use Rattle.facet_set.specs.Complex.{is_face, stands_in}
use Rattle.facet_set.specs.Facets.{IsFacets}
use Rattle.facet_set.specs.Numbers.{is_pure}
use Rattle.shellings.specs.declared.candidates.Candidate.{Candidate}
use Rattle.shellings.specs.Places.{is_one}
use Rattle.shellings.specs.Shellings.{is_good}

-- facets of a pure complex, and some of them
pub record IsSetting (c l : List (List ℕ)) : Type 0 where
  pub complex : IsFacets c
  pub pure : IsTrue (is_pure c)
  pub facets : IsTrue (list_all (stands_in c) l)

-- the labels without which the simplex lies in none of the earlier ones
abbrev pub free_labels : List (List ℕ) → List ℕ → List ℕ
free_labels earlier f = filter (λ a. not (is_face earlier (without f a))) f

-- the free labels are those of the facet, and the next place is not good for it where it does not wait
pub record IsKept (c l : List (List ℕ)) (f : List ℕ) (k : Candidate) : Type 0 where
  pub free : k.free ≡ free_labels l f
  pub closed : k.waiting ≡ false → is_good c l f ≡ false

-- so for each facet
pub record AreKept (c l : List (List ℕ)) (ks : List Candidate) : Type 0 where
  pub whole : length ks ≡ length c
  pub each : (i : ℕ) (k : Candidate) → i < length c → IsKept c l (slice_index_or c i []) (slice_index_or ks i k)

-- the free labels once g is placed too: those without which f does not lie in g either; where it goes on not to wait, they are as before
pub record IsNarrowed (f g : List ℕ) (k next : Candidate) : Type 0 where
  pub free : IsTrue (is_within k.free f) → next.free ≡ filter (λ a. not (is_within (without f a) g)) k.free
  pub closed : next.waiting ≡ false → (k.waiting ≡ false) × (next.free ≡ k.free)

pub record AreNarrowed (c : List (List ℕ)) (g : List ℕ) (ks next : List Candidate) : Type 0 where
  pub whole : length next ≡ length ks
  pub each : (i : ℕ) (k : Candidate) → i < length c → IsNarrowed (slice_index_or c i []) g (slice_index_or ks i k) (slice_index_or next i k)

-- so for those at the places that are found; the others stay
pub record AreFoundNarrowed (c : List (List ℕ)) (g found : List ℕ) (ks next : List Candidate) : Type 0 where
  pub whole : length next ≡ length ks
  pub hit : (i : ℕ) (k : Candidate) → is_one found i ≡ true → IsNarrowed (slice_index_or c i []) g (slice_index_or ks i k) (slice_index_or next i k)
  pub missed : (i : ℕ) (k : Candidate) → is_one found i ≡ false → slice_index_or next i k ≡ slice_index_or ks i k
