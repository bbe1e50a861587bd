-- A strictly increasing list of simplices, in blocks of which none is empty but maybe a sole one.
use Rattle.std.specs.Prelude.{◌≡◌, ℕ, ◌+◌, ◌-◌, ◌*◌, ◌<◌, ◌≢◌, ◌⊎◌, Bool, true, false, not, List, [], ◌∷◌, ◌++◌, length, max, nat_lt, slice_index_or}
use Rattle.std.specs.List.{list_all, filter, remove}
use Rattle.std.specs.Ordering.{is_lt}
use Rattle.simplex.specs.InOrder.{is_increasing}
use Rattle.simplex.specs.Simplex.{is_same, simplex_cmp}

-- the list without the simplex
abbrev pub but : List ℕ → List (List ℕ) → List (List ℕ)
but s xs = filter (λ t. not (is_same s t)) xs

-- the blocks, one after another
abbrev pub joined : {X : Type 0} → List (List X) → List X
joined [] = []
joined (b ∷ bs) = b ++ joined bs

abbrev pub is_filled : {X : Type 0} → List X → Bool
is_filled [] = false
is_filled (x ∷ xs) = true

-- whether all simplices are below the one
abbrev pub are_below : List ℕ → List (List ℕ) → Bool
are_below s b = list_all (λ t. is_lt (simplex_cmp t s)) b

-- whether each block has room for one more
abbrev pub are_short : {X : Type 0} → List (List X) → Bool
are_short bs = list_all (λ b. nat_lt (length b) 128) bs

-- by how much the blocks are longer than half a block, in all
abbrev pub excess : {X : Type 0} → List (List X) → ℕ
excess [] = 0
excess (b ∷ bs) = (length b - 64) + excess bs

-- the insertions for which blocks and pool have room: each block of the pool is worth one, and 64 where no block is long
abbrev pub spare_in : {X : Type 0} → List (List X) → ℕ → ℕ
spare_in bs pool = max pool (64 * pool - excess bs)

pub record IsRanked (blocks : List (List (List ℕ))) : Type 0 where
  pub rising : is_increasing simplex_cmp (joined blocks) ≡ true
  pub filled : 1 < length blocks → list_all is_filled blocks ≡ true

-- the k-th block taken out, where it is empty and not the only one
abbrev pub IsTidied : {X : Type 0} → List (List X) → ℕ → List (List X) → Type 0
IsTidied bs k new =
    ((new ≡ bs) × (1 < length bs → (length (slice_index_or bs k []) ≢ 0)))
    ⊎ ((new ≡ remove bs k) × (1 < length bs) × (length (slice_index_or bs k []) ≡ 0))

-- the same blocks, or a first one, empty, where there was none
abbrev pub IsStarted : {X : Type 0} → List (List X) → List (List X) → Type 0
IsStarted bs new = ((new ≡ bs) × (0 < length bs)) ⊎ ((bs ≡ []) × (new ≡ [] ∷ []))
