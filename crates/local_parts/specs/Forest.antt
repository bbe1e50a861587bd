-- Classes of the numbers below n. Each number stands under a number that is not greater, and a root under itself.
use Rattle.std.specs.Prelude.{◌≡◌, ℕ, zero, suc, ◌≤◌, ◌<◌, Bool, true, ◌==◌, List, slice_index_or, length, if◌then◌else◌}
use Rattle.std.specs.List.{range_with_len}
use Rattle.simplex.specs.Members.{In}
use Rattle.facet_set.specs.Connection.{Chain}

-- no number stands under a greater one
abbrev pub Falls : List ℕ → Type 0
Falls p = (i : ℕ) → i < length p → slice_index_or p i 0 ≤ i

-- where n steps up lead
abbrev pub climb : List ℕ → ℕ → ℕ → ℕ
climb p zero i = i
climb p (suc n) i = climb p n (slice_index_or p i 0)

-- the root above the number
abbrev pub root : List ℕ → ℕ → ℕ
root p i = climb p (length p) i

-- the root once the tree of the root b hangs under a
abbrev pub moved : ℕ → ℕ → ℕ → ℕ
moved a b r = if r == b then a else r

-- the relation on the numbers below n has the chains of the pairs
pub record HasChains (joined : ℕ → ℕ → Bool) (pairs : List (ℕ × ℕ)) (n : ℕ) : Type 0 where
  -- it goes both ways
  pub even : (i j : ℕ) → joined i j ≡ joined j i
  -- the two of a pair are joined by a chain
  pub chained : (q : ℕ × ℕ) → In q pairs → Chain joined (range_with_len 0 n) q.0 q.1
  -- what is one for the two of each pair is one for any two that are joined
  pub spanned : (f : ℕ → ℕ) → ((q : ℕ × ℕ) → In q pairs → f q.0 ≡ f q.1) → (i j : ℕ) → i < n → j < n → joined i j ≡ true → f i ≡ f j

-- the forest has the classes of the first pairs, which are among all pairs
pub record IsForest (n : ℕ) (first all : List (ℕ × ℕ)) (p : List ℕ) : Type 0 where
  pub long : length p ≡ n
  pub falls : Falls p
  pub same : (q : ℕ × ℕ) → In q first → root p q.0 ≡ root p q.1
  pub chained : (joined : ℕ → ℕ → Bool) → HasChains joined all n → (x : ℕ) → x < n → Chain joined (range_with_len 0 n) x (root p x)
