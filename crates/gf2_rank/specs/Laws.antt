-- What makes the definitions of spans and ranks trustworthy, and of use for sets of any things.
use Rattle.std.specs.Prelude.{◌≡◌, ℕ, ◌≤◌, ◌<◌, List, [], ◌∷◌, ◌++◌, map, length, IsPermutation, IsTrue, All, Contains, slice_index_or, ◌↔◌}
use Rattle.std.specs.Ordering.{nat_cmp}
use Rattle.std.specs.List.{AllZip}
use Rattle.simplex.specs.InOrder.{is_increasing}
use Rattle.simplex.specs.Simplex.{simplex_cmp}
use Rattle.gf2_rank.specs.Span.{difference, is_in_span, rank}

-- the symmetric differences of all sublists
abbrev pub sums : List (List ℕ) → List (List ℕ)
sums [] = [] ∷ []
sums (t ∷ ts) = sums ts ++ map (difference nat_cmp t) (sums ts)

-- a set is in the span of others where it is one of these
abbrev pub SpanHasTheSums : Type 0
SpanHasTheSums = (ts : List (List ℕ)) (s : List ℕ) → IsTrue (is_increasing nat_cmp s) → IsTrue (is_in_span nat_cmp ts s) ↔ Contains (sums ts) s

-- the rank does not depend on the order of the sets
abbrev pub RankIsOfAnyOrder : Type 0
RankIsOfAnyOrder = (ts us : List (List ℕ)) → IsPermutation ts us → rank nat_cmp us ≡ rank nat_cmp ts

-- it is at most the number of the sets
abbrev pub RankIsWithinTheColumns : Type 0
RankIsWithinTheColumns = (ts : List (List ℕ)) → rank nat_cmp ts ≤ length ts

-- and at most the number of the rows that they have their members from
abbrev pub RankIsWithinTheRows : Type 0
RankIsWithinTheRows = (rows : List ℕ) (ts : List (List ℕ)) → All (λ s. (r : ℕ) → Contains s r → Contains rows r) ts → rank nat_cmp ts ≤ length rows

-- x is the set of those of the names whose places are in s
pub record IsNamed (names : List (List ℕ)) (s : List ℕ) (x : List (List ℕ)) : Type 0 where
  pub places : (k : ℕ) → Contains s k → k < length names
  pub values : (name : List ℕ) → Contains x name → Contains names name
  pub same : (k : ℕ) (d : List ℕ) → k < length names → Contains s k ↔ Contains x (slice_index_or names k d)

-- sets of simplices have the rank of the sets of their places in any list of names
abbrev pub RankIsThatOfThePlaces : Type 0
RankIsThatOfThePlaces =
    (names : List (List ℕ)) (ts : List (List ℕ)) (xs : List (List (List ℕ))) → AllZip (IsNamed names) ts xs → rank simplex_cmp xs ≡ rank nat_cmp ts
