-- What a flip does to ranks. It leaves all faces with fewer labels than both of its sets.
use Rattle.std.specs.Prelude.{◌≡◌, ℕ, ◌+◌, ◌<◌, ◌≤◌, List, length, min, Option, None, IsTrue}
use Rattle.std.specs.List.{list_all}
use Rattle.simplex.specs.Simplex.{is_simplex}
use Rattle.facet_set.specs.Complex.{is_complex}
use Rattle.facet_set.specs.Flips.{allowed, flip}
use Rattle.betti_tables.specs.Ranks.{rank_at}
use Rattle.betti_tables.specs.Table.{AreRanksOf, kept}

-- rank(k) stays where both sets of the flip have more labels than the faces of dimension k
abbrev pub RanksStayBelow : Type 0
RanksStayBelow =
    (c : List (List ℕ)) (a b : List ℕ) → IsTrue (list_all is_simplex c) → IsTrue (is_complex c) → IsTrue (is_simplex a) → IsTrue (is_simplex b) → IsTrue (allowed c a b)
    → (k : ℕ) → k + 1 < min (length a) (length b) → rank_at (flip c a b) k ≡ rank_at c k

-- so the ranks that are kept stay right where rank(k) is not kept for k + 1 from that number of labels on
abbrev pub KeptRanksStay : Type 0
KeptRanksStay =
    (c : List (List ℕ)) (a b : List ℕ) → IsTrue (list_all is_simplex c) → IsTrue (is_complex c) → IsTrue (is_simplex a) → IsTrue (is_simplex b) → IsTrue (allowed c a b)
    → (t : List (Option ℕ)) → AreRanksOf c t → ((k : ℕ) → min (length a) (length b) ≤ k + 1 → kept t k ≡ None) → AreRanksOf (flip c a b) t
