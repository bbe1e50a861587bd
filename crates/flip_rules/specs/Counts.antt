-- What makes counting enough to find the flips of a class that is not 0.
use Rattle.std.specs.Prelude.{◌≡◌, ℕ, ◌+◌, ◌<◌, ◌≤◌, List, length, IsTrue, ◌↔◌}
use Rattle.std.specs.List.{list_all}
use Rattle.simplex.specs.Simplex.{is_simplex}
use Rattle.facet_set.specs.Complex.{is_complex, facets_with}
use Rattle.facet_set.specs.Numbers.{degree, is_pure, size}
use Rattle.facet_set.specs.Flips.{allowed, ball, link_vertices}

-- in a pure complex, the facets with a set of i labels less than a facet and with i + 1 link vertices are that set with all but one of
-- these, each left out once, exactly where they are i + 1
abbrev pub StarByCounts : Type 0
StarByCounts =
    (c : List (List ℕ)) (a : List ℕ) (i : ℕ) → IsTrue (list_all is_simplex c) → IsTrue (is_complex c) → IsTrue (is_pure c) → IsTrue (is_simplex a) → 0 < length a
    → length a + i ≡ size c → length (link_vertices c a) ≡ i + 1
    → (facets_with c a ≡ ball a (link_vertices c a)) ↔ (degree c a ≡ i + 1)

-- for a set that goes out, at most one set of two labels or more may come in: that of its link vertices
abbrev pub OneCounterpart : Type 0
OneCounterpart = (c : List (List ℕ)) (a b : List ℕ) → IsTrue (is_simplex b) → 2 ≤ length b → IsTrue (allowed c a b) → b ≡ link_vertices c a
