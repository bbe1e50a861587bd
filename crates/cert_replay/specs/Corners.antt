-- The corners of a complex: the pairs of a label and a facet that has it.
use Rattle.std.specs.Prelude.{◌≡◌, ◌<◌, ℕ, List, map, ◌⊎◌, ◌↔◌, ◌==◌, IsTrue}
use Rattle.std.specs.Ordering.{nat_cmp, ordering_then}
use Rattle.std.specs.declared.cmp.Ordering.{Ordering}
use Rattle.std.specs.List.{filter, list_all}
use Rattle.simplex.specs.Members.{In}
use Rattle.simplex.specs.Simplex.{is_simplex, simplex_cmp}
use Rattle.facet_set.specs.Complex.{simplices, is_complex}
use Rattle.facet_set.specs.Numbers.{is_pure, size}

-- by the label, and then by the facet
abbrev pub corner_cmp : ℕ × List ℕ → ℕ × List ℕ → Ordering
corner_cmp p q = ordering_then (nat_cmp p.0 q.0) (simplex_cmp p.1 q.1)

-- the facets in the corners
abbrev pub facets_of : List (ℕ × List ℕ) → List (List ℕ)
facets_of corners = simplices (map (λ p. p.1) corners)

-- the list has just the corners of the complex
pub record AreCorners (c : List (List ℕ)) (corners : List (ℕ × List ℕ)) : Type 0 where
  pub from_corner : (p : ℕ × List ℕ) → In p corners → In p.1 c × In p.0 p.1
  pub to_corner : (p : ℕ × List ℕ) → In p.1 c → In p.0 p.1 → In p corners

-- those at one label
abbrev pub corners_at : ℕ → List (ℕ × List ℕ) → List (ℕ × List ℕ)
corners_at v corners = filter (λ p. p.0 == v) corners

-- the corners of one facet
abbrev pub IsCornerOf : List ℕ → ℕ × List ℕ → Type 0
IsCornerOf s p = (p.1 ≡ s) × In p.0 p.1

-- the list has those of the facet besides, or no more
abbrev pub HasMore : List ℕ → List (ℕ × List ℕ) → List (ℕ × List ℕ) → Type 0
HasMore s old new = (p : ℕ × List ℕ) → In p new ↔ (In p old ⊎ IsCornerOf s p)

abbrev pub HasLess : List ℕ → List (ℕ × List ℕ) → List (ℕ × List ℕ) → Type 0
HasLess s old new = (p : ℕ × List ℕ) → In p new ↔ (In p old × (IsCornerOf s p → ⊥))

-- the list has the corners of all these facets besides, or none of them
abbrev pub HasAll : List (List ℕ) → List (ℕ × List ℕ) → List (ℕ × List ℕ) → Type 0
HasAll facets old new = (p : ℕ × List ℕ) → In p new ↔ (In p old ⊎ (In p.1 facets × In p.0 p.1))

abbrev pub HasNone : List (List ℕ) → List (ℕ × List ℕ) → List (ℕ × List ℕ) → Type 0
HasNone facets old new = (p : ℕ × List ℕ) → In p new ↔ (In p old × (In p.1 facets × In p.0 p.1 → ⊥))

-- a pure complex whose facets have n labels, at least one, and its corners
pub record IsTable (c : List (List ℕ)) (n : ℕ) (corners : List (ℕ × List ℕ)) : Type 0 where
  pub simple : IsTrue (list_all is_simplex c)
  pub complex : IsTrue (is_complex c)
  pub pure : IsTrue (is_pure c)
  pub size_is : n ≡ size c
  pub some : 0 < n
  pub corners_are : AreCorners c corners
