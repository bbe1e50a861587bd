-- Simplicial complexes, as the lists of their facets in increasing order.
--     generated L      the complex whose facets are the members of L that lie properly in no other member
--     faces C          all subsets of facets
--     is_complex L     the list is in increasing order, and no member lies in another
use Rattle.std.specs.Prelude.{ℕ, Bool, not, ◌&&◌, List}
use Rattle.std.specs.Ordering.{nat_cmp}
use Rattle.std.specs.List.{list_any, list_all, filter, flat_map}
use Rattle.simplex.specs.InOrder.{is_member, is_increasing, in_order}
use Rattle.simplex.specs.Simplex.{is_within, subsets, simplex_cmp, is_same}

-- the set of simplices in the list, each once, in increasing order
abbrev pub simplices : List (List ℕ) → List (List ℕ)
simplices = in_order simplex_cmp

-- whether the simplex stands in the list
abbrev pub stands_in : List (List ℕ) → List ℕ → Bool
stands_in l s = is_member simplex_cmp s l

-- whether the first simplex lies in the second and is another
abbrev pub is_proper_face : List ℕ → List ℕ → Bool
is_proper_face s t = is_within s t && not (is_same s t)

-- whether the simplex lies properly in no member of the list
abbrev pub is_maximal_in : List (List ℕ) → List ℕ → Bool
is_maximal_in l s = not (list_any (is_proper_face s) l)

-- the members that lie properly in no other member
abbrev pub generated : List (List ℕ) → List (List ℕ)
generated l = simplices (filter (is_maximal_in l) l)

-- whether the list is that of the facets of a complex
abbrev pub is_complex : List (List ℕ) → Bool
is_complex l = is_increasing simplex_cmp l && list_all (is_maximal_in l) l

-- whether the simplex is a face, that is, lies in a facet
abbrev pub is_face : List (List ℕ) → List ℕ → Bool
is_face c s = list_any (is_within s) c

-- all faces, the empty one too
abbrev pub faces : List (List ℕ) → List (List ℕ)
faces c = simplices (flat_map subsets c)

-- the facets that contain the simplex
abbrev pub facets_with : List (List ℕ) → List ℕ → List (List ℕ)
facets_with c s = filter (is_within s) c

-- the labels of the facets
abbrev pub verts : List (List ℕ) → List ℕ
verts c = in_order nat_cmp (flat_map (λ s. s) c)
