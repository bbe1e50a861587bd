-- Bistellar flips.
use Rattle.std.specs.Prelude.{ℕ, zero, suc, ◌+◌, ◌-◌, Bool, true, not, ◌&&◌, List, [], ◌∷◌, ◌++◌, map, length, nat_le, nat_lt, ◌==◌, Option, option_to_list, Some, None, if◌then◌else◌}
use Rattle.std.specs.List.{list_all, filter, filter_map}
use Rattle.std.specs.Ordering.{eq_by_cmp}
use Rattle.std.specs.Cmp.Lexicographic.{slice_cmp}
use Rattle.simplex.specs.declared.flip.Flip.{Flip}
use Rattle.simplex.specs.Simplex.{is_within, is_disjoint, union, without, minus, simplex_cmp, label_limit}
use Rattle.facet_set.specs.Complex.{simplices, is_face, facets_with, verts}
use Rattle.facet_set.specs.Numbers.{size, is_pure, faces_of_size}
use Rattle.simplex.specs.Flip.{inverse}

-- whether two lists of facets are one
abbrev pub same_facets : List (List ℕ) → List (List ℕ) → Bool
same_facets = eq_by_cmp (slice_cmp simplex_cmp)

-- the sets A ∪ (B minus b), for b in B
abbrev pub ball : List ℕ → List ℕ → List (List ℕ)
ball a b = simplices (map (λ x. union a (without b x)) b)

-- the five parts, in the order of refusal
abbrev pub flip_parts : List (List ℕ) → List ℕ → List ℕ → List Bool
flip_parts c a b =
    is_pure c
    ∷ (nat_lt 0 (length a) && nat_lt 0 (length b) && (length a + length b == size c + 1))
    ∷ is_disjoint a b
    ∷ same_facets (facets_with c a) (ball a b)
    ∷ not (is_face c b)
    ∷ []

abbrev pub allowed : List (List ℕ) → List ℕ → List ℕ → Bool
allowed c a b = list_all (λ p. p) (flip_parts c a b)

-- the facets that contain A go, and the sets B ∪ (A minus a) come
abbrev pub flip : List (List ℕ) → List ℕ → List ℕ → List (List ℕ)
flip c a b = simplices (filter (λ s. not (is_within a s)) c ++ ball b a)

-- the least number from n on that is not in the set
abbrev pub least_missing : ℕ → List ℕ → ℕ
least_missing n [] = n
least_missing n (v ∷ vs) = if n == v then least_missing (n + 1) vs else n

-- the least label that is no vertex, if there is one
abbrev pub fresh : List (List ℕ) → Option ℕ
fresh c = let a = least_missing 1 (verts c) in if nat_le a label_limit then Some a else None

-- the labels that the facets with A have beside those of A
abbrev pub link_vertices : List (List ℕ) → List ℕ → List ℕ
link_vertices c a = minus (verts (facets_with c a)) a

-- the set that a flip of class i at A would put in
abbrev pub counterpart : List (List ℕ) → ℕ → List ℕ → List ℕ
counterpart c zero a = option_to_list (fresh c)
counterpart c (suc i) a = link_vertices c a

abbrev pub option_of : List (List ℕ) → ℕ → List ℕ → Option Flip
option_of c i a =
    let b = counterpart c i a in
    if allowed c a b && (length b == i + 1) then Some (record { a = a; b = b }) else None

-- all allowed flips of the class, in the order of A
abbrev pub options : List (List ℕ) → ℕ → List Flip
options c i = filter_map (option_of c i) (faces_of_size c (size c - i))

-- whether the complex is a pure complex of dimension d with d+2 vertices and d+2 facets
abbrev pub is_simplex_boundary : List (List ℕ) → Bool
is_simplex_boundary c = is_pure c && (length (verts c) == size c + 1) && (length c == size c + 1)

-- the complex after the flips
abbrev pub after : List (List ℕ) → List Flip → List (List ℕ)
after c [] = c
after c (m ∷ ms) = after (flip c m.a m.b) ms

-- each flip is allowed where it stands
abbrev pub goes : List (List ℕ) → List Flip → Bool
goes c [] = true
goes c (m ∷ ms) = allowed c m.a m.b && goes (flip c m.a m.b) ms

-- the inverses, last first
abbrev pub undoing : List Flip → List Flip
undoing [] = []
undoing (m ∷ ms) = undoing ms ++ inverse m ∷ []
