-- Complexes with other labels.
use Rattle.std.specs.Prelude.{ℕ, ◌+◌, Bool, ◌&&◌, List, [], ◌∷◌, map, length}
use Rattle.std.specs.List.{list_all, range_with_len, zip}
use Rattle.simplex.specs.Simplex.{is_label, is_same}
use Rattle.simplex.specs.SimplexFault.{set}
use Rattle.facet_set.specs.Complex.{verts}
use Rattle.facet_set.specs.Maps.{is_distinct}
use Rattle.constructions.specs.declared.make_fault.MakeFault.{MakeFault}
use Rattle.constructions.specs.declared.make_fault.MakeFault.TheVariants.{NotMap, LabelRange}

-- the labels in order, each beside one of the labels that follow n
abbrev pub renumbering : ℕ → List ℕ → List (ℕ × ℕ)
renumbering n vs = zip vs (range_with_len (n + 1) (length vs))

-- the pairs turned round
abbrev pub turned : List (ℕ × ℕ) → List (ℕ × ℕ)
turned m = map (λ p. (p.1, p.0)) m

-- whether the first members are the vertices, each once and in any order, and no second member stands twice
abbrev pub is_renaming : List (ℕ × ℕ) → List (List ℕ) → Bool
is_renaming m c = is_distinct (map (λ p. p.0) m) && is_same (set (map (λ p. p.0) m)) (verts c) && is_distinct (map (λ p. p.1) m)

-- the conditions of a relabelling, in order
abbrev pub relabel_tests : List (List ℕ) → List (ℕ × ℕ) → List (Bool × MakeFault)
relabel_tests c m = (is_renaming m c, NotMap) ∷ (list_all (λ p. is_label p.1) m, LabelRange) ∷ []
