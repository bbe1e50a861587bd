-- Maps of labels, as lists of pairs of a label and the one that it becomes.
use Rattle.std.specs.Prelude.{ℕ, Bool, true, not, ◌&&◌, ◌==◌, List, [], ◌∷◌, map, if◌then◌else◌, nat_eq, unwrap_or}
use Rattle.std.specs.List.{list_any}
use Rattle.std.specs.HashMap.{HashMap, get}
use Rattle.std.specs.Ordering.{nat_cmp}
use Rattle.std.specs.Cmp.Lexicographic.{pointwise}
use Rattle.simplex.specs.InOrder.{in_order}
use Rattle.simplex.specs.SimplexFault.{set}
use Rattle.facet_set.specs.Complex.{generated, verts}

-- what the label becomes
abbrev pub image_of : List (ℕ × ℕ) → ℕ → ℕ
image_of [] a = a
image_of (p ∷ m) a = if p.0 == a then p.1 else image_of m a

-- what the label becomes by the table: itself where it does not stand there
abbrev pub becomes : {S : Type 0} → HashMap ℕ ℕ S → ℕ → ℕ
becomes images a = unwrap_or (get nat_eq images a) a

-- the simplex with each label replaced
abbrev pub relabelled : List (ℕ × ℕ) → List ℕ → List ℕ
relabelled m s = set (map (image_of m) s)

-- the complex with each label replaced
abbrev pub image : List (ℕ × ℕ) → List (List ℕ) → List (List ℕ)
image m c = generated (map (λ s. in_order nat_cmp (map (image_of m) s)) c)

-- whether no number stands twice in the list
abbrev pub is_distinct : List ℕ → Bool
is_distinct [] = true
is_distinct (a ∷ rest) = not (list_any (λ b. a == b) rest) && is_distinct rest

-- whether the first members are the vertices in increasing order, and the second ones differ
abbrev pub is_map : List (ℕ × ℕ) → List (List ℕ) → Bool
is_map m c = pointwise nat_eq (map (λ p. p.0) m) (verts c) && is_distinct (map (λ p. p.1) m)
