-- Finite sets, as the lists of their members in increasing order.
--     is_member cmp x xs      x is a member of the list
--     is_increasing cmp xs    each member is below all later ones
--     in_order cmp xs         the members of the list, each once, in increasing order
use Rattle.std.specs.Prelude.{Bool, true, ◌&&◌, List, [], ◌∷◌}
use Rattle.std.specs.Ordering.{is_lt, eq_by_cmp, match_ordering}
use Rattle.std.specs.declared.cmp.Ordering.{Ordering}
use Rattle.std.specs.List.{list_any, list_all}

-- whether x is a member of the list
abbrev pub is_member : {X : Type 0} → (X → X → Ordering) → X → List X → Bool
is_member cmp x xs = list_any (eq_by_cmp cmp x) xs

-- whether each member is below all later ones
abbrev pub is_increasing : {X : Type 0} → (X → X → Ordering) → List X → Bool
is_increasing cmp [] = true
is_increasing cmp (x ∷ xs) = list_all (λ y. is_lt (cmp x y)) xs && is_increasing cmp xs

-- the list in increasing order with x put in its place, where it is no member yet
abbrev pub put : {X : Type 0} → (X → X → Ordering) → X → List X → List X
put cmp x [] = x ∷ []
put cmp x (y ∷ ys) = match_ordering (cmp x y) (x ∷ y ∷ ys) (y ∷ ys) (y ∷ put cmp x ys)

-- the members of the list, each once, in increasing order
abbrev pub in_order : {X : Type 0} → (X → X → Ordering) → List X → List X
in_order cmp [] = []
in_order cmp (x ∷ xs) = put cmp x (in_order cmp xs)
