-- Spans and ranks over the field of two elements. A vector is the finite set of the places where it is 1.
use Rattle.std.specs.Prelude.{ℕ, ◌+◌, Bool, true, false, not, ◌||◌, List, [], ◌∷◌, ◌++◌, if◌then◌else◌}
use Rattle.std.specs.declared.cmp.Ordering.{Ordering}
use Rattle.std.specs.List.{filter}
use Rattle.simplex.specs.InOrder.{is_member, in_order}

-- whether the set has no member
abbrev pub is_empty : {X : Type 0} → List X → Bool
is_empty [] = true
is_empty (x ∷ s) = false

module _ {X : Type 0} (cmp : X → X → Ordering) where
  -- the members of exactly one of the sets
  abbrev pub difference : List X → List X → List X
  difference s t = in_order cmp (filter (λ x. not (is_member cmp x t)) s ++ filter (λ x. not (is_member cmp x s)) t)

  -- whether some sublist of the sets has this one as its symmetric difference
  abbrev pub is_in_span : List (List X) → List X → Bool
  is_in_span [] s = is_empty s
  is_in_span (t ∷ ts) s = is_in_span ts s || is_in_span ts (difference s t)

  -- the number of places whose set is not in the span of the later ones
  abbrev pub rank : List (List X) → ℕ
  rank [] = 0
  rank (t ∷ ts) = if is_in_span ts t then rank ts else rank ts + 1
