-- The walk by bistellar flips (own, after Bjorner and Lutz): the greatest class that makes the complex smaller first, and where
-- there is none, some flips of the other classes, while the heat lasts.
--     pool c heat           the options to choose from, and the heat after the choice
--     pick c heat w         the option of the pool numbered w mod count, with the heat after it, if there is one
--     walk c seed budget    the flips of the walk, one for each word of the seed, up to the first simplex boundary
--     has_met c ms          whether the flips from c end at a simplex boundary
--     to_goal c ms          those of them that lead to the goal
--     goal c ms             the last complex where they met, and else the first one with the fewest facets
--     standing_after c ms   a session that has come from c by these flips
use Rattle.std.specs.Prelude.{ℕ, zero, suc, ◌-◌, ◌*◌, ◌%◌, Bool, true, false, ◌&&◌, List, [], ◌∷◌, map, length, nat_le, nat_lt, ◌==◌, take, min, Option, Some, None, option_map, if◌then◌else◌, slice_get}
use Rattle.std.specs.List.{filter, flat_map, position_or_len, range_with_len}
use Rattle.simplex.specs.declared.flip.Flip.{Flip}
use Rattle.facet_set.specs.Numbers.{size}
use Rattle.facet_set.specs.Flips.{flip, options, is_simplex_boundary, after}
use Rattle.flip_table.specs.Session.{Standing}
use Rattle.seeded_words.specs.Words.{words}

-- the numbers below n, the greatest first
abbrev pub below : ℕ → List ℕ
below zero = []
below (suc n) = n ∷ below n

-- whether 2i > d, where r is d+1: a flip of class i then leaves fewer facets
abbrev pub is_shrinking : ℕ → ℕ → Bool
is_shrinking r i = nat_le r (2 * i)

-- whether 1 ≤ i and 2i ≤ d
abbrev pub is_mixing : ℕ → ℕ → Bool
is_mixing r i = nat_le 1 i && nat_lt (2 * i) r

-- the first list that is not empty
abbrev pub first_filled : {X : Type 0} → List (List X) → List X
first_filled [] = []
first_filled ([] ∷ rest) = first_filled rest
first_filled ((x ∷ xs) ∷ rest) = x ∷ xs

-- the options of the greatest class that has some and makes the complex smaller
abbrev pub best_options : List (List ℕ) → List Flip
best_options c = first_filled (map (options c) (filter (is_shrinking (size c)) (below (size c))))

-- the options of the other classes but 0, in increasing order of the class
abbrev pub mixed_options : List (List ℕ) → List Flip
mixed_options c = flat_map (options c) (filter (is_mixing (size c)) (range_with_len 0 (size c)))

-- these, and those of class 0 where there are none
abbrev pub other_options : List (List ℕ) → List Flip
other_options c = first_filled (mixed_options c ∷ options c 0 ∷ [])

-- at heat 0 the best options; where there are none the others, and the heat becomes 5(d+1) first
abbrev pub pool : List (List ℕ) → ℕ → List Flip × ℕ
pool c zero = if nat_lt 0 (length (best_options c)) then (best_options c, 0) else (other_options c, 5 * size c - 1)
pool c (suc heat) = (other_options c, heat)

-- the flip numbered w mod count, if there is one
abbrev pub chosen : List Flip → ℕ → Option Flip
chosen ms w = slice_get ms (w % length ms)

abbrev pub pick : List (List ℕ) → ℕ → ℕ → Option (Flip × ℕ)
pick c heat w = option_map (λ m. (m, (pool c heat).1)) (chosen (pool c heat).0 w)

-- the flips from the complex with this heat, one for each word, up to the first simplex boundary
abbrev pub flips_by : List (List ℕ) → ℕ → List ℕ → List Flip
flips_by c heat [] = []
flips_by c heat (w ∷ ws) =
    elim (is_simplex_boundary c) [
      | true ↦ []
      | false ↦ elim (pick c heat w) [ None ↦ [] | Some p ↦ p.0 ∷ flips_by (flip c p.0.a p.0.b) p.1 ws ]
    ]

abbrev pub walk : List (List ℕ) → ℕ → ℕ → List Flip
walk c seed budget = flips_by c 0 (words budget seed)

-- the numbers of facets of the complexes on the way, c and the last one included
abbrev pub facet_counts : List (List ℕ) → List Flip → List ℕ
facet_counts c [] = length c ∷ []
facet_counts c (m ∷ ms) = length c ∷ facet_counts (flip c m.a m.b) ms

abbrev pub least : List ℕ → ℕ
least [] = 0
least (n ∷ []) = n
least (n ∷ m ∷ ns) = min n (least (m ∷ ns))

-- the first place of the least number
abbrev pub place_of_least : List ℕ → ℕ
place_of_least ns = position_or_len (λ n. n == least ns) ns

abbrev pub has_met : List (List ℕ) → List Flip → Bool
has_met c ms = is_simplex_boundary (after c ms)

abbrev pub to_goal : List (List ℕ) → List Flip → List Flip
to_goal c ms = if has_met c ms then ms else take (place_of_least (facet_counts c ms)) ms

abbrev pub goal : List (List ℕ) → List Flip → List (List ℕ)
goal c ms = after c (to_goal c ms)

-- a session that came from c by the flips, with nothing staged
abbrev pub standing_after : List (List ℕ) → List Flip → Standing
standing_after c ms = record { present = after c ms; journal = ms; staged = None }
