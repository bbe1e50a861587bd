-- Stacked spheres: the boundary of a simplex after flips of class 0, one for each word.
use Rattle.std.specs.Prelude.{◌≡◌, ℕ, ◌+◌, ◌≤◌, ◌%◌, Bool, List, [], ◌∷◌, ◌++◌, length, nat_le, slice_index_or, option_to_list, IsTrue}
use Rattle.std.specs.List.{list_all}
use Rattle.simplex.specs.declared.flip.Flip.{Flip}
use Rattle.simplex.specs.Flip.{class}
use Rattle.simplex.specs.Simplex.{label_limit, len_limit}
use Rattle.facet_set.specs.Flips.{flip, fresh, after, goes}
use Rattle.facet_set.specs.Numbers.{weight}
use Rattle.seeded_words.specs.Words.{words}
use Rattle.constructions.specs.declared.make_fault.MakeFault.{MakeFault}
use Rattle.constructions.specs.declared.make_fault.MakeFault.TheVariants.{Range, DimLimit, LabelRange, Size}
use Rattle.constructions.specs.Spheres.{bdsimplex}

-- the flip of a word: the facet with its number goes out, in the increasing order of the facets, and the least new label comes in
abbrev pub stacking : List (List ℕ) → ℕ → Flip
stacking c w = record { a = slice_index_or c (w % length c) []; b = option_to_list (fresh c) }

-- the flips of the words, one after another
abbrev pub stackings : List (List ℕ) → List ℕ → List Flip
stackings c [] = []
stackings c (w ∷ ws) = let m = stacking c w in m ∷ stackings (flip c m.a m.b) ws

-- the flips that make the stacked sphere
unfoldable pub stacking_flips : ℕ → ℕ → ℕ → List Flip
stacking_flips d n seed = stackings (bdsimplex (d + 1)) (words n seed)

-- the stacked sphere of dimension d after n flips
unfoldable pub stacked : ℕ → ℕ → ℕ → List (List ℕ)
stacked d n seed = after (bdsimplex (d + 1)) (stacking_flips d n seed)

-- the limits of the numbers, in the order of refusal
abbrev pub stacked_limits : ℕ → ℕ → List (Bool × MakeFault)
stacked_limits d n =
    (nat_le 1 d, Range)
    ∷ (nat_le (d + 1) len_limit, DimLimit)
    ∷ (nat_le (d + 2 + n) label_limit, LabelRange)
    ∷ []

-- and then whether there is room
abbrev pub stacked_tests : ℕ → ℕ → ℕ → ℕ → List (Bool × MakeFault)
stacked_tests d n seed room = stacked_limits d n ++ (nat_le (weight (stacked d n seed)) room, Size) ∷ []

-- within the limits each flip is allowed where it stands, and of class 0
abbrev pub StackedGoes : Type 0
StackedGoes =
    (d n seed : ℕ) → 1 ≤ d → d + 1 ≤ len_limit → d + 2 + n ≤ label_limit
    → IsTrue (goes (bdsimplex (d + 1)) (stacking_flips d n seed))
    × (length (stacking_flips d n seed) ≡ n)
    × IsTrue (list_all (λ (m : Flip). nat_le (class m) 0) (stacking_flips d n seed))
    × (stacked d n seed ≡ after (bdsimplex (d + 1)) (stacking_flips d n seed))
