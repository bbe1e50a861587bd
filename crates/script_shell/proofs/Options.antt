-- The numbers of options of the classes.
use Rattle.std.proofs.Common.{◌≡◌, ℕ, ◌+◌, pos, List, [], ◌∷◌, ◌++◌, map, length, refl, ap, arith}
use Rattle.std.specs.List.{range_with_len}
use Rattle.std.proofs.lemmas.List.FromFn.{map-range_with_len_more}
use Rattle.simplex.specs.declared.flip.Flip.{Flip}
use Rattle.facet_set.specs.Flips.{options}
use Rattle.shell_names.specs.State.{Complex}

-- how many options the class has
abbrev pub option_count : Complex → ℕ → ℕ
option_count c i = length (options c i)

-- one more class
pub more_counts : (c : Complex) (ns more : List ℕ) (i : ℕ) (l : List Flip) → ns ≡ map (option_count c) (range_with_len 0 i) → l ≡ options c i → more ≡ ns ++ length l ∷ [] → more ≡ map (option_count c) (range_with_len 0 (i + 1))
more_counts c ns more i l e f g = let k = map-range_with_len_more (option_count c) 0 i i (omega arith) in cc

-- the numbers as integers
pub integers_of : {X : Type 0} (f : X → ℕ) (xs : List X) → map pos (map f xs) ≡ map (λ x. pos (f x)) xs
integers_of f [] = refl
integers_of f (x ∷ xs) = ap (λ zs. pos (f x) ∷ zs) (integers_of f xs)
