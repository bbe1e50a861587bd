-- How numbers are printed.
use Rattle.std.proofs.Common.{◌≡◌, ℕ, List, [], ◌∷◌, map, pos, refl, ap}
use Rattle.std.specs.Fmt.{decimal, signed_decimal}

-- numbers are printed as integers
pub number_texts : (ns : List ℕ) → map decimal ns ≡ map signed_decimal (map pos ns)
number_texts [] = refl
number_texts (n ∷ ns) = ap (λ ts. decimal n ∷ ts) (number_texts ns)
