-- The texts of numbers, simplices and lists.
use Rattle.std.specs.Prelude.{◌≡◌, ℕ, ℤ, List, [], ◌∷◌, ◌++◌, map, take}
use Rattle.std.specs.Fmt.{decimal, signed_decimal}
use Rattle.std.specs.List.{join_with_byte}

-- the texts in brackets, with commas between them
abbrev pub bracketed_text : List (List ℕ) → List ℕ
bracketed_text xs = 91 ∷ join_with_byte 44 xs ++ 93 ∷ []

abbrev pub simplex_text : List ℕ → List ℕ
simplex_text s = bracketed_text (map decimal s)

abbrev pub facets_text : List (List ℕ) → List ℕ
facets_text c = bracketed_text (map simplex_text c)

-- the text of a list of integers
abbrev pub integers_text : List ℤ → List ℕ
integers_text zs = bracketed_text (map signed_decimal zs)

-- the text was appended as far as one of its fronts
abbrev pub GrowsByFront : List ℕ → List ℕ → List ℕ → Type 0
GrowsByFront old new text = (n : ℕ) × (new ≡ old ++ take n text)
