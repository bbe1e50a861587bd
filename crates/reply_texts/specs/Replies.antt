-- The texts of replies. Each ends with a line feed.
use Rattle.std.specs.Prelude.{ℕ, ℤ, Bool, List, [], ◌∷◌, ◌++◌, map, length, codes, decimal, if◌then◌else◌}
use Rattle.std.specs.Fmt.{signed_decimal}
use Rattle.simplex.specs.declared.flip.Flip.{Flip}
use Rattle.conditions.specs.Condition.{condition_name}
use Rattle.plain_text.specs.Printing.{bracketed_text, facets_text, integers_text, simplex_text}
use Rattle.conditions.specs.declared.condition.Condition.{Condition}
use Rattle.flip_certificate.specs.Count.{flip_count}
use Rattle.flip_certificate.specs.Lines.{kind_of, kind_text, lines_of, text_of}
use Rattle.flip_certificate.specs.declared.certificate.Certificate.{Certificate}

-- the text with its line feed
abbrev pub line : List ℕ → List ℕ
line text = text ++ 10 ∷ []

-- the reply to a command that a condition refuses
abbrev pub refusal_text : Condition → List ℕ
refusal_text c = line (codes "refused " ++ condition_name c)

-- the reply that shows the facets of a complex
abbrev pub facets_reply : List (List ℕ) → List ℕ
facets_reply c = line (codes "facets " ++ facets_text c)

-- the reply that shows faces
abbrev pub faces_reply : List (List ℕ) → List ℕ
faces_reply faces = line (codes "faces " ++ facets_text faces)

-- the reply of an assignment or a change: the number of facets that the name has after it
abbrev pub ok_reply : List (List ℕ) → List ℕ
ok_reply c = line (codes "ok " ++ decimal (length c))

-- the replies that show a number, and a list of numbers, behind a word and its space
abbrev pub number_reply : List ℕ → ℤ → List ℕ
number_reply word z = line (word ++ signed_decimal z)

abbrev pub numbers_reply : List ℕ → List ℤ → List ℕ
numbers_reply word zs = line (word ++ integers_text zs)

-- the reply that says yes or no behind a word and its space
abbrev pub yes_or_no : List ℕ → Bool → List ℕ
yes_or_no word b = line (word ++ (if b then codes "yes" else codes "no"))

-- the texts of a flip and of a list of flips
abbrev pub flip_text : Flip → List ℕ
flip_text m = bracketed_text (simplex_text m.a ∷ simplex_text m.b ∷ [])

abbrev pub flips_text : List Flip → List ℕ
flips_text ms = bracketed_text (map flip_text ms)

-- the reply that shows allowed flips
abbrev pub flips_reply : List Flip → List ℕ
flips_reply ms = line (codes "options " ++ flips_text ms)

-- the reply of a walk: the number of flips to its goal, and the number of facets of the goal
abbrev pub reduced_reply : List Flip → List (List ℕ) → List ℕ
reduced_reply ms c = line (codes "reduced " ++ decimal (length ms) ++ 32 ∷ decimal (length c))

-- the reply of a verdict that is yes: what the certificate is of, the number of its flips, and its text
abbrev pub yes_reply : Certificate → List ℕ
yes_reply k = line (kind_text (kind_of k) ++ 32 ∷ decimal (flip_count k)) ++ text_of (lines_of k)

-- the replies of a verdict that is open: the number of flips that were made in vain, and the vertex at which they were
abbrev pub undecided_reply : ℕ → List ℕ
undecided_reply spent = line (codes "undecided " ++ decimal spent)

abbrev pub undecided_at_reply : ℕ → ℕ → List ℕ
undecided_at_reply spent vertex = line (codes "undecided " ++ decimal spent ++ codes " vertex " ++ decimal vertex)
