-- The certificate that bytes spell, read line by line. What a line may be is guessed, and the guess is checked against its spelling.
use Rattle.std.specs.Prelude.{ℕ, ◌+◌, ◌-◌, ◌^◌, not, List, [], ◌∷◌, map, length, take, min, Option, Some, None, Result, Ok, Err, if◌then◌else◌, ◌==◌, codes, option_and_then}
use Rattle.std.specs.List.{filter, slice_split}
use Rattle.simplex.specs.declared.flip.Flip.{Flip}
use Rattle.plain_text.specs.Bytes.{is_digit, value_onto, is_text}
use Rattle.flip_certificate.specs.declared.line.Line.{Line}
use Rattle.flip_certificate.specs.declared.line.Line.TheVariants.{Heading, Complex, Move, Map, Link, End}
use Rattle.flip_certificate.specs.declared.line.Kind.{Kind}
use Rattle.flip_certificate.specs.declared.line.Kind.TheVariants as kind
use Rattle.flip_certificate.specs.declared.line.Word.{Word}
use Rattle.flip_certificate.specs.declared.line.Word.TheVariants as word
use Rattle.flip_certificate.specs.declared.certificate.Certificate.{Certificate}
use Rattle.flip_certificate.specs.declared.draft.Draft.{Draft}
use Rattle.flip_certificate.specs.declared.draft.Draft.TheVariants as draft
use Rattle.flip_certificate.specs.Drafts.{next}
use Rattle.flip_certificate.specs.Lines.{is_line, line_text}

-- the number that digits stand for, or the last that 32 bits hold where that is less
abbrev pub number_of : List ℕ → ℕ
number_of ds = min (value_onto 0 ds) (2 ^ 32 - 1)

-- the numbers whose digits stand in the bytes
abbrev pub numbers_in : List ℕ → List ℕ
numbers_in bytes = map number_of (filter (λ ds. not (length ds == 0)) (slice_split (λ c. not (is_digit c)) bytes))

-- what stands before each closing bracket but the last
abbrev pub list_pieces : List ℕ → List (List ℕ)
list_pieces bytes = let ps = slice_split (λ c. c == 93) bytes in take (length ps - 2) ps

abbrev pub lists_in : List ℕ → List (List ℕ)
lists_in bytes = map numbers_in (list_pieces bytes)

abbrev pub pair_of : List ℕ → ℕ × ℕ
pair_of (a ∷ b ∷ []) = (a, b)
pair_of ns = (0, 0)

abbrev pub pairs_in : List ℕ → List (ℕ × ℕ)
pairs_in bytes = map pair_of (lists_in bytes)

-- what a word may say
abbrev pub kind_of : List ℕ → Kind
kind_of w = if is_text w (codes "sphere") then kind.Sphere else (if is_text w (codes "manifold") then kind.Manifold else kind.Equivalent)

abbrev pub word_of : List ℕ → Word
word_of w = if is_text w (codes "facets") then word.Facets else (if is_text w (codes "from") then word.From else word.To)

abbrev pub flip_of : List ℕ → List ℕ → Flip
flip_of a b = record { a = a; b = b }

-- the line that two words may be, and three
abbrev pub guess_two : List ℕ → List ℕ → Line
guess_two w x =
    if is_text w (codes "map") then Map (pairs_in x)
    else (if is_text w (codes "link") then Link (number_of x) else Complex (word_of w) (lists_in x))

abbrev pub guess_three : List ℕ → List ℕ → List ℕ → Line
guess_three w x y = if is_text w (codes "flip") then Move (flip_of (numbers_in x) (numbers_in y)) else Heading (kind_of y)

-- the line that its words may be
abbrev pub guess_line : List (List ℕ) → Line
guess_line (w ∷ x ∷ []) = guess_two w x
guess_line (w ∷ x ∷ y ∷ []) = guess_three w x y
guess_line ws = End

-- the words of a line
abbrev pub words : List ℕ → List (List ℕ)
words bytes = slice_split (λ c. c == 32) bytes

-- the line, if it is one
abbrev pub checked : Line → Option Line
checked l = if is_line l then Some l else None

-- the line, if these bytes are its text
abbrev pub spelled_as : List ℕ → Line → Option Line
spelled_as bytes l = if is_text bytes (line_text l) then Some l else None

-- the line that the bytes are, if they are one
abbrev pub line_of : List ℕ → Option Line
line_of bytes = option_and_then (spelled_as bytes) (checked (guess_line (words bytes)))

-- the draft with the line that the bytes are, if a certificate may go on so
abbrev pub stepped : Draft → List ℕ → Option Draft
stepped d bytes = option_and_then (next d) (line_of bytes)

-- what is read from a draft on, and the number of the line where there is none
abbrev pub read_on : ℕ → Option Draft → (Draft → Result Certificate ℕ) → Result Certificate ℕ
read_on k None f = Err k
read_on k (Some d) f = f d

-- what is read at the end: behind the last line feed there is nothing
abbrev pub finished : ℕ → Draft → List ℕ → Result Certificate ℕ
finished k (draft.Done c) [] = Ok c
finished k d bytes = Err k

-- what is read from a draft on, where the next line has this number and these are the lines, or the number of the line that does not fit
abbrev pub reading_from : ℕ → Draft → List (List ℕ) → Result Certificate ℕ
reading_from k d [] = Err k
reading_from k d (l ∷ []) = finished k d l
reading_from k d (l ∷ m ∷ ls) = read_on k (stepped d l) (λ e. reading_from (k + 1) e (m ∷ ls))

-- the lines of the bytes, and what stands behind the last line feed
abbrev pub lines_in : List ℕ → List (List ℕ)
lines_in bytes = slice_split (λ c. c == 10) bytes

-- the certificate that the bytes spell, or the line at which they are none
unfoldable pub reading : List ℕ → Result Certificate ℕ
reading bytes = reading_from 1 draft.Begun (lines_in bytes)
