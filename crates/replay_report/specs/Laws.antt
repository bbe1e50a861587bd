-- What makes the cutting into parts believable.
use Rattle.std.specs.Prelude.{◌≡◌, ℕ, true, false, not, List, [], ◌∷◌, ◌++◌, ◌==◌, ⊤, IsTrue}
use Rattle.std.specs.List.{All, flat_map, list_all}
use Rattle.flip_certificate.specs.declared.certificate.Certificate.{Certificate}
use Rattle.flip_certificate.specs.Lines.{Spells, lines_of, text_of}
use Rattle.flip_certificate.specs.Valid.{is_valid}
use Rattle.replay_report.specs.Report.{begins_part, parts, is_accepted}

-- the text of a certificate is one part
abbrev pub SpelledIsOnePart : Type 0
SpelledIsOnePart = (c : Certificate) (bytes : List ℕ) → Spells c bytes → parts bytes ≡ bytes ∷ []

-- a line that begins no part: it ends with its line feed, and has no other
pub record IsOtherLine (l : List ℕ) : Type 0 where
  pub words : List ℕ
  pub text : l ≡ words ++ 10 ∷ []
  pub plain : IsTrue (list_all (λ c. not (c == 10)) words)
  pub other : begins_part l ≡ false

-- what transcripts are made of: lines that begin no part, and the texts of certificates
pub data Piece : Type 0 where
  line : List ℕ → Piece
  whole : Certificate → Piece

abbrev pub IsPiece : Piece → Type 0
IsPiece (line l) = IsOtherLine l
IsPiece (whole c) = ⊤

abbrev pub piece_text : Piece → List ℕ
piece_text (line l) = l
piece_text (whole c) = text_of (lines_of c)

-- the texts of the certificates among the pieces, in order
abbrev pub certificate_texts : List Piece → List (List ℕ)
certificate_texts [] = []
certificate_texts (line l ∷ ps) = certificate_texts ps
certificate_texts (whole c ∷ ps) = text_of (lines_of c) ∷ certificate_texts ps

-- the parts of a transcript are the texts of the certificates in it
abbrev pub CertificatesAreTheParts : Type 0
CertificatesAreTheParts = (ps : List Piece) → All IsPiece ps → parts (flat_map piece_text ps) ≡ certificate_texts ps

-- the text of a valid certificate is accepted
abbrev pub ValidIsAccepted : Type 0
ValidIsAccepted = (c : Certificate) (part : List ℕ) → Spells c part → IsTrue (is_valid c) → is_accepted part ≡ true
