-- The parts of texts that hold certificates.
use Rattle.std.proofs.Common.{◌≡◌, ℕ, Bool, true, false, not, cond, ◌&&◌, List, [], ◌∷◌, ◌++◌, map, refl, sym, ap, ◌∙◌, append_assoc, append-nil, eqb}
use Rattle.std.specs.List.{flat_map, list_all, onto_first}
use Rattle.std.proofs.lemmas.List.Elements.{All-head, All-tail}
use Rattle.std.proofs.lemmas.List.Folds.{list_all-append, list_all-map}
use Rattle.std.proofs.lemmas.List.Sums.{list_all-from_AllPass}
use Rattle.simplex.proofs.InOrderLaws.{and_left, and_right, and_both}
use Rattle.simplex.specs.declared.flip.Flip.{Flip}
use Rattle.simplex.proofs.Decided.{not_true}
use Rattle.flip_certificate.specs.declared.block.Block.{Block}
use Rattle.flip_certificate.specs.declared.certificate.Certificate.{Certificate}
use Rattle.flip_certificate.specs.declared.certificate.Certificate.TheVariants.{Sphere, Equivalent, Manifold}
use Rattle.flip_certificate.specs.declared.line.Line.{Line}
use Rattle.flip_certificate.specs.declared.line.Line.TheVariants.{Heading, Complex, Move, Map, End}
use Rattle.flip_certificate.specs.declared.line.Word.TheVariants as word
use Rattle.flip_certificate.specs.Lines.{kind_of, line_text, text_of, block_lines}
use Rattle.flip_certificate.specs.Lines.{lines_of as certificate_lines}
use Rattle.flip_certificate.proofs.EndsLaws.{no_feed, no_feed-line}
use Rattle.replay_report.specs.Report.{lines_of, begins_part, ends_part, split_parts, parts}
use Rattle.replay_report.specs.Laws.{SpelledIsOnePart, CertificatesAreTheParts, IsOtherLine, line, whole, IsPiece, piece_text}
use Rattle.replay_report.proofs.CuttingLaws.{passed, begun, longer}

-- ---- lines of a text

-- a line of no line feed but its last
pub line_in_front : (t rest : List ℕ) → no_feed t ≡ true → lines_of (t ++ 10 ∷ rest) ≡ (t ++ 10 ∷ []) ∷ lines_of rest
line_in_front [] rest h = refl
line_in_front (x ∷ t) rest h =
    ap (λ v. cond v ((10 ∷ []) ∷ lines_of (t ++ 10 ∷ rest)) (onto_first x (lines_of (t ++ 10 ∷ rest)))) (off (eqb x 10) (and_left _ _ h))
    ∙ ap (onto_first x) (line_in_front t rest (and_right (not (eqb x 10)) _ h))
  where
    off : (v : Bool) → not v ≡ true → v ≡ false
    off true e = sym e
    off false e = refl

abbrev line_bytes : Line → List ℕ
line_bytes l = line_text l ++ 10 ∷ []

next_line : (l : Line) (ls : List Line) (rest : List ℕ) → lines_of (text_of (l ∷ ls) ++ rest) ≡ line_bytes l ∷ lines_of (text_of ls ++ rest)
next_line l ls rest =
    ap lines_of (append_assoc (line_bytes l) (text_of ls) rest ∙ append_assoc (line_text l) (10 ∷ []) (text_of ls ++ rest))
    ∙ line_in_front (line_text l) (text_of ls ++ rest) (no_feed-line l)

-- ---- the lines of a certificate between the first and the last

abbrev is_inner : Line → Bool
is_inner l = not (begins_part (line_bytes l)) && not (ends_part (line_bytes l))

abbrev inner : Certificate → List Line
inner (Sphere start flips) = Complex word.Facets start ∷ map Move flips
inner (Equivalent start target first m second) = Complex word.From start ∷ Complex word.To target ∷ (map Move first ++ Map m ∷ map Move second)
inner (Manifold start blocks) = Complex word.Facets start ∷ flat_map block_lines blocks

inner_is : (c : Certificate) → certificate_lines c ≡ Heading (kind_of c) ∷ (inner c ++ End ∷ [])
inner_is (Sphere start flips) = refl
inner_is (Equivalent start target first m second) = refl
inner_is (Manifold start blocks) = refl

all_both : (xs ys : List Line) → list_all is_inner xs ≡ true → list_all is_inner ys ≡ true → list_all is_inner (xs ++ ys) ≡ true
all_both xs ys h k = list_all-append is_inner xs ys ∙ and_both _ _ h k

all_moves : (ms : List Flip) → list_all is_inner (map Move ms) ≡ true
all_moves ms = list_all-map is_inner Move ms ∙ list_all-from_AllPass (λ (m : Flip). is_inner (Move m)) ms (λ k d h. refl)

all_blocks : (bs : List Block) → list_all is_inner (flat_map block_lines bs) ≡ true
all_blocks [] = refl
all_blocks (b ∷ bs) = all_both (block_lines b) (flat_map block_lines bs) (all_moves b.flips) (all_blocks bs)

all_inner : (c : Certificate) → list_all is_inner (inner c) ≡ true
all_inner (Sphere start flips) = all_moves flips
all_inner (Equivalent start target first m second) = all_both (map Move first) (Map m ∷ map Move second) (all_moves first) (all_moves second)
all_inner (Manifold start blocks) = all_blocks blocks

-- ---- the parts

-- the lines behind a heading belong to its part, and that ends with them
tail_is : (ls : List Line) (rest : List ℕ) → list_all is_inner ls ≡ true → split_parts (lines_of (text_of (ls ++ End ∷ []) ++ rest)) ≡ (text_of (ls ++ End ∷ []), parts rest)
tail_is [] rest h = refl
tail_is (l ∷ ls) rest h =
    let this : is_inner l ≡ true = and_left _ _ h in
    let again = tail_is ls rest (and_right (is_inner l) _ h) in
    longer (text_of (l ∷ ls ++ End ∷ []) ++ rest) (line_bytes l) (text_of (ls ++ End ∷ []) ++ rest) (next_line l (ls ++ End ∷ []) rest)
    (not_true _ (and_left _ _ this)) (not_true _ (and_right (not (begins_part (line_bytes l))) _ this))
    ∙ ap (λ (p : List ℕ × List (List ℕ)). let q : List ℕ × List (List ℕ) = (line_bytes l ++ p.0, p.1) in q) again

-- a certificate's text in front is the first part
pub certificate_in_front : (c : Certificate) (rest : List ℕ) → parts (text_of (certificate_lines c) ++ rest) ≡ text_of (certificate_lines c) ∷ parts rest
certificate_in_front c rest =
    let h = Heading (kind_of c) in
    let ls = inner c ++ End ∷ [] in
    ap (λ ms. parts (text_of ms ++ rest)) (inner_is c)
    ∙ begun (text_of (h ∷ ls) ++ rest) (line_bytes h) (text_of ls ++ rest) (next_line h ls rest) _ _ refl (tail_is (inner c) rest (all_inner c))
    ∙ ap (λ ms. text_of ms ∷ parts rest) (sym (inner_is c))

pub spelled_is_one : SpelledIsOnePart
spelled_is_one c bytes s =
    ap parts (s.text ∙ sym (append-nil (text_of (certificate_lines c)))) ∙ certificate_in_front c [] ∙ ap (λ t. t ∷ []) (sym s.text)

-- another line in front is passed over
line_passed : (l rest : List ℕ) → IsOtherLine l → parts (l ++ rest) ≡ parts rest
line_passed l rest h =
    passed (l ++ rest) l rest
    (ap (λ t. lines_of (t ++ rest)) h.text ∙ ap lines_of (append_assoc h.words (10 ∷ []) rest) ∙ line_in_front h.words rest h.plain ∙ ap (λ t. t ∷ lines_of rest) (sym h.text))
    h.other

pub certificates_are : CertificatesAreTheParts
certificates_are [] h = refl
certificates_are (line l ∷ ps) h = line_passed l (flat_map piece_text ps) (All-head IsPiece (line l) ps h) ∙ certificates_are ps (All-tail IsPiece (line l) ps h)
certificates_are (whole c ∷ ps) h =
    certificate_in_front c (flat_map piece_text ps) ∙ ap (λ ts. text_of (certificate_lines c) ∷ ts) (certificates_are ps (All-tail IsPiece (whole c) ps h))
