-- The lines of a certificate, and its one spelling.
use Rattle.std.specs.Prelude.{◌≡◌, ℕ, ◌+◌, ◌≤◌, Bool, true, ◌&&◌, List, [], ◌∷◌, ◌++◌, map, length, take, codes, IsTrue}
use Rattle.std.specs.Fmt.{decimal}
use Rattle.std.specs.List.{flat_map, list_all}
use Rattle.simplex.specs.declared.flip.Flip.{Flip}
use Rattle.simplex.specs.Simplex.{is_label, is_simplex}
use Rattle.facet_set.specs.Complex.{is_complex}
use Rattle.plain_text.specs.Printing.{bracketed_text, simplex_text, facets_text}
use Rattle.flip_certificate.specs.declared.line.Kind.{Kind}
use Rattle.flip_certificate.specs.declared.line.Kind.TheVariants as kind
use Rattle.flip_certificate.specs.declared.line.Word.{Word}
use Rattle.flip_certificate.specs.declared.line.Word.TheVariants as word
use Rattle.flip_certificate.specs.declared.line.Line.{Line}
use Rattle.flip_certificate.specs.declared.line.Line.TheVariants.{Heading, Complex, Move, Map, Link, End}
use Rattle.flip_certificate.specs.declared.block.Block.{Block}
use Rattle.flip_certificate.specs.declared.certificate.Certificate.{Certificate}
use Rattle.flip_certificate.specs.declared.certificate.Certificate.TheVariants.{Sphere, Equivalent, Manifold}

-- what the certificate is of
abbrev pub kind_of : Certificate → Kind
kind_of (Sphere start flips) = kind.Sphere
kind_of (Equivalent start target first m second) = kind.Equivalent
kind_of (Manifold start blocks) = kind.Manifold

-- the words in front of lists of facets, and at the end of a heading
abbrev pub kind_text : Kind → List ℕ
kind_text kind.Sphere = codes "sphere"
kind_text kind.Equivalent = codes "equivalent"
kind_text kind.Manifold = codes "manifold"

abbrev pub word_text : Word → List ℕ
word_text word.Facets = codes "facets"
word_text word.From = codes "from"
word_text word.To = codes "to"

-- a pair as the list of its two numbers
abbrev pub pair_list : ℕ × ℕ → List ℕ
pair_list p = p.0 ∷ p.1 ∷ []

-- a list of pairs, each in brackets
abbrev pub pairs_text : List (ℕ × ℕ) → List ℕ
pairs_text m = bracketed_text (map (λ p. simplex_text (pair_list p)) m)

-- the bytes of a line without its line feed
abbrev pub line_text : Line → List ℕ
line_text (Heading k) = codes "certificate 1 " ++ kind_text k
line_text (Complex w c) = word_text w ++ 32 ∷ facets_text c
line_text (Move m) = codes "flip " ++ simplex_text m.a ++ 32 ∷ simplex_text m.b
line_text (Map m) = codes "map " ++ pairs_text m
line_text (Link v) = codes "link " ++ decimal v
line_text End = codes "end"

-- the line of a block's vertex, and a line for each of its flips
abbrev pub block_lines : Block → List Line
block_lines b = Link b.vertex ∷ map Move b.flips

-- the first three lines of a certificate of an equivalence, and the others
abbrev pub end_lines : List (List ℕ) → List (List ℕ) → List Line
end_lines start target = Heading kind.Equivalent ∷ Complex word.From start ∷ Complex word.To target ∷ []

abbrev pub way_lines : List Flip → List (ℕ × ℕ) → List Flip → List Line
way_lines first m second = map Move first ++ Map m ∷ map Move second ++ End ∷ []

-- the lines of a certificate
abbrev pub lines_of : Certificate → List Line
lines_of (Sphere start flips) = Heading kind.Sphere ∷ Complex word.Facets start ∷ map Move flips ++ End ∷ []
lines_of (Equivalent start target first m second) = end_lines start target ++ way_lines first m second
lines_of (Manifold start blocks) = Heading kind.Manifold ∷ Complex word.Facets start ∷ flat_map block_lines blocks ++ End ∷ []

-- the bytes of lines, each with its line feed
abbrev pub text_of : List Line → List ℕ
text_of lines = flat_map (λ l. line_text l ++ 10 ∷ []) lines

-- whether the lists are ones that a program holds: facets of a complex, and flips of simplices
abbrev pub is_start : List (List ℕ) → Bool
is_start c = list_all is_simplex c && is_complex c

abbrev pub is_flip : Flip → Bool
is_flip m = is_simplex m.a && is_simplex m.b

abbrev pub is_held : Certificate → Bool
is_held (Sphere start flips) = is_start start && list_all is_flip flips
is_held (Equivalent start target first m second) = is_start start && is_start target && list_all is_flip first && list_all is_flip second
is_held (Manifold start blocks) = is_start start && list_all (λ (b : Block). list_all is_flip b.flips) blocks

-- whether the lists of a line are such, and its numbers labels
abbrev pub is_pair : ℕ × ℕ → Bool
is_pair p = is_label p.0 && is_label p.1

abbrev pub is_line : Line → Bool
is_line (Heading k) = true
is_line (Complex w c) = is_start c
is_line (Move m) = is_flip m
is_line (Map m) = list_all is_pair m
is_line (Link v) = is_label v
is_line End = true

-- whether the numbers of its map and the vertices of its blocks are labels
abbrev pub is_shaped : Certificate → Bool
is_shaped (Sphere start flips) = true
is_shaped (Equivalent start target first m second) = list_all is_pair m
is_shaped (Manifold start blocks) = list_all (λ (b : Block). is_label b.vertex) blocks

-- the certificate is one that a program holds, it is shaped, and this is its text
pub record Spells (c : Certificate) (bytes : List ℕ) : Type 0 where
  pub held : IsTrue (is_held c)
  pub shaped : IsTrue (is_shaped c)
  pub text : bytes ≡ text_of (lines_of c)

-- the bytes begin with the first n lines of some certificate's spelling
pub record BeginsLikeOne (bytes : List ℕ) (n : ℕ) : Type 0 where
  pub like : Certificate
  pub held : IsTrue (is_held like)
  pub shaped : IsTrue (is_shaped like)
  pub lines : n ≤ length (lines_of like)
  pub rest : List ℕ
  pub text : bytes ≡ text_of (take n (lines_of like)) ++ rest

-- the first line at which the bytes are no certificate: one after the most lines that some spelling begins with
pub record IsFormLine (bytes : List ℕ) (line : ℕ) : Type 0 where
  pub before : ℕ
  pub is : line ≡ before + 1
  pub fits : BeginsLikeOne bytes before
  pub most : (n : ℕ) → BeginsLikeOne bytes n → n ≤ before
