-- Lines written one after another.
use Rattle.std.proofs.Common.{◌≡◌, ℕ, List, [], ◌∷◌, ◌++◌, map, sym, ap, ◌∙◌, append_assoc}
use Rattle.std.proofs.lemmas.Grind.{flat_map-append}
use Rattle.simplex.specs.declared.flip.Flip.{Flip}
use Rattle.flip_certificate.specs.declared.line.Line.{Line}
use Rattle.flip_certificate.specs.declared.line.Line.TheVariants.{Move, Map, End}
use Rattle.flip_certificate.specs.Lines.{text_of, line_text, way_lines}

-- the texts of two lists of lines
pub text_append : (ls ms : List Line) → text_of (ls ++ ms) ≡ text_of ls ++ text_of ms
text_append ls ms = flat_map-append (λ l. line_text l ++ 10 ∷ []) ls ms

pub appended : (old mid new : List ℕ) (ls ms : List Line) → mid ≡ old ++ text_of ls → new ≡ mid ++ text_of ms → new ≡ old ++ text_of (ls ++ ms)
appended old mid new ls ms e f = f ∙ ap (λ t. t ++ text_of ms) e ∙ append_assoc old (text_of ls) (text_of ms) ∙ ap (λ t. old ++ t) (sym (text_append ls ms))

-- a heading, a complex, more lines and the end
pub four_parts : (old a b c new : List ℕ) (h k : Line) (ls : List Line) → a ≡ old ++ text_of (h ∷ []) → b ≡ a ++ text_of (k ∷ []) → c ≡ b ++ text_of ls → new ≡ c ++ text_of (End ∷ [])
    → new ≡ old ++ text_of (h ∷ k ∷ (ls ++ End ∷ []))
four_parts old a b c new h k ls e f g i = appended old c new (h ∷ k ∷ ls) (End ∷ []) (appended old b c (h ∷ k ∷ []) ls (appended old a b (h ∷ []) (k ∷ []) e f) g) i

pub three_lines : (old a b new : List ℕ) (h k l : Line) → a ≡ old ++ text_of (h ∷ []) → b ≡ a ++ text_of (k ∷ []) → new ≡ b ++ text_of (l ∷ []) → new ≡ old ++ text_of (h ∷ k ∷ l ∷ [])
three_lines old a b new h k l e f g = appended old b new (h ∷ k ∷ []) (l ∷ []) (appended old a b (h ∷ []) (k ∷ []) e f) g

pub four_ways : (old a b c new : List ℕ) (first second : List Flip) (m : List (ℕ × ℕ)) → a ≡ old ++ text_of (map Move first) → b ≡ a ++ text_of (Map m ∷ []) → c ≡ b ++ text_of (map Move second) → new ≡ c ++ text_of (End ∷ [])
    → new ≡ old ++ text_of (way_lines first m second)
four_ways old a b c new first second m e f g i =
    appended old c new (map Move first ++ Map m ∷ map Move second) (End ∷ [])
    (appended old a c (map Move first) (Map m ∷ map Move second) e (appended a b c (Map m ∷ []) (map Move second) f g)) i
