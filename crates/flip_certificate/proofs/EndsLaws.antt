-- No certificate's text begins another's.
use Rattle.std.proofs.Common.{◌≡◌, ℕ, zero, suc, ◌+◌, ◌/◌, ◌%◌, Bool, true, false, not, cond, List, [], ◌∷◌, ◌++◌, map, refl, sym, ap, ◌∙◌, arith, ltb}
use mathlib.Core.Bool.{true≢false}
use mathlib.Core.List.{append_assoc}
use Rattle.std.specs.Prelude.{◌==◌}
use Rattle.std.specs.Fmt.{decimal, digits, digits_onto, digit_glyph}
use Rattle.std.specs.List.{list_all, flat_map, join_with_byte}
use Rattle.std.proofs.lemmas.Bool.Decides.{nat_tests}
use Rattle.simplex.specs.declared.flip.Flip.{Flip}
use Rattle.simplex.proofs.InOrderLaws.{and_left, and_right, and_both}
use Rattle.plain_text.specs.Printing.{bracketed_text, simplex_text, facets_text}
use Rattle.flip_certificate.specs.declared.block.Block.{Block}
use Rattle.flip_certificate.specs.declared.certificate.Certificate.{Certificate}
use Rattle.flip_certificate.specs.declared.certificate.Certificate.TheVariants.{Sphere, Equivalent, Manifold}
use Rattle.flip_certificate.specs.declared.line.Line.{Line}
use Rattle.flip_certificate.specs.declared.line.Line.TheVariants.{Heading, Complex, Move, Map, Link, End}
use Rattle.flip_certificate.specs.declared.line.Kind.TheVariants as kind
use Rattle.flip_certificate.specs.declared.line.Word.TheVariants as word
use Rattle.flip_certificate.specs.Lines.{line_text, lines_of, text_of, block_lines, pair_list}
use Rattle.flip_certificate.specs.Laws.{NoneBeginsAnother}

-- ---- no line has a line feed in it

abbrev pub no_feed : List ℕ → Bool
no_feed = list_all (λ c. not (c == 10))

pub no_feed-append : (xs ys : List ℕ) → no_feed xs ≡ true → no_feed ys ≡ true → no_feed (xs ++ ys) ≡ true
no_feed-append [] ys h k = k
no_feed-append (x ∷ xs) ys h k = and_both _ _ (and_left _ _ h) (no_feed-append xs ys (and_right (not (x == 10)) _ h) k)

glyph : (d : ℕ) → not (digit_glyph false d == 10) ≡ true
glyph d = elim (ltb d 10) as (λ v. not (cond v (48 + d) (cond false (55 + d) (87 + d)) == 10) ≡ true) [ true ↦ grind (arith, nat_tests) | false ↦ grind (arith, nat_tests) ]

no_feed-digits : (k n : ℕ) (acc : List ℕ) → no_feed acc ≡ true → no_feed (digits_onto k 10 false n acc) ≡ true
no_feed-digits zero n acc h = h
no_feed-digits (suc k) n acc h =
    let here : no_feed (digit_glyph false (n % 10) ∷ acc) ≡ true = and_both _ _ (glyph (n % 10)) h in
    elim (n / 10 == 0) as (λ v. no_feed (cond v (digit_glyph false (n % 10) ∷ acc) (digits_onto k 10 false (n / 10) (digit_glyph false (n % 10) ∷ acc))) ≡ true) [
      | true ↦ here
      | false ↦ no_feed-digits k (n / 10) _ here
    ]

pub no_feed-decimal : (n : ℕ) → no_feed (decimal n) ≡ true
unfolding digits
no_feed-decimal n = no_feed-digits 64 n [] refl

pub no_feed-join : (xs : List (List ℕ)) → list_all no_feed xs ≡ true → no_feed (join_with_byte 44 xs) ≡ true
no_feed-join [] h = refl
no_feed-join (x ∷ []) h = and_left _ _ h
no_feed-join (x ∷ y ∷ xs) h = no_feed-append x (44 ∷ join_with_byte 44 (y ∷ xs)) (and_left _ _ h) (no_feed-join (y ∷ xs) (and_right (no_feed x) _ h))

pub no_feed-bracketed : (xs : List (List ℕ)) → list_all no_feed xs ≡ true → no_feed (bracketed_text xs) ≡ true
no_feed-bracketed xs h = no_feed-append (join_with_byte 44 xs) (93 ∷ []) (no_feed-join xs h) refl

pub all_map : {X Y : Type 0} (p : Y → Bool) (f : X → Y) → ((x : X) → p (f x) ≡ true) → (xs : List X) → list_all p (map f xs) ≡ true
all_map p f each [] = refl
all_map p f each (x ∷ xs) = and_both _ _ (each x) (all_map p f each xs)

pub no_feed-simplex : (s : List ℕ) → no_feed (simplex_text s) ≡ true
no_feed-simplex s = no_feed-bracketed (map decimal s) (all_map no_feed decimal no_feed-decimal s)

pub no_feed-facets : (c : List (List ℕ)) → no_feed (facets_text c) ≡ true
no_feed-facets c = no_feed-bracketed (map simplex_text c) (all_map no_feed simplex_text no_feed-simplex c)

-- ---- the lines that a certificate has

abbrev pub is_plain : Line → Bool
is_plain l = no_feed (line_text l)

pub no_feed-line : (l : Line) → is_plain l ≡ true
no_feed-line (Heading kind.Sphere) = refl
no_feed-line (Heading kind.Equivalent) = refl
no_feed-line (Heading kind.Manifold) = refl
no_feed-line (Complex word.Facets c) = no_feed-facets c
no_feed-line (Complex word.From c) = no_feed-facets c
no_feed-line (Complex word.To c) = no_feed-facets c
no_feed-line (Move m) = no_feed-append (simplex_text m.a) (32 ∷ simplex_text m.b) (no_feed-simplex m.a) (no_feed-simplex m.b)
no_feed-line (Map m) = no_feed-bracketed (map (λ p. simplex_text (pair_list p)) m) (all_map no_feed (λ p. simplex_text (pair_list p)) (λ p. no_feed-simplex (pair_list p)) m)
no_feed-line (Link v) = no_feed-decimal v
no_feed-line End = refl

abbrev pub front_of : Certificate → List Line
front_of (Sphere start flips) = Heading kind.Sphere ∷ Complex word.Facets start ∷ map Move flips
front_of (Equivalent start target first m second) =
    Heading kind.Equivalent ∷ Complex word.From start ∷ Complex word.To target ∷ (map Move first ++ Map m ∷ map Move second)
front_of (Manifold start blocks) = Heading kind.Manifold ∷ Complex word.Facets start ∷ flat_map block_lines blocks

pub front_is : (c : Certificate) → lines_of c ≡ front_of c ++ End ∷ []
front_is (Sphere start flips) = refl
front_is (Equivalent start target first m second) = refl
front_is (Manifold start blocks) = refl

-- a test of each line but the last
all_front : (p : Line → Bool) → p (Heading kind.Sphere) ≡ true → p (Heading kind.Equivalent) ≡ true → p (Heading kind.Manifold) ≡ true
    → ((c : List (List ℕ)) → p (Complex word.Facets c) ≡ true) → ((c : List (List ℕ)) → p (Complex word.From c) ≡ true) → ((c : List (List ℕ)) → p (Complex word.To c) ≡ true)
    → ((m : Flip) → p (Move m) ≡ true) → ((m : List (ℕ × ℕ)) → p (Map m) ≡ true) → ((v : ℕ) → p (Link v) ≡ true) → (c : Certificate) → list_all p (front_of c) ≡ true
all_front p a b c f g h i j k (Sphere start flips) = and_both _ _ a (and_both _ _ (f start) (all_map p Move i flips))
all_front p a b c f g h i j k (Equivalent start target first m second) =
    and_both _ _ b (and_both _ _ (g start) (and_both _ _ (h target) (all_append (map Move first) (Map m ∷ map Move second) (all_map p Move i first) (and_both _ _ (j m) (all_map p Move i second)))))
  where
    all_append : (xs ys : List Line) → list_all p xs ≡ true → list_all p ys ≡ true → list_all p (xs ++ ys) ≡ true
    all_append [] ys h k = k
    all_append (x ∷ xs) ys h k = and_both _ _ (and_left _ _ h) (all_append xs ys (and_right (p x) _ h) k)
all_front p a b c f g h i j k (Manifold start blocks) = and_both _ _ c (and_both _ _ (f start) (all_blocks blocks))
  where
    all_append : (xs ys : List Line) → list_all p xs ≡ true → list_all p ys ≡ true → list_all p (xs ++ ys) ≡ true
    all_append [] ys h k = k
    all_append (x ∷ xs) ys h k = and_both _ _ (and_left _ _ h) (all_append xs ys (and_right (p x) _ h) k)

    all_blocks : (bs : List Block) → list_all p (flat_map block_lines bs) ≡ true
    all_blocks [] = refl
    all_blocks (b ∷ bs) = all_append (block_lines b) (flat_map block_lines bs) (and_both _ _ (k b.vertex) (all_map p Move i b.flips)) (all_blocks bs)

pub plain_front : (c : Certificate) → list_all is_plain (front_of c) ≡ true
plain_front = all_front is_plain refl refl refl no_feed-facets no_feed-facets no_feed-facets
    (λ m. no_feed-append (simplex_text m.a) (32 ∷ simplex_text m.b) (no_feed-simplex m.a) (no_feed-simplex m.b))
    (λ m. no_feed-bracketed (map (λ p. simplex_text (pair_list p)) m) (all_map no_feed (λ p. simplex_text (pair_list p)) (λ p. no_feed-simplex (pair_list p)) m))
    no_feed-decimal

-- a line does not begin with the letter e
abbrev other : List ℕ → Bool
other [] = false
other (c ∷ cs) = not (c == 101)

abbrev begins_otherwise : Line → Bool
begins_otherwise l = other (line_text l)

not_e : (t u v : List ℕ) → other t ≡ true → (t ++ 10 ∷ []) ++ v ≡ 101 ∷ u → ⊥
not_e [] u v h e = true≢false (sym h)
not_e (c ∷ t) u v h e = let f : c ≡ 101 = cc in true≢false (sym h ∙ ap (λ b. not (b == 101)) f)

other_front : (c : Certificate) → list_all begins_otherwise (front_of c) ≡ true
other_front = all_front begins_otherwise refl refl refl (λ c. refl) (λ c. refl) (λ c. refl) (λ m. refl) (λ m. refl) (λ v. refl)

-- ---- texts of lines

pub split : (xs ys x y : List ℕ) → no_feed xs ≡ true → no_feed ys ≡ true → xs ++ 10 ∷ x ≡ ys ++ 10 ∷ y → (xs ≡ ys) × (x ≡ y)
split [] [] x y h k e = (refl, cc)
split [] (c ∷ ys) x y h k e = let f : 10 ≡ c = cc in absurd (true≢false (sym (and_left _ _ k) ∙ ap (λ b. not (b == 10)) (sym f)))
split (c ∷ xs) [] x y h k e = let f : c ≡ 10 = cc in absurd (true≢false (sym (and_left _ _ h) ∙ ap (λ b. not (b == 10)) f))
split (c ∷ xs) (d ∷ ys) x y h k e =
    let f : c ≡ d = cc in
    let g : xs ++ 10 ∷ x ≡ ys ++ 10 ∷ y = cc in
    let r = split xs ys x y (and_right (not (c == 10)) _ h) (and_right (not (d == 10)) _ k) g in
    ((λ i. f i ∷ r.0 i), r.1)

-- where one text begins another and both end in a line `end`, nothing follows
ends : (fs gs : List Line) (rest : List ℕ) → list_all is_plain fs ≡ true → list_all is_plain gs ≡ true → list_all begins_otherwise fs ≡ true → list_all begins_otherwise gs ≡ true
    → text_of (fs ++ End ∷ []) ≡ text_of (gs ++ End ∷ []) ++ rest → rest ≡ []
ends [] [] rest pf pg bf bg e = cc
ends [] (g ∷ gs) rest pf pg bf bg e = absurd (not_e (line_text g) (110 ∷ 100 ∷ 10 ∷ []) (text_of (gs ++ End ∷ []) ++ rest) (and_left _ _ bg) (sym (append_assoc (line_text g ++ 10 ∷ []) (text_of (gs ++ End ∷ [])) rest) ∙ sym e))
ends (f ∷ fs) [] rest pf pg bf bg e = absurd (not_e (line_text f) (110 ∷ 100 ∷ 10 ∷ rest) (text_of (fs ++ End ∷ [])) (and_left _ _ bf) e)
ends (f ∷ fs) (g ∷ gs) rest pf pg bf bg e =
    let left : line_text f ++ 10 ∷ text_of (fs ++ End ∷ []) ≡ line_text g ++ 10 ∷ (text_of (gs ++ End ∷ []) ++ rest) =
    sym (append_assoc (line_text f) (10 ∷ []) (text_of (fs ++ End ∷ []))) ∙ e
    ∙ append_assoc (line_text g ++ 10 ∷ []) (text_of (gs ++ End ∷ [])) rest
    ∙ append_assoc (line_text g) (10 ∷ []) (text_of (gs ++ End ∷ []) ++ rest) in
    ends fs gs rest (and_right (is_plain f) _ pf) (and_right (is_plain g) _ pg) (and_right (begins_otherwise f) _ bf) (and_right (begins_otherwise g) _ bg)
    (split (line_text f) (line_text g) _ _ (and_left _ _ pf) (and_left _ _ pg) left).1

pub none_begins : NoneBeginsAnother
none_begins c d bytes rest sc sd =
    ends (front_of c) (front_of d) rest (plain_front c) (plain_front d) (other_front c) (other_front d)
    (sym (ap text_of (front_is c)) ∙ sym sc.text ∙ ap (λ x. x ++ rest) (sd.text ∙ ap text_of (front_is d)))
