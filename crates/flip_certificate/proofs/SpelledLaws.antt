-- What is spelled is found again.
use Rattle.std.proofs.Common.{◌≡◌, ℕ, ◌-◌, Bool, true, false, not, cond, ◌||◌, List, [], ◌∷◌, ◌++◌, map, length, take, refl, sym, ap, ◌∙◌, arith, leb, Some, None}
use mathlib.Core.Bool.{true≢false}
use mathlib.Core.List.{append_assoc}
use Rattle.std.proofs.lemmas.List.{length-append}
use Rattle.std.specs.Prelude.{◌==◌, codes, option_and_then}
use Rattle.std.specs.Fmt.{decimal}
use Rattle.std.specs.List.{list_all, filter, slice_split, onto_first, join_with_byte}
use Rattle.std.specs.Cmp.Lexicographic.{bytes_decides}
use Rattle.std.proofs.lemmas.Bool.Decides.{nat_tests}
use Rattle.simplex.specs.declared.flip.Flip.{Flip}
use Rattle.simplex.specs.Simplex.{is_simplex, is_label}
use Rattle.simplex.proofs.InOrderLaws.{and_left, and_right, and_both}
use Rattle.plain_text.specs.Bytes.{is_digit, is_text}
use Rattle.plain_text.specs.Printing.{simplex_text, facets_text, bracketed_text}
use Rattle.flip_certificate.specs.declared.line.Line.{Line}
use Rattle.flip_certificate.specs.declared.line.Line.TheVariants.{Heading, Complex, Move, Map, Link, End}
use Rattle.flip_certificate.specs.declared.line.Kind.TheVariants as kind
use Rattle.flip_certificate.specs.declared.line.Word.TheVariants as word
use Rattle.flip_certificate.specs.declared.line.Word.{Word}
use Rattle.flip_certificate.specs.Lines.{pair_list, is_pair, is_line, line_text, is_start}
use Rattle.flip_certificate.specs.Reading.{numbers_in, number_of, lists_in, guess_line, pair_of, words, checked, spelled_as, line_of}
use Rattle.flip_certificate.proofs.GuessLaws.{split_at_one, numbers_in-simplex, apart, are_small, digits-decimal, small_is, is_filled, filled-decimal, number_back}

pub none_some : {A : Type 0} {x : A} → None ≡ Some x → ⊥
none_some e = cc

pub some_is : {A : Type 0} {x y : A} → Some x ≡ Some y → x ≡ y
some_is e = cc

-- ---- lists in brackets

split_all : {X : Type 0} (p : X → Bool) (xs : List X) → list_all (λ x. not (p x)) xs ≡ true → slice_split p xs ≡ xs ∷ []
split_all p [] h = refl
split_all p (x ∷ xs) h =
    ap (λ v. cond v ([] ∷ slice_split p xs) (onto_first x (slice_split p xs))) (off (p x) (and_left _ _ h)) ∙ ap (onto_first x) (split_all p xs (and_right (not (p x)) _ h))
  where
    off : (v : Bool) → not v ≡ true → v ≡ false
    off true e = sym e
    off false e = refl

abbrev numbers_text : List ℕ → List ℕ
numbers_text s = join_with_byte 44 (map decimal s)

split-open : (n : ℕ) (ns : List ℕ) → are_small (n ∷ ns) ≡ true → slice_split apart (numbers_text (n ∷ ns)) ≡ map decimal (n ∷ ns)
split-open n [] h = split_all apart (decimal n) (digits-decimal n (small_is n (and_left _ _ h)))
split-open n (m ∷ ns) h =
    split_at_one apart (decimal n) (numbers_text (m ∷ ns)) 44 (digits-decimal n (small_is n (and_left _ _ h))) refl
    ∙ ap (λ ps. decimal n ∷ ps) (split-open m ns (and_right (leb n 1000000) _ h))

values-open : (ns : List ℕ) → are_small ns ≡ true → map number_of (filter is_filled (map decimal ns)) ≡ ns
values-open [] h = refl
values-open (n ∷ ns) h =
    ap (λ v. map number_of (cond v (decimal n ∷ filter is_filled (map decimal ns)) (filter is_filled (map decimal ns)))) (filled-decimal n (small_is n (and_left _ _ h)))
    ∙ (λ i. number_back n (and_left _ _ h) i ∷ values-open ns (and_right (leb n 1000000) _ h) i)

numbers_in-open : (s : List ℕ) → are_small s ≡ true → numbers_in (numbers_text s) ≡ s
numbers_in-open [] h = refl
numbers_in-open (n ∷ s) h = ap (λ ps. map number_of (filter is_filled ps)) (split-open n s h) ∙ values-open (n ∷ s) h

abbrev closes : ℕ → Bool
closes c = c == 93

pub all_append : {X : Type 0} (p : X → Bool) (xs ys : List X) → list_all p xs ≡ true → list_all p ys ≡ true → list_all p (xs ++ ys) ≡ true
all_append p [] ys h k = k
all_append p (x ∷ xs) ys h k = and_both _ _ (and_left _ _ h) (all_append p xs ys (and_right (p x) _ h) k)

no_close : (ds : List ℕ) → list_all (λ c. not (apart c)) ds ≡ true → list_all (λ c. not (closes c)) ds ≡ true
no_close [] h = refl
no_close (c ∷ ds) h = and_both _ _ (one c (and_left _ _ h)) (no_close ds (and_right (not (apart c)) _ h))
  where
    one : (c : ℕ) → not (apart c) ≡ true → not (closes c) ≡ true
    one c e = grind (arith, nat_tests)

no_close-numbers : (s : List ℕ) → are_small s ≡ true → list_all (λ c. not (closes c)) (numbers_text s) ≡ true
no_close-numbers [] h = refl
no_close-numbers (n ∷ []) h = no_close (decimal n) (digits-decimal n (small_is n (and_left _ _ h)))
no_close-numbers (n ∷ m ∷ s) h = all_append (λ c. not (closes c)) (decimal n) (44 ∷ numbers_text (m ∷ s)) (no_close (decimal n) (digits-decimal n (small_is n (and_left _ _ h)))) (and_both _ _ refl (no_close-numbers (m ∷ s) (and_right (leb n 1000000) _ h)))

-- the pieces before the closing brackets, each behind a mark
abbrev marked : ℕ → List (List ℕ) → List (List ℕ)
marked a [] = []
marked a (s ∷ c) = (a ∷ 91 ∷ numbers_text s) ∷ marked 44 c

split-lists : (a : ℕ) (s : List ℕ) (c : List (List ℕ)) → not (closes a) ≡ true → list_all are_small (s ∷ c) ≡ true → slice_split closes (a ∷ (join_with_byte 44 (map simplex_text (s ∷ c)) ++ 93 ∷ [])) ≡ marked a (s ∷ c) ++ [] ∷ [] ∷ []
split-lists a s [] ha h =
    ap (λ w. slice_split closes (a ∷ 91 ∷ w)) (append_assoc (numbers_text s) (93 ∷ []) (93 ∷ []))
    ∙ split_at_one closes (a ∷ 91 ∷ numbers_text s) (93 ∷ []) 93 (and_both _ _ ha (and_both _ _ refl (no_close-numbers s (and_left _ _ h)))) refl
split-lists a s (t ∷ c) ha h =
    ap (λ w. slice_split closes (a ∷ w)) (append_assoc (simplex_text s) (44 ∷ join_with_byte 44 (map simplex_text (t ∷ c))) (93 ∷ []))
    ∙ ap (λ w. slice_split closes (a ∷ 91 ∷ w)) (append_assoc (numbers_text s) (93 ∷ []) (44 ∷ (join_with_byte 44 (map simplex_text (t ∷ c)) ++ 93 ∷ [])))
    ∙ split_at_one closes (a ∷ 91 ∷ numbers_text s) (44 ∷ (join_with_byte 44 (map simplex_text (t ∷ c)) ++ 93 ∷ [])) 93 (and_both _ _ ha (and_both _ _ refl (no_close-numbers s (and_left _ _ h)))) refl
    ∙ ap (λ ps. (a ∷ 91 ∷ numbers_text s) ∷ ps) (split-lists 44 t c refl (and_right (are_small s) _ h))

module _ {X : Type 0} where
  front : (xs ys : List X) → take (length xs) (xs ++ ys) ≡ xs
  front [] ys = refl
  front (x ∷ xs) ys = ap (λ l. x ∷ l) (front xs ys)

  but_two : (xs : List X) (y z : X) → take (length (xs ++ y ∷ z ∷ []) - 2) (xs ++ y ∷ z ∷ []) ≡ xs
  but_two xs y z = ap (λ n. take n (xs ++ y ∷ z ∷ [])) (omega (arith, length-append xs (y ∷ z ∷ []))) ∙ front xs (y ∷ z ∷ [])

read_marked : (a : ℕ) (c : List (List ℕ)) → apart a ≡ true → list_all are_small c ≡ true → map numbers_in (marked a c) ≡ c
read_marked a [] ha h = refl
read_marked a (s ∷ c) ha h = λ i. head i ∷ read_marked 44 c refl (and_right (are_small s) _ h) i
  where
    head : numbers_in (a ∷ 91 ∷ numbers_text s) ≡ s
    head = ap (λ v. map number_of (filter is_filled (cond v ([] ∷ [] ∷ slice_split apart (numbers_text s)) (onto_first a ([] ∷ slice_split apart (numbers_text s)))))) ha ∙ numbers_in-open s (and_left _ _ h)

-- the lists of a spelled complex are its facets
pub lists_in-facets : (c : List (List ℕ)) → list_all are_small c ≡ true → lists_in (facets_text c) ≡ c
lists_in-facets [] h = refl
lists_in-facets (s ∷ c) h =
    ap (λ ps. map numbers_in (take (length ps - 2) ps)) (split-lists 91 s c refl h)
    ∙ ap (map numbers_in) (but_two (marked 91 (s ∷ c)) [] [])
    ∙ read_marked 91 (s ∷ c) refl h

-- ---- lines

-- digits, brackets and commas
abbrev is_list_byte : ℕ → Bool
is_list_byte c = is_digit c || ((c == 91) || ((c == 93) || (c == 44)))

digit_byte : (ds : List ℕ) → list_all (λ c. not (apart c)) ds ≡ true → list_all is_list_byte ds ≡ true
digit_byte [] h = refl
digit_byte (c ∷ ds) h = and_both _ _ (one (is_digit c) (and_left _ _ h)) (digit_byte ds (and_right (not (apart c)) _ h))
  where
    one : (v : Bool) → not (not v) ≡ true → (v || ((c == 91) || ((c == 93) || (c == 44)))) ≡ true
    one true e = refl
    one false e = absurd (true≢false (sym e))

bytes_join : (xs : List (List ℕ)) → list_all (list_all is_list_byte) xs ≡ true → list_all is_list_byte (bracketed_text xs) ≡ true
bytes_join xs h = all_append is_list_byte (join_with_byte 44 xs) (93 ∷ []) (inner xs h) refl
  where
    inner : (xs : List (List ℕ)) → list_all (list_all is_list_byte) xs ≡ true → list_all is_list_byte (join_with_byte 44 xs) ≡ true
    inner [] h = refl
    inner (x ∷ []) h = and_left _ _ h
    inner (x ∷ y ∷ xs) h = all_append is_list_byte x (44 ∷ join_with_byte 44 (y ∷ xs)) (and_left _ _ h) (inner (y ∷ xs) (and_right (list_all is_list_byte x) _ h))

bytes-simplex : (s : List ℕ) → are_small s ≡ true → list_all is_list_byte (simplex_text s) ≡ true
bytes-simplex s h = bytes_join (map decimal s) (each s h)
  where
    each : (s : List ℕ) → are_small s ≡ true → list_all (list_all is_list_byte) (map decimal s) ≡ true
    each [] h = refl
    each (n ∷ s) h = and_both _ _ (digit_byte (decimal n) (digits-decimal n (small_is n (and_left _ _ h)))) (each s (and_right (leb n 1000000) _ h))

bytes-facets : (c : List (List ℕ)) → list_all are_small c ≡ true → list_all is_list_byte (facets_text c) ≡ true
bytes-facets c h = bytes_join (map simplex_text c) (each c h)
  where
    each : (c : List (List ℕ)) → list_all are_small c ≡ true → list_all (list_all is_list_byte) (map simplex_text c) ≡ true
    each [] h = refl
    each (s ∷ c) h = and_both _ _ (bytes-simplex s (and_left _ _ h)) (each c (and_right (are_small s) _ h))

abbrev spaces : ℕ → Bool
spaces c = c == 32

no_space : (bs : List ℕ) → list_all is_list_byte bs ≡ true → list_all (λ c. not (spaces c)) bs ≡ true
no_space [] h = refl
no_space (c ∷ bs) h = and_both _ _ (one c (and_left _ _ h)) (no_space bs (and_right (is_list_byte c) _ h))
  where
    one : (c : ℕ) → is_list_byte c ≡ true → not (spaces c) ≡ true
    one c e = grind (arith, nat_tests)

-- two words, and three
two_words : (w x : List ℕ) → list_all (λ c. not (spaces c)) w ≡ true → list_all is_list_byte x ≡ true → slice_split spaces (w ++ 32 ∷ x) ≡ w ∷ x ∷ []
two_words w x h k = split_at_one spaces w x 32 h refl ∙ ap (λ ps. w ∷ ps) (split_all spaces x (no_space x k))

-- a line with a complex, and a flip, are read again
pub facets_again : (c : List (List ℕ)) → list_all are_small c ≡ true → guess_line (words (line_text (Complex word.Facets c))) ≡ Complex word.Facets c
facets_again c h = ap guess_line (two_words (codes "facets") (facets_text c) refl (bytes-facets c h)) ∙ ap (Complex word.Facets) (lists_in-facets c h)

pub move_again : (m : Flip) → are_small m.a ≡ true → are_small m.b ≡ true → guess_line (words (line_text (Move m))) ≡ Move m
move_again m h k =
    ap guess_line (split_at_one spaces (codes "flip") (simplex_text m.a ++ 32 ∷ simplex_text m.b) 32 refl refl ∙ ap (λ ps. codes "flip" ∷ ps) (split_at_one spaces (simplex_text m.a) (simplex_text m.b) 32 (no_space (simplex_text m.a) (bytes-simplex m.a h)) refl ∙ ap (λ ps. simplex_text m.a ∷ ps) (split_all spaces (simplex_text m.b) (no_space (simplex_text m.b) (bytes-simplex m.b k)))))
    ∙ (λ i. Move (record { a = numbers_in-simplex m.a h i; b = numbers_in-simplex m.b k i }))

-- ---- each line of a shaped certificate

abbrev Found : Line → Type 0
Found l = guess_line (words (line_text l)) ≡ l

label_small : (n : ℕ) → is_label n ≡ true → leb n 1000000 ≡ true
label_small n h = and_right (leb 1 n) _ h

labels_small : (s : List ℕ) → list_all is_label s ≡ true → are_small s ≡ true
labels_small [] h = refl
labels_small (n ∷ s) h = and_both _ _ (label_small n (and_left _ _ h)) (labels_small s (and_right (is_label n) _ h))

simplex_small : (s : List ℕ) → is_simplex s ≡ true → are_small s ≡ true
simplex_small s h = labels_small s (and_right (leb (length s) 12) _ (and_left _ _ h))

start_small : (c : List (List ℕ)) → list_all is_simplex c ≡ true → list_all are_small c ≡ true
start_small [] h = refl
start_small (s ∷ c) h = and_both _ _ (simplex_small s (and_left _ _ h)) (start_small c (and_right (is_simplex s) _ h))

complex_found : (w : Word) (c : List (List ℕ)) → is_start c ≡ true → Found (Complex w c)
complex_found word.Facets c s = let small = start_small c (and_left _ _ s) in ap guess_line (two_words (codes "facets") (facets_text c) refl (bytes-facets c small)) ∙ ap (Complex word.Facets) (lists_in-facets c small)
complex_found word.From c s = let small = start_small c (and_left _ _ s) in ap guess_line (two_words (codes "from") (facets_text c) refl (bytes-facets c small)) ∙ ap (Complex word.From) (lists_in-facets c small)
complex_found word.To c s = let small = start_small c (and_left _ _ s) in ap guess_line (two_words (codes "to") (facets_text c) refl (bytes-facets c small)) ∙ ap (Complex word.To) (lists_in-facets c small)

pairs_as : (m : List (ℕ × ℕ)) → map (λ p. simplex_text (pair_list p)) m ≡ map simplex_text (map pair_list m)
pairs_as [] = refl
pairs_as (p ∷ m) = ap (λ l. simplex_text (pair_list p) ∷ l) (pairs_as m)

pairs_back : (m : List (ℕ × ℕ)) → map pair_of (map pair_list m) ≡ m
pairs_back [] = refl
pairs_back (p ∷ m) = ap (λ l. p ∷ l) (pairs_back m)

pairs_small : (m : List (ℕ × ℕ)) → list_all is_pair m ≡ true → list_all are_small (map pair_list m) ≡ true
pairs_small [] h = refl
pairs_small (p ∷ m) h =
    let f : is_pair p ≡ true = and_left _ _ h in
    and_both _ _ (and_both _ _ (label_small p.0 (and_left _ _ f)) (and_both _ _ (label_small p.1 (and_right (is_label p.0) _ f)) refl)) (pairs_small m (and_right (is_pair p) _ h))

map_found : (m : List (ℕ × ℕ)) → list_all is_pair m ≡ true → Found (Map m)
map_found m h =
    ap (λ t. guess_line (words (codes "map " ++ bracketed_text t))) (pairs_as m)
    ∙ ap guess_line (two_words (codes "map") (facets_text (map pair_list m)) refl (bytes-facets (map pair_list m) (pairs_small m h)))
    ∙ ap (λ l. Map (map pair_of l)) (lists_in-facets (map pair_list m) (pairs_small m h))
    ∙ ap Map (pairs_back m)

link_found : (v : ℕ) → is_label v ≡ true → Found (Link v)
link_found v h =
    let small = small_is v (label_small v h) in
    ap guess_line (two_words (codes "link") (decimal v) refl (digit_byte (decimal v) (digits-decimal v small)))
    ∙ ap Link (number_back v (label_small v h))

-- each line is found again
pub found : (l : Line) → is_line l ≡ true → Found l
found (Heading kind.Sphere) h = refl
found (Heading kind.Equivalent) h = refl
found (Heading kind.Manifold) h = refl
found (Complex w c) h = complex_found w c h
found (Move m) h = move_again m (simplex_small m.a (and_left _ _ h)) (simplex_small m.b (and_right (is_simplex m.a) _ h))
found (Map p) h = map_found p h
found (Link v) h = link_found v h
found End h = refl

-- the text of a line is read as that line
pub line_again : (l : Line) → is_line l ≡ true → line_of (line_text l) ≡ Some l
line_again l h =
    ap (λ g. option_and_then (spelled_as (line_text l)) (checked g)) (found l h)
    ∙ ap (λ v. option_and_then (spelled_as (line_text l)) (cond v (Some l) None)) h
    ∙ ap (λ v. cond v (Some l) None) ((bytes_decides (line_text l) (line_text l)).1 refl)

-- what is read as a line is its text
pub line_is : (b : List ℕ) (l : Line) → line_of b ≡ Some l → (is_line l ≡ true) × (b ≡ line_text l)
line_is b l e = by (guess_line (words b)) (is_line (guess_line (words b))) refl (is_text b (line_text (guess_line (words b)))) refl e
  where
    by : (g : Line) (v : Bool) → is_line g ≡ v → (t : Bool) → is_text b (line_text g) ≡ t → option_and_then (λ (g' : Line). cond (is_text b (line_text g')) (Some g') None) (cond v (Some g) None) ≡ Some l → (is_line l ≡ true) × (b ≡ line_text l)
    by g false h t k f = absurd (none_some f)
    by g true h t k f = last t k (ap (λ w. cond w (Some g) None) (sym k) ∙ f)
      where
        last : (t : Bool) → is_text b (line_text g) ≡ t → cond t (Some g) None ≡ Some l → (is_line l ≡ true) × (b ≡ line_text l)
        last true k f = let same : g ≡ l = some_is f in (ap is_line (sym same) ∙ h, (bytes_decides b (line_text g)).0 k ∙ ap line_text same)
        last false k f = absurd (none_some f)
