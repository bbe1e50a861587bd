-- What the reader guesses is what the definitions guess.
use Rattle.std.proofs.Common.{◌≡◌, ℕ, zero, suc, ◌-◌, ◌<◌, ◌≤◌, Bool, true, false, List, [], ◌∷◌, map, length, take, get_or, refl, sym, ap, ◌∙◌, arith, eqb, Option, Some, None, Result, Ok}
use mathlib.Core.Bool.{true≢false}
use Rattle.std.specs.Bool.{IsTrue}
use Rattle.std.specs.Borrow.{Bor}
use Rattle.std.specs.Cmp.Lexicographic.{bytes_decides}
use Rattle.std.specs.FinMap.{nat_cmp-IsAntisymmetric}
use Rattle.std.specs.List.{AllByRecursion, IsDistinct, list_all, slice_split}
use Rattle.std.specs.Option.{is_some}
use Rattle.std.specs.Ordering.{is_lt, nat_cmp}
use Rattle.std.specs.Prelude.{◌==◌}
use Rattle.std.proofs.lemmas.Bool.Decides.{nat_tests}
use Rattle.std.proofs.lemmas.Cmp.{nat_cmp_total}
use Rattle.std.proofs.lemmas.List.{length-map, take-map, take_all}
use Rattle.std.proofs.lemmas.List.Elements.{All-from_recursion}
use Rattle.simplex.proofs.FaultLaws.{faultless_from}
use Rattle.simplex.proofs.Filled.{labels_of, rising_of, short_of}
use Rattle.simplex.proofs.InOrderLaws.{and_left, and_right, in_order_again}
use Rattle.simplex.specs.FirstFailing.{unless_fault}
use Rattle.simplex.specs.InOrder.{is_increasing}
use Rattle.simplex.specs.Simplex.{is_label, is_simplex}
use Rattle.simplex.specs.SimplexFault.{set, simplex_of}
use Rattle.simplex.specs.declared.simplex_fault.SimplexFault.{SimplexFault}
use Rattle.plain_text.specs.Bytes.{is_text}
use Rattle.flip_certificate.specs.Lines.{is_pair}
use Rattle.flip_certificate.specs.declared.line.Line.TheVariants.{End}
use Rattle.flip_certificate.specs.Reading.{checked, guess_line, list_pieces, numbers_in, pair_of, pairs_in, words}
use Rattle.flip_certificate.proofs.CutLaws.{IsCut, first_part}

-- ---- the simplex with just these labels

apart_from : (x : ℕ) (s : List ℕ) → list_all (λ y. is_lt (nat_cmp x y)) s ≡ true → AllByRecursion (λ y. eqb x y ≡ false) s
apart_from x [] h = tt
apart_from x (y ∷ s) h = (one (and_left _ _ h), apart_from x s (and_right (is_lt (nat_cmp x y)) _ h))
  where
    one : is_lt (nat_cmp x y) ≡ true → eqb x y ≡ false
    one e = grind (arith, nat_tests)

distinct_labels : (s : List ℕ) → is_increasing nat_cmp s ≡ true → IsDistinct eqb s
unfolding IsDistinct
distinct_labels [] h = tt
distinct_labels (x ∷ s) h = (apart_from x s (and_left _ _ h), distinct_labels s (and_right (list_all (λ y. is_lt (nat_cmp x y)) s) _ h))

each_label : (s : List ℕ) → list_all is_label s ≡ true → AllByRecursion (λ a. IsTrue (is_label a)) s
each_label [] h = tt
each_label (x ∷ s) h = (and_left _ _ h, each_label s (and_right (is_label x) _ h))

-- a simplex is the set of its labels, which have no fault
made_again : (s : List ℕ) → IsTrue (is_simplex s) → simplex_of s ≡ Ok s
made_again s h =
    ap (λ f. unless_fault f (set s)) (faultless_from s (short_of s h) (All-from_recursion (λ a. IsTrue (is_label a)) s (each_label s (labels_of s h))) (distinct_labels s (rising_of s h)))
    ∙ ap Ok (in_order_again nat_cmp_total nat_cmp-IsAntisymmetric s (rising_of s h))

pub exact_simplex_none : (labels : List ℕ) (r : Result (List ℕ) SimplexFault) → r ≡ simplex_of labels → ((s : List ℕ) → r ≡ Ok s → ⊥) → IsTrue (is_simplex labels) → ⊥
exact_simplex_none labels r e n h = n labels (e ∙ made_again labels h)

true_false : {b : Bool} → b ≡ true → b ≡ false → ⊥
true_false e f = cc

pub exact_simplex_not : (labels s : List ℕ) → Ok s ≡ simplex_of labels → is_text s labels ≡ false → IsTrue (is_simplex labels) → ⊥
exact_simplex_not labels s f e h =
    let g : Ok s ≡ Ok labels = f ∙ made_again labels h in
    let same : s ≡ labels = cc in
    true_false ((bytes_decides s labels).1 same) e

-- ---- pieces

pub pieces_are : (items : List (Bor (List ℕ))) (n : ℕ) (bytes : List ℕ) → n ≡ length items - 2 → map (λ (p : Bor (List ℕ)). p.now) items ≡ slice_split (λ c. c == 93) bytes → map (λ (p : Bor (List ℕ)). p.now) (take n items) ≡ list_pieces bytes
pieces_are items n bytes e h =
    sym (take-map (λ (p : Bor (List ℕ)). p.now) n items)
    ∙ ap (λ k. take k (map (λ (p : Bor (List ℕ)). p.now) items)) (e ∙ ap (λ k. k - 2) (sym (length-map items (λ (p : Bor (List ℕ)). p.now))))
    ∙ ap (λ ps. take (length ps - 2) ps) h

module _ {Y : Type 0} (f : List ℕ → Y) (ok : Y → Bool) where
  all_piece : (ps : List (Bor (List ℕ))) (i : ℕ) (p : Bor (List ℕ)) → i < length ps → list_all ok (map f (map (λ (q : Bor (List ℕ)). q.now) ps)) ≡ true → ok (f (get_or ps i p).now) ≡ true
  all_piece [] i p l h = absurd (omega arith)
  all_piece (q ∷ ps) zero p l h = and_left _ _ h
  all_piece (q ∷ ps) (suc i) p l h = all_piece ps i p (omega arith) (and_right (ok (f q.now)) _ h)

  -- a piece that is not well formed
  pub pieces_not : (ps : List (Bor (List ℕ))) (i : ℕ) (d : Bor (List ℕ)) → i < length ps → (ok (f (get_or ps i d).now) ≡ true → ⊥) → list_all ok (map f (map (λ (q : Bor (List ℕ)). q.now) ps)) ≡ true → ⊥
  pieces_not ps i d l n h = n (all_piece ps i d l h)

-- ---- pairs

abbrev pub pair_at : List ℕ → ℕ × ℕ
pair_at b = pair_of (numbers_in b)

pairs_fused : (bs : List (List ℕ)) → map pair_at bs ≡ map pair_of (map numbers_in bs)
pairs_fused [] = refl
pairs_fused (b ∷ bs) = ap (λ ps. pair_at b ∷ ps) (pairs_fused bs)

module _ (items : List (Bor (List ℕ))) (i : ℕ) (bytes : List ℕ) (h : map (λ (q : Bor (List ℕ)). q.now) items ≡ list_pieces bytes) where
  all_pairs : map pair_at (map (λ (q : Bor (List ℕ)). q.now) items) ≡ pairs_in bytes
  all_pairs = ap (map pair_at) h ∙ pairs_fused (list_pieces bytes)

  pub pairs_done : (pairs : List (ℕ × ℕ)) → length items ≤ i → pairs ≡ map pair_at (map (λ (q : Bor (List ℕ)). q.now) (take i items)) → list_all is_pair pairs ≡ true → IsTrue (list_all is_pair (pairs_in bytes)) × (pairs ≡ pairs_in bytes)
  pairs_done pairs l e g =
      let same : pairs ≡ pairs_in bytes = e ∙ ap (λ ps. map pair_at (map (λ (q : Bor (List ℕ)). q.now) ps)) (take_all i items l) ∙ all_pairs in
      (ap (list_all is_pair) (sym same) ∙ g, same)

  pub pairs_refused : (d : Bor (List ℕ)) → i < length items → (is_pair (pair_at (get_or items i d).now) ≡ true → ⊥) → IsTrue (list_all is_pair (pairs_in bytes)) → ⊥
  pairs_refused d l n k = pieces_not pair_at is_pair items i d l n (ap (list_all is_pair) all_pairs ∙ k)

-- ---- the words of a line

abbrev spaced : List ℕ → List (List ℕ)
spaced bytes = slice_split (λ c. c == 32) bytes

more_words_guess : (line w a x b y d : List ℕ) → spaced line ≡ w ∷ spaced a → spaced a ≡ x ∷ spaced b → spaced b ≡ y ∷ spaced d → Some End ≡ checked (guess_line (words line))
more_words_guess line w a x b y d h k l =
    let r = first_part (λ c. c == 32) d in
    sym (ap (λ ws. checked (guess_line ws)) (h ∙ ap (λ ws. w ∷ ws) (k ∙ ap (λ ws. x ∷ ws) (l ∙ ap (λ ws. y ∷ ws) r.2))))

pub four_words : (line w a x b y : List ℕ) (o : Option (Bor (List ℕ))) → spaced line ≡ w ∷ spaced a → spaced a ≡ x ∷ spaced b → IsCut 32 b y o → is_some o ≡ true → Some End ≡ checked (guess_line (words line))
four_words line w a x b y None h k l e = absurd (true≢false (sym e))
four_words line w a x b y (Some d) h k l e = more_words_guess line w a x b y d.now h k l
