-- Renumberings: the labels of a list, each beside one of the labels that follow a number.
use Rattle.std.proofs.Common.{◌≡◌, ℕ, zero, suc, ◌+◌, ◌≤◌, ◌<◌, true, List, [], ◌∷◌, ◌++◌, length, take, get_or, add-one, refl, sym, ap, ◌∙◌, arith}
use Rattle.std.specs.List.{list_all, range_with_len, zip}
use Rattle.std.proofs.lemmas.Bool.{le-leb}
use Rattle.std.proofs.lemmas.List.FromFn.{length-range_with_len}
use Rattle.std.proofs.lemmas.Slice.Zip.{firsts-zip, seconds-zip}
use Rattle.simplex.specs.Simplex.{is_label, label_limit}
use Rattle.simplex.proofs.InOrderLaws.{and_both}
use Rattle.simplex.proofs.Members.{all_from}
use Rattle.simplex.proofs.Ranges.{from_range}
use Rattle.facet_set.proofs.MapLaws.{firsts, seconds, seconds_labels}
use Rattle.constructions.specs.Relabelling.{renumbering}

pub firsts_renumbering : (n : ℕ) (vs : List ℕ) → firsts (renumbering n vs) ≡ vs
firsts_renumbering n vs = firsts-zip vs (range_with_len (n + 1) (length vs)) (length-range_with_len (n + 1) (length vs))

pub seconds_renumbering : (n : ℕ) (vs : List ℕ) → seconds (renumbering n vs) ≡ range_with_len (n + 1) (length vs)
seconds_renumbering n vs = seconds-zip vs (range_with_len (n + 1) (length vs)) (length-range_with_len (n + 1) (length vs))

pub is_labelled : (a : ℕ) → 1 ≤ a → a ≤ 1000000 → is_label a ≡ true
is_labelled a l u = and_both _ _ (le-leb 1 a l) (le-leb a 1000000 u)

pub range_labels : (n k : ℕ) → n + k ≤ label_limit → list_all is_label (range_with_len (n + 1) k) ≡ true
range_labels n k h = all_from is_label (range_with_len (n + 1) k) (λ a i. let q = from_range (n + 1) k a i in is_labelled a (omega (arith, q.0)) (omega (arith, q.1)))

pub renumbering_labels : (n : ℕ) (vs : List ℕ) → n + length vs ≤ label_limit → list_all (λ (p : ℕ × ℕ). is_label p.1) (renumbering n vs) ≡ true
renumbering_labels n vs h = seconds_labels (renumbering n vs) (ap (list_all is_label) (seconds_renumbering n vs) ∙ range_labels n (length vs) h)

-- one more label in the order
numbered_more : (xs : List ℕ) (a i x d : ℕ) → i < length xs → x ≡ get_or xs i d → zip (take i xs) (range_with_len a i) ++ (x, a + i) ∷ [] ≡ zip (take (suc i) xs) (range_with_len a (suc i))
numbered_more [] a i x d h e = absurd (omega arith)
numbered_more (y ∷ xs) a zero x d h e = let n : a + 0 ≡ a = omega arith in λ k. (e k, n k) ∷ []
numbered_more (y ∷ xs) a (suc i) x d h e =
    let n : a + suc i ≡ (a + 1) + i = omega arith in
    ap (λ l. (y, a) ∷ l) (ap (λ b. zip (take i xs) (range_with_len (a + 1) i) ++ (x, b) ∷ []) n ∙ numbered_more xs (a + 1) i x d (omega arith) e)

pub numbered_next : (xs : List ℕ) (pairs next : List (ℕ × ℕ)) (n i d : ℕ) → i < length xs → pairs ≡ zip (take i xs) (range_with_len (n + 1) i) → next ≡ pairs ++ (get_or xs i d, n + 1 + i) ∷ []
    → next ≡ zip (take (i + 1) xs) (range_with_len (n + 1) (i + 1))
numbered_next xs pairs next n i d h g k =
    k ∙ ap (λ l. l ++ (get_or xs i d, n + 1 + i) ∷ []) g ∙ numbered_more xs (n + 1) i (get_or xs i d) d h refl ∙ ap (λ j. zip (take j xs) (range_with_len (n + 1) j)) (sym (add-one i))
