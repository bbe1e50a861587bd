-- The union of two sets, label by label from their fronts.
use Rattle.std.proofs.Common.{◌≡◌, ℕ, zero, suc, ◌<◌, ◌≤◌, ◌+◌, true, false, cond, ◌⊎◌, inl, inr, List, [], ◌∷◌, ◌++◌, length, drop, length-append, append-nil, append_assoc, Option, Some, None, refl, sym, ap, ◌∙◌, subst, arith, min, ltb}
use Rattle.std.specs.Bool.{IsTrue}
use Rattle.std.specs.Prelude.{◌==◌}
use Rattle.std.specs.List.{list_all, slice_get}
use Rattle.std.specs.Ordering.{nat_cmp}
use Rattle.std.proofs.lemmas.List.{drop-drop}
use Rattle.std.proofs.lemmas.Option.{slice_get_within}
use Rattle.std.specs.FinMap.{nat_cmp-IsAntisymmetric}
use Rattle.std.proofs.lemmas.Cmp.{nat_cmp_total}
use Rattle.std.proofs.lemmas.Bool.Decides.{nat_tests}
use Rattle.simplex.specs.InOrder.{is_increasing, in_order}
use Rattle.simplex.specs.Merge.{least, passed}
use Rattle.simplex.specs.Simplex.{union, is_simplex, is_label}
use Rattle.simplex.proofs.InOrderLaws.{is_increasing-in_order}
use Rattle.simplex.proofs.Members.{In, later, cases, at_head, in_left, in_right, in_either, in_order_in, from_in_order, same_sets, all_from, all_at}
use Rattle.simplex.proofs.SimplexLaws.{above_at, rest_increasing, front_increasing, from_union, is_increasing-union}
use Rattle.simplex.proofs.Filled.{all_front, rising_front, simplex_from, rising_of, labels_of}

-- a set whose least label is x
led : (x : ℕ) (zs ws : List ℕ) → ((q : ℕ) → In q zs → In q (x ∷ ws)) → ((q : ℕ) → In q (x ∷ ws) → In q zs) → ((q : ℕ) → In q ws → x < q) → in_order nat_cmp zs ≡ x ∷ in_order nat_cmp ws
led x zs ws f g above =
    same_sets nat_cmp_total nat_cmp-IsAntisymmetric (in_order nat_cmp zs) (x ∷ in_order nat_cmp ws) (is_increasing-in_order nat_cmp_total zs)
    (front_increasing x (in_order nat_cmp ws) (λ c i. above c (from_in_order nat_cmp_total nat_cmp-IsAntisymmetric c ws i)) (is_increasing-in_order nat_cmp_total ws))
    (λ q i. elim (cases (f q (from_in_order nat_cmp_total nat_cmp-IsAntisymmetric q zs i))) [ inl e ↦ at_head q x _ e | inr j ↦ later (in_order_in nat_cmp_total nat_cmp-IsAntisymmetric q ws j) ])
    (λ q i. in_order_in nat_cmp_total nat_cmp-IsAntisymmetric q zs (g q (elim (cases i) [ inl e ↦ at_head q x ws e | inr j ↦ later (from_in_order nat_cmp_total nat_cmp-IsAntisymmetric q ws j) ])))

three : (a b : ℕ) → (a < b) ⊎ ((a ≡ b) ⊎ (b < a))
three a b = elim (ltb a b) as (λ v. ltb a b ≡ v → (a < b) ⊎ ((a ≡ b) ⊎ (b < a))) [
  | true ↦ λ e. inl (grind (arith, nat_tests))
  | false ↦ λ e. elim (ltb b a) as (λ v. ltb b a ≡ v → (a < b) ⊎ ((a ≡ b) ⊎ (b < a))) [
    | true ↦ λ f. inr (inr (grind (arith, nat_tests)))
    | false ↦ λ f. inr (inl (grind (arith, nat_tests)))
  ] refl
] refl

below_rest : (a b : ℕ) (ys : List ℕ) → is_increasing nat_cmp (b ∷ ys) ≡ true → a < b → (q : ℕ) → In q (b ∷ ys) → a < q
below_rest a b ys h l q i = elim (cases i) [ inl e ↦ omega arith | inr j ↦ let m = above_at b ys q h j in omega arith ]

passed_same : (a l : ℕ) → a ≡ l → passed (Some a) l ≡ 1
passed_same a l e = let t : (a == l) ≡ true = grind (arith, nat_tests) in ap (λ v. cond v 1 0) t

passed_other : (a l : ℕ) → l < a → passed (Some a) l ≡ 0
passed_other a l e = let t : (a == l) ≡ false = grind (arith, nat_tests) in ap (λ v. cond v 1 0) t

-- the least of both fronts is the first of the union
merged : (xs ys : List ℕ) (l : ℕ) → is_increasing nat_cmp xs ≡ true → is_increasing nat_cmp ys ≡ true → least (slice_get xs 0) (slice_get ys 0) ≡ Some l
    → union xs ys ≡ l ∷ union (drop (passed (slice_get xs 0) l) xs) (drop (passed (slice_get ys 0) l) ys)
merged [] [] l h k e = cc
merged [] (b ∷ ys) l h k e =
    let same : b ≡ l = cc in
    led b (b ∷ ys) ys (λ q i. i) (λ q i. i) (λ q i. above_at b ys q k i) ∙ ap (λ x. x ∷ in_order nat_cmp ys) same ∙ ap (λ n. l ∷ union [] (drop n (b ∷ ys))) (sym (passed_same b l same))
merged (a ∷ xs) [] l h k e =
    let same : a ≡ l = cc in
    let nil : xs ++ [] ≡ xs = append-nil xs in
    led a ((a ∷ xs) ++ []) (xs ++ []) (λ q i. i) (λ q i. i) (λ q i. above_at a xs q h (subst (λ zs. In q zs) nil i)) ∙ ap (λ x. x ∷ in_order nat_cmp (xs ++ [])) same
    ∙ ap (λ n. l ∷ union (drop n (a ∷ xs)) []) (sym (passed_same a l same))
merged (a ∷ xs) (b ∷ ys) l h k e =
    elim (three a b) [
      | inl less ↦
          let is_min : min a b ≡ l = cc in
          let same : a ≡ l = omega arith in
          led a ((a ∷ xs) ++ b ∷ ys) (xs ++ b ∷ ys) (λ q i. i) (λ q i. i) (λ q i. elim (in_either q xs (b ∷ ys) i) [ inl j ↦ above_at a xs q h j | inr j ↦ below_rest a b ys k less q j ])
          ∙ ap (λ x. x ∷ in_order nat_cmp (xs ++ b ∷ ys)) same
          ∙ ap (λ n. l ∷ union (drop n (a ∷ xs)) (b ∷ ys)) (sym (passed_same a l same)) ∙ ap (λ n. l ∷ union (drop (passed (Some a) l) (a ∷ xs)) (drop n (b ∷ ys))) (sym (passed_other b l (omega arith)))
      | inr other ↦ elim other [
        | inl both ↦
            let is_min : min a b ≡ l = cc in
            let same : a ≡ l = omega arith in
            led a ((a ∷ xs) ++ b ∷ ys) (xs ++ ys)
            (λ q i. elim (in_either q (a ∷ xs) (b ∷ ys) i) [ inl j ↦ elim (cases j) [ inl f ↦ at_head q a _ f | inr m ↦ later (in_left q xs ys m) ] | inr j ↦ elim (cases j) [ inl f ↦ at_head q a _ (f ∙ sym both) | inr m ↦ later (in_right q xs ys m) ] ])
            (λ q i. elim (cases i) [ inl f ↦ at_head q a _ f | inr j ↦ elim (in_either q xs ys j) [ inl m ↦ later (in_left q xs (b ∷ ys) m) | inr m ↦ later (in_right q xs (b ∷ ys) (later m)) ] ])
            (λ q i. elim (in_either q xs ys i) [ inl j ↦ above_at a xs q h j | inr j ↦ let m = above_at b ys q k j in omega arith ])
            ∙ ap (λ x. x ∷ in_order nat_cmp (xs ++ ys)) same
            ∙ ap (λ n. l ∷ union (drop n (a ∷ xs)) ys) (sym (passed_same a l same)) ∙ ap (λ n. l ∷ union (drop (passed (Some a) l) (a ∷ xs)) (drop n (b ∷ ys))) (sym (passed_same b l (omega arith)))
        | inr more ↦
            let is_min : min a b ≡ l = cc in
            let same : b ≡ l = omega arith in
            led b ((a ∷ xs) ++ b ∷ ys) ((a ∷ xs) ++ ys)
            (λ q i. elim (in_either q (a ∷ xs) (b ∷ ys) i) [ inl j ↦ later (in_left q (a ∷ xs) ys j) | inr j ↦ elim (cases j) [ inl f ↦ at_head q b _ f | inr m ↦ later (in_right q (a ∷ xs) ys m) ] ])
            (λ q i. elim (cases i) [ inl f ↦ in_right q (a ∷ xs) (b ∷ ys) (at_head q b ys f) | inr j ↦ elim (in_either q (a ∷ xs) ys j) [ inl m ↦ in_left q (a ∷ xs) (b ∷ ys) m | inr m ↦ in_right q (a ∷ xs) (b ∷ ys) (later m) ] ])
            (λ q i. elim (in_either q (a ∷ xs) ys i) [ inl j ↦ below_rest b a xs h more q j | inr j ↦ above_at b ys q k j ])
            ∙ ap (λ x. x ∷ in_order nat_cmp ((a ∷ xs) ++ ys)) same
            ∙ ap (λ n. l ∷ union (drop n (a ∷ xs)) ys) (sym (passed_other a l (omega arith))) ∙ ap (λ n. l ∷ union (drop (passed (Some a) l) (a ∷ xs)) (drop n (b ∷ ys))) (sym (passed_same b l same))
      ]
    ]

rising_drop : (n : ℕ) (s : List ℕ) → is_increasing nat_cmp s ≡ true → is_increasing nat_cmp (drop n s) ≡ true
rising_drop zero s h = h
rising_drop (suc n) [] h = h
rising_drop (suc n) (a ∷ s) h = rising_drop n s (rest_increasing a s h)

get_drop : (n : ℕ) (s : List ℕ) → slice_get s n ≡ slice_get (drop n s) 0
get_drop zero s = refl
get_drop (suc n) [] = refl
get_drop (suc n) (a ∷ s) = get_drop n s

-- one step of a merge, from any two places
pub merged_at : (s t : List ℕ) (i j l : ℕ) → IsTrue (is_simplex s) → IsTrue (is_simplex t) → least (slice_get s i) (slice_get t j) ≡ Some l
    → union (drop i s) (drop j t) ≡ l ∷ union (drop (i + passed (slice_get s i) l) s) (drop (j + passed (slice_get t j) l) t)
merged_at s t i j l h k e =
    let p = get_drop i s in
    let q = get_drop j t in
    merged (drop i s) (drop j t) l (rising_drop i s (rising_of s h)) (rising_drop j t (rising_of t k)) (ap (λ x. least x (slice_get (drop j t) 0)) (sym p) ∙ ap (λ x. least (slice_get s i) x) (sym q) ∙ e)
    ∙ ap (λ xs. l ∷ union xs (drop (passed (slice_get (drop j t) 0) l) (drop j t))) (ap (λ x. drop (passed x l) (drop i s)) (sym p) ∙ drop-drop (passed (slice_get s i) l) i s)
    ∙ ap (λ ys. l ∷ union (drop (i + passed (slice_get s i) l) s) ys) (ap (λ x. drop (passed x l) (drop j t)) (sym q) ∙ drop-drop (passed (slice_get t j) l) j t)

-- ---- a merge whose labels so far are `out`
labels-union : (s t : List ℕ) → IsTrue (is_simplex s) → IsTrue (is_simplex t) → list_all is_label (union s t) ≡ true
labels-union s t h k = all_from is_label (union s t) (λ a i. elim (from_union s t a i) [ inl j ↦ all_at is_label a s (labels_of s h) j | inr j ↦ all_at is_label a t (labels_of t k) j ])

pub merge_next : (s t out more : List ℕ) (l : ℕ) → IsTrue (is_simplex s) → IsTrue (is_simplex t) → length out < 12 → out ++ l ∷ more ≡ union s t → IsTrue (is_simplex (out ++ l ∷ []))
merge_next s t out more l h k short e =
    let whole : (out ++ l ∷ []) ++ more ≡ union s t = append_assoc out (l ∷ []) more ∙ e in
    simplex_from (out ++ l ∷ []) (omega (arith, length-append out (l ∷ [])))
    (all_front is_label (out ++ l ∷ []) more (ap (list_all is_label) whole ∙ labels-union s t h k))
    (rising_front (out ++ l ∷ []) more (ap (is_increasing nat_cmp) whole ∙ is_increasing-union s t))

pub merge_full : (s t out more : List ℕ) (l : ℕ) → length out ≡ 12 → out ++ l ∷ more ≡ union s t → 12 < length (union s t)
merge_full s t out more l full e = omega (arith, ap length e, length-append out (l ∷ more))

passed_most : (a : Option ℕ) (l : ℕ) → passed a l ≤ 1
passed_most None l = omega arith
passed_most (Some a) l = elim (a == l) as (λ v. cond v 1 0 ≤ 1) [ true ↦ omega arith | false ↦ omega arith ]

pub passed_within : (s : List ℕ) (i l : ℕ) → i ≤ length s → i + passed (slice_get s i) l ≤ length s
passed_within s i l h = by_place (slice_get s i) refl
  where
    by_place : (a : Option ℕ) → slice_get s i ≡ a → i + passed a l ≤ length s
    by_place None e = omega arith
    by_place (Some a) e = let within = slice_get_within s i a e in omega (arith, passed_most (Some a) l)

pub passed_some : (a b : Option ℕ) (l : ℕ) → least a b ≡ Some l → 1 ≤ passed a l + passed b l
passed_some None None l e = cc
passed_some None (Some b) l e = let same : b ≡ l = cc in omega (arith, passed_same b l same)
passed_some (Some a) None l e = let same : a ≡ l = cc in omega (arith, passed_same a l same)
passed_some (Some a) (Some b) l e =
    let is_min : min a b ≡ l = cc in
    elim (three a b) [
      | inl less ↦ let same : a ≡ l = omega arith in omega (arith, passed_same a l same)
      | inr other ↦ let same : b ≡ l = elim other [ inl f ↦ omega arith | inr f ↦ omega arith ] in omega (arith, passed_same b l same)
    ]

least_none : (a b : Option ℕ) → ((l : ℕ) → least a b ≡ Some l → ⊥) → (a ≡ None) × (b ≡ None)
least_none None None f = (refl, refl)
least_none None (Some b) f = absurd (f b refl)
least_none (Some a) None f = absurd (f a refl)
least_none (Some a) (Some b) f = absurd (f (min a b) refl)

drop_none : (s : List ℕ) (i : ℕ) → slice_get s i ≡ None → drop i s ≡ []
drop_none [] zero e = refl
drop_none [] (suc i) e = refl
drop_none (a ∷ s) zero e = cc
drop_none (a ∷ s) (suc i) e = drop_none s i e

pub merge_end : (s t out : List ℕ) (i j : ℕ) → ((l : ℕ) → least (slice_get s i) (slice_get t j) ≡ Some l → ⊥) → out ++ union (drop i s) (drop j t) ≡ union s t → out ≡ union s t
merge_end s t out i j f e =
    let n = least_none (slice_get s i) (slice_get t j) f in
    sym (append-nil out) ∙ ap (λ x. out ++ union x []) (sym (drop_none s i n.0)) ∙ ap (λ x. out ++ union (drop i s) x) (sym (drop_none t j n.1)) ∙ e

pub union_simplex : (s t out : List ℕ) → IsTrue (is_simplex s) → IsTrue (is_simplex t) → length out ≤ 12 → out ≡ union s t → IsTrue (is_simplex out)
union_simplex s t out h k short e =
    simplex_from out short (ap (list_all is_label) e ∙ labels-union s t h k) (ap (is_increasing nat_cmp) e ∙ is_increasing-union s t)
