-- The labels of lists of simplices: their number, the greatest, and the least that is missing.
use Rattle.std.proofs.Common.{◌≡◌, ℕ, suc, ◌+◌, ◌≤◌, ◌<◌, true, false, not, cond, eqb, ltb, List, [], ◌∷◌, ◌++◌, length, take, drop, get_or, max, refl, sym, ap, ◌∙◌, subst, ◌⊎◌, inl, inr, arith, add-one}
use mathlib.Core.Bool.{true≢false}
use Rattle.std.specs.List.{list_any, list_all, filter, flat_map, fold, dedup}
use Rattle.std.specs.List.Sorted.{IsPermutation, IsSorted}
use Rattle.std.specs.Ordering.{nat_cmp, eq_by_cmp}
use Rattle.std.specs.Cmp.{nat_eq_equiv}
use Rattle.std.specs.FinMap.{nat_cmp-IsAntisymmetric}
use Rattle.std.proofs.lemmas.Bool.Decides.{nat_tests}
use Rattle.std.proofs.lemmas.Cmp.{nat_cmp_total}
use Rattle.std.proofs.lemmas.Grind.{flat_map-append}
use Rattle.std.proofs.lemmas.List.{take_more}
use Rattle.std.proofs.lemmas.List.Kept.{IsStrictlySortedBy-dedup, Contains-dedup, Contains-from_dedup}
use Rattle.std.proofs.lemmas.List.Sorted.{Contains-permutation, IsPermutation-sym}
use Rattle.std.proofs.Math.Seq.{drop-cons}
use Rattle.simplex.specs.InOrder.{in_order}
use Rattle.simplex.specs.Simplex.{has, is_label, is_simplex, union}
use Rattle.simplex.proofs.FaultLaws.{increasing_from_sorted}
use Rattle.simplex.proofs.Filled.{labels_of}
use Rattle.simplex.proofs.InOrderLaws.{is_increasing-in_order}
use Rattle.simplex.proofs.Members.{In, first, later, cases, at_head, none, any_from, any_at, all_at, all_from, in_filter, from_filter, in_left, in_right, in_either, in_contains, contains_in, in_order_in, from_in_order, same_sets}
use Rattle.simplex.proofs.SimplexLaws.{has_at, has_from, in_union, from_union, is_increasing-union, is_increasing-filter, disjoint_from}
use Rattle.simplex.proofs.Decided.{eqb_equal}
use Rattle.facet_set.specs.Complex.{verts}
use Rattle.facet_set.specs.Numbers.{greatest}
use Rattle.facet_set.specs.Flips.{least_missing}
use Rattle.facet_set.proofs.ComplexLaws.{is_set}
use Rattle.facet_set.proofs.FlipLaws.{length-union}
use Rattle.facet_set.proofs.OptionLaws.{in_verts, from_verts}

abbrev pub labels : List (List ℕ) → List ℕ
labels c = flat_map (λ s. s) c

pub labels_more : (c : List (List ℕ)) (i : ℕ) (s : List ℕ) → i < length c → s ≡ get_or c i s → labels (take (i + 1) c) ≡ labels (take i c) ++ s
labels_more c i s h e =
    ap labels (take_more c i s h ∙ ap (λ x. take i c ++ x ∷ []) (sym e)) ∙ flat_map-append (λ s. s) (take i c) (s ∷ []) ∙ ap (λ l. labels (take i c) ++ l) (append-nil s)
  where
    append-nil : (l : List ℕ) → l ++ [] ≡ l
    append-nil [] = refl
    append-nil (x ∷ l) = ap (λ k. x ∷ k) (append-nil l)

-- ---- a list of labels that is sorted and freed of repeats
ties : (a b : ℕ) → eqb a b ≡ eq_by_cmp nat_cmp a b
ties a b = grind (arith, nat_tests)

pub sorted_labels : (list sorted : List ℕ) → IsPermutation list sorted → IsSorted nat_cmp sorted → dedup eqb sorted ≡ in_order nat_cmp list
sorted_labels list sorted p s =
    same_sets nat_cmp_total nat_cmp-IsAntisymmetric (dedup eqb sorted) (in_order nat_cmp list)
    (increasing_from_sorted nat_cmp (dedup eqb sorted) (IsStrictlySortedBy-dedup nat_cmp_total ties sorted s))
    (is_increasing-in_order nat_cmp_total list)
    (λ q i. in_order_in nat_cmp_total nat_cmp-IsAntisymmetric q list (contains_in list q (Contains-permutation sorted list q (IsPermutation-sym list sorted p) (Contains-from_dedup eqb sorted q (in_contains (dedup eqb sorted) q i)))))
    (λ q i. contains_in (dedup eqb sorted) q (Contains-dedup nat_eq_equiv eqb_equal sorted q (Contains-permutation list sorted q p (in_contains list q (from_in_order nat_cmp_total nat_cmp-IsAntisymmetric q list i)))))

pub verts_labels : (c : List (List ℕ)) → list_all is_simplex c ≡ true → list_all is_label (verts c) ≡ true
verts_labels c h = all_from is_label (verts c) (λ x i. let r = from_verts c x i in all_at is_label x r.0 (labels_of r.0 (all_at is_simplex r.0 c h r.1)) r.2)

-- ---- the greatest label
fold_from : (a : ℕ) (xs : List ℕ) → fold max a xs ≡ max a (fold max 0 xs)
fold_from a [] = omega arith
fold_from a (x ∷ xs) = let p = fold_from (max a x) xs in let q = fold_from (max 0 x) xs in omega (arith, p, q)

pub fold_append : (xs ys : List ℕ) → fold max 0 (xs ++ ys) ≡ max (fold max 0 xs) (fold max 0 ys)
fold_append [] ys = omega arith
fold_append (x ∷ xs) ys = let p = fold_from (max 0 x) (xs ++ ys) in let q = fold_from (max 0 x) xs in let r = fold_append xs ys in omega (arith, p, q, r)

pub greatest_more : (c : List (List ℕ)) (i : ℕ) (s : List ℕ) (g l r : ℕ) → i < length c → s ≡ get_or c i s → g ≡ fold max 0 (labels (take i c)) → l ≡ fold max 0 s → r ≡ max l g → r ≡ fold max 0 (labels (take (i + 1) c))
greatest_more c i s g l r h e p q k =
    let t = ap (fold max 0) (labels_more c i s h e) ∙ fold_append (labels (take i c)) s in
    omega (arith, t, p, q, k)

fold_above : (x : ℕ) (xs : List ℕ) → In x xs → x ≤ fold max 0 xs
fold_above x [] i = absurd (none x i)
fold_above x (y ∷ xs) i =
    let p = fold_from (max 0 y) xs in
    elim (cases i) [ inl e ↦ omega (arith, p, e) | inr j ↦ (let q = fold_above x xs j in omega (arith, p, q)) ]

fold_in : (xs : List ℕ) → (fold max 0 xs ≡ 0) ⊎ In (fold max 0 xs) xs
fold_in [] = inl refl
fold_in (y ∷ xs) =
    let p = fold_from (max 0 y) xs in
    elim (fold_in xs) [
      | inl e ↦ inr (at_head (fold max 0 (y ∷ xs)) y xs (omega (arith, p, e)))
      | inr j ↦ elim (ltb y (fold max 0 xs)) as (λ v. ltb y (fold max 0 xs) ≡ v → (fold max 0 (y ∷ xs) ≡ 0) ⊎ In (fold max 0 (y ∷ xs)) (y ∷ xs)) [
        | true ↦ λ q.
            let below : y < fold max 0 xs = grind (arith, nat_tests) in
            let same : fold max 0 (y ∷ xs) ≡ fold max 0 xs = omega (arith, p, below) in
            inr (later (subst (λ n. In n xs) (sym same) j))
        | false ↦ λ q. let above : fold max 0 xs ≤ y = grind (arith, nat_tests) in inr (at_head (fold max 0 (y ∷ xs)) y xs (omega (arith, p, above)))
      ] refl
    ]

fold_below : (xs ys : List ℕ) → ((x : ℕ) → In x xs → In x ys) → fold max 0 xs ≤ fold max 0 ys
fold_below xs ys f = elim (fold_in xs) [ inl e ↦ omega (arith, e) | inr i ↦ fold_above (fold max 0 xs) ys (f (fold max 0 xs) i) ]

pub greatest_is : (c : List (List ℕ)) → fold max 0 (labels c) ≡ greatest c
greatest_is c =
    let p = fold_below (labels c) (verts c) (λ x i. in_order_in nat_cmp_total nat_cmp-IsAntisymmetric x (labels c) i) in
    let q = fold_below (verts c) (labels c) (λ x i. from_in_order nat_cmp_total nat_cmp-IsAntisymmetric x (labels c) i) in
    omega (arith, p, q)

-- ---- the number of labels
abbrev pub new_labels : List (List ℕ) → List ℕ → List ℕ
new_labels c s = filter (λ a. not (list_any (λ t. has t a) c)) s

pub verts_more : (c : List (List ℕ)) (s : List ℕ) → is_set s ≡ true → length (verts (c ++ s ∷ [])) ≡ length (verts c) + length (new_labels c s)
verts_more c s h =
    ap length joined ∙ length-union (verts c) (new_labels c s) (is_increasing-in_order nat_cmp_total (labels c)) (is_increasing-filter nat_cmp (λ a. not (list_any (λ t. has t a) c)) s h)
    (disjoint_from (verts c) (new_labels c s) (λ x i j.
    let r = from_verts c x i in
    let q = from_filter (λ a. not (list_any (λ t. has t a) c)) x s j in
    true≢false (sym q.1 ∙ ap not (any_from (λ t. has t x) r.0 c r.1 (has_from r.0 x r.2)))))
  where
    to_union : (x : ℕ) → In x (verts (c ++ s ∷ [])) → In x (union (verts c) (new_labels c s))
    to_union x i =
        let r = from_verts (c ++ s ∷ []) x i in
        in_union (verts c) (new_labels c s) x (elim (in_either r.0 c (s ∷ []) r.1) [
          | inl j ↦ inl (in_verts c r.0 x j r.2)
          | inr j ↦ elim (cases j) [
            | inl e ↦ elim (list_any (λ t. has t x) c) as (λ v. list_any (λ t. has t x) c ≡ v → In x (verts c) ⊎ In x (new_labels c s)) [
              | true ↦ λ p. let q = any_at (λ t. has t x) c p in inl (in_verts c q.0 x q.1 (has_at q.0 x q.2))
              | false ↦ λ p. inr (in_filter (λ a. not (list_any (λ t. has t a) c)) x s (subst (λ l. In x l) e r.2) (ap not p))
            ] refl
            | inr n ↦ absurd (none r.0 n)
          ]
        ])

    from_joined : (x : ℕ) → In x (union (verts c) (new_labels c s)) → In x (verts (c ++ s ∷ []))
    from_joined x i = elim (from_union (verts c) (new_labels c s) x i) [
      | inl j ↦ let r = from_verts c x j in in_verts (c ++ s ∷ []) r.0 x (in_left r.0 c (s ∷ []) r.1) r.2
      | inr j ↦ let q = from_filter (λ a. not (list_any (λ t. has t a) c)) x s j in in_verts (c ++ s ∷ []) s x (in_right s c (s ∷ []) first) q.0
    ]

    joined : verts (c ++ s ∷ []) ≡ union (verts c) (new_labels c s)
    joined = same_sets nat_cmp_total nat_cmp-IsAntisymmetric (verts (c ++ s ∷ [])) (union (verts c) (new_labels c s)) (is_increasing-in_order nat_cmp_total (labels (c ++ s ∷ []))) (is_increasing-union (verts c) (new_labels c s)) to_union from_joined

pub count_more : (c : List (List ℕ)) (i : ℕ) (s : List ℕ) (n k : ℕ) → i < length c → s ≡ get_or c i s → is_set s ≡ true → n ≡ length (verts (take i c)) → k ≡ length (new_labels (take i c) s) → n + k ≡ length (verts (take (i + 1) c))
count_more c i s n k h e u p q =
    let t = ap (λ l. length (verts l)) (take_more c i s h ∙ ap (λ x. take i c ++ x ∷ []) (sym e)) ∙ verts_more (take i c) s u in
    omega (arith, t, p, q)

-- ---- the least label that is missing
pub missing_here : (vs : List ℕ) (i n d : ℕ) → i < length vs → (eqb n (get_or vs i d)) ≡ false → least_missing n (drop i vs) ≡ n
missing_here vs i n d h e = ap (least_missing n) (drop-cons vs i d h) ∙ ap (λ b. cond b (least_missing (n + 1) (drop (suc i) vs)) n) e

pub missing_next : (vs : List ℕ) (i n d : ℕ) → i < length vs → (eqb n (get_or vs i d)) ≡ true → least_missing n (drop i vs) ≡ least_missing (n + 1) (drop (i + 1) vs)
missing_next vs i n d h e = ap (least_missing n) (drop-cons vs i d h) ∙ ap (λ b. cond b (least_missing (n + 1) (drop (suc i) vs)) n) e ∙ ap (λ j. least_missing (n + 1) (drop j vs)) (sym (add-one i))
