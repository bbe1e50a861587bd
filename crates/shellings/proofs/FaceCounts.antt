-- The faces of a shelling, counted place by place; and so its h-vector.
use Rattle.std.proofs.Common.{◌≡◌, ℕ, zero, suc, ◌+◌, ◌-◌, ◌*◌, ◌≤◌, ◌<◌, add-one, Bool, true, false, not, cond, ◌||◌, List, [], ◌∷◌, ◌++◌, append_assoc, map, length, None, pos, refl, sym, ap, ◌∙◌, subst, inl, inr, arith}
use mathlib.Core.Bool.{true≢false}
use Rattle.std.specs.Prelude.{◌==◌}
use Rattle.std.specs.declared.cmp.Ordering.{Ordering}
use Rattle.std.specs.Cmp.{IsTotalOrder}
use Rattle.std.specs.FinMap.{IsAntisymmetric}
use Rattle.std.specs.List.{list_all, filter, flat_map, range_with_len}
use Rattle.std.proofs.lemmas.Cmp.{nat_list_cmp_total}
use Rattle.std.proofs.lemmas.List.{append-nil}
use Rattle.std.proofs.lemmas.List.FromFn.{get_or-map-range_with_len, length-map-range_with_len}
use Rattle.simplex.specs.Binomials.{choose}
use Rattle.simplex.specs.InOrder.{in_order, is_increasing}
use Rattle.simplex.specs.Simplex.{is_simplex, is_within, without, simplex_cmp, subsets}
use Rattle.simplex.proofs.Decided.{equal_at, or_left, or_right}
use Rattle.simplex.proofs.Filled.{short_of}
use Rattle.simplex.proofs.InOrderLaws.{and_left, and_right, and_both, in_order_again, is_increasing-in_order}
use Rattle.simplex.proofs.Members.{In, first, later, cases, none, all_at, all_from, in_filter, from_filter, in_left, in_right, in_either, from_map, in_flat_map, from_flat_map, in_order_in, from_in_order, same_sets, same_in_order}
use Rattle.simplex.proofs.SimplexLaws.{within_in, above_at, rest_increasing, is_increasing-filter}
use Rattle.facet_set.specs.ClassLaws.{IsOnce}
use Rattle.facet_set.specs.Complex.{is_face, stands_in, faces}
use Rattle.facet_set.specs.Numbers.{size, is_pure, face_count, faces_of_size, f_vector}
use Rattle.facet_set.proofs.ComplexLaws.{exact, is_set, sets_of, from_subsets, in_subsets, from_faces, in_faces}
use Rattle.facet_set.proofs.Counting.{count-put}
use Rattle.face_vectors.specs.Vectors.{signed, sum_ℤ, count_of_size, h_term, h_of}
use Rattle.face_vectors.proofs.SumLaws.{total_is, total_same}
use Rattle.shellings.specs.Shellings.{meets_in_ridges, bad_after, is_shelling, restriction, intervals_after, intervals, count_of_restrictions}
use Rattle.shellings.specs.Laws.{CountsAreHVector}
use Rattle.shellings.proofs.RidgeLaws.{most-filter, earlier_face, stands_at, pure_at}
use Rattle.shellings.proofs.IntervalLaws.{face_more, goes_on, good_facet, good_meets, all_more, all_facets, has_all, shells}
use Rattle.shellings.proofs.SubsetCounts.{above_count, fits, subsets_above}
use Rattle.shellings.proofs.HVectorLaws.{term, above_all, h_all}

-- ---- values that stand once
module _ {X : Type 0} where
  once-filter : (p : X → Bool) (xs : List X) → IsOnce X xs → IsOnce X (filter p xs)
  once-filter p [] h = tt
  once-filter p (x ∷ xs) h = by (p x) (once-filter p xs h.1)
    where
      by : (v : Bool) → IsOnce X (filter p xs) → IsOnce X (cond v (x ∷ filter p xs) (filter p xs))
      by true k = (λ i. h.0 (from_filter p x xs i).0, k)
      by false k = k

  once-append : (xs ys : List X) → IsOnce X xs → IsOnce X ys → ((x : X) → In x xs → In x ys → ⊥) → IsOnce X (xs ++ ys)
  once-append [] ys h k f = k
  once-append (x ∷ xs) ys h k f =
      (λ i. elim (in_either x xs ys i) [ inl j ↦ h.0 j | inr j ↦ f x first j ], once-append xs ys h.1 k (λ y i j. f y (later i) j))

  -- new values make a list in order longer by as many
  count-fresh : {cmp : X → X → Ordering} (o : IsTotalOrder cmp) (e : IsAntisymmetric cmp) (xs ys : List X) → IsOnce X xs → ((x : X) → In x xs → In x ys → ⊥)
      → length (in_order cmp (xs ++ ys)) ≡ length xs + length (in_order cmp ys)
  count-fresh o e [] ys h f = omega arith
  count-fresh {cmp = cmp} o e (x ∷ xs) ys h f =
      let more = count-put o e x (in_order cmp (xs ++ ys)) (λ i. elim (in_either x xs ys (from_in_order o e x (xs ++ ys) i)) [ inl j ↦ h.0 j | inr j ↦ f x first j ]) in
      let rest = count-fresh o e xs ys h.1 (λ y i j. f y (later i) j) in
      omega (arith, more, rest)

tail_same : (a : ℕ) (s t : List ℕ) → a ∷ s ≡ a ∷ t → s ≡ t
tail_same a s t e = cc

once-map : (a : ℕ) (xs : List (List ℕ)) → IsOnce (List ℕ) xs → IsOnce (List ℕ) (map (λ t. a ∷ t) xs)
once-map a [] h = tt
once-map a (x ∷ xs) h =
    (λ i. let r = from_map (λ t. a ∷ t) (a ∷ x) xs i in h.0 (subst (λ t. In t xs) (sym (tail_same a x r.0 r.2)) r.1), once-map a xs h.1)

once-subsets : (s : List ℕ) → is_set s ≡ true → IsOnce (List ℕ) (subsets s)
once-subsets [] h = (λ i. none [] i, tt)
once-subsets (a ∷ s) h =
    once-append (map (λ t. a ∷ t) (subsets s)) (subsets s) (once-map a (subsets s) (once-subsets s (rest_increasing a s h))) (once-subsets s (rest_increasing a s h)) (λ t i j.
    let r = from_map (λ u. a ∷ u) t (subsets s) i in
    let w = (from_subsets s t (rest_increasing a s h) j).1 in
    let l = above_at a s a h (within_in t s a w (subst (λ u. In a u) (sym r.2) first)) in
    absurd (omega arith))

-- ---- one place more
not_false : (v : Bool) → not v ≡ false → v ≡ true
not_false true h = refl
not_false false h = sym h

module _ (l : List (List ℕ)) (f : List ℕ) (i : ℕ) (sets : list_all is_set l ≡ true) (set : is_set f ≡ true) (meets : meets_in_ridges l f ≡ true) where
  abbrev R : List ℕ
  R = restriction l f

  abbrev new : List (List ℕ)
  new = filter (fits i R) (subsets f)

  abbrev old : List (List ℕ)
  old = faces_of_size l i

  whole_sets : list_all is_set (l ++ f ∷ []) ≡ true
  whole_sets = all_more is_set l f sets set

  into : (s : List ℕ) → In s (faces_of_size (l ++ f ∷ []) i) → In s (new ++ old)
  into s j = by (is_face l s) refl
    where
      r : In s (faces (l ++ f ∷ [])) × ((length s == i) ≡ true)
      r = from_filter (λ t. length t == i) s (faces (l ++ f ∷ [])) j

      p : (is_set s ≡ true) × (is_face (l ++ f ∷ []) s ≡ true)
      p = from_faces (l ++ f ∷ []) s whole_sets r.0

      by : (v : Bool) → is_face l s ≡ v → In s (new ++ old)
      by true e = in_right s new old (in_filter (λ t. length t == i) s (faces l) (in_faces l s sets p.0 e) r.1)
      by false e =
          let w : is_within s f ≡ true = sym (ap (λ v. v || is_within s f) e) ∙ sym (face_more l f s) ∙ p.1 in
          let above : is_within R s ≡ true = not_false (is_within R s) (sym (earlier_face l f s meets w) ∙ e) in
          in_left s new old (in_filter (fits i R) s (subsets f) (in_subsets f s set p.0 w) (and_both _ _ r.1 above))

  out_of : (s : List ℕ) → In s (new ++ old) → In s (faces_of_size (l ++ f ∷ []) i)
  out_of s j = elim (in_either s new old j) [
    | inl k ↦
        let q = from_filter (fits i R) s (subsets f) k in
        let t = from_subsets f s set q.0 in
        in_filter (λ u. length u == i) s (faces (l ++ f ∷ [])) (in_faces (l ++ f ∷ []) s whole_sets t.0 (face_more l f s ∙ or_right (is_face l s) (is_within s f) t.1)) (and_left (length s == i) _ q.1)
    | inr k ↦
        let q = from_filter (λ u. length u == i) s (faces l) k in
        let t = from_faces l s sets q.0 in
        in_filter (λ u. length u == i) s (faces (l ++ f ∷ [])) (in_faces (l ++ f ∷ []) s whole_sets t.0 (face_more l f s ∙ or_left (is_face l s) (is_within s f) t.1)) q.1
  ]

  rising : (m : List (List ℕ)) → is_increasing simplex_cmp (faces_of_size m i) ≡ true
  rising m = is_increasing-filter simplex_cmp (λ s. length s == i) (faces m) (is_increasing-in_order nat_list_cmp_total (flat_map subsets m))

  same_faces : faces_of_size (l ++ f ∷ []) i ≡ in_order simplex_cmp (new ++ old)
  same_faces =
      same_sets nat_list_cmp_total exact (faces_of_size (l ++ f ∷ []) i) (in_order simplex_cmp (new ++ old)) (rising (l ++ f ∷ [])) (is_increasing-in_order nat_list_cmp_total (new ++ old))
      (λ s j. in_order_in nat_list_cmp_total exact s (new ++ old) (into s j))
      (λ s j. out_of s (from_in_order nat_list_cmp_total exact s (new ++ old) j))

  apart : (s : List ℕ) → In s new → In s old → ⊥
  apart s j k =
      let q = from_filter (fits i R) s (subsets f) j in
      let w = (from_subsets f s set q.0).1 in
      let t = (from_faces l s sets (from_filter (λ u. length u == i) s (faces l) k).0).1 in
      true≢false (sym t ∙ earlier_face l f s meets w ∙ ap not (and_right (length s == i) _ q.1))

  pub face_count-more : face_count (l ++ f ∷ []) i ≡ above_count (length f) (length R) i + face_count l i
  face_count-more =
      ap length same_faces
      ∙ count-fresh nat_list_cmp_total exact new old (once-filter (fits i R) (subsets f) (once-subsets f set)) apart
      ∙ ap (λ m. length new + length m) (in_order_again nat_list_cmp_total exact old (rising l))
      ∙ ap (λ n. n + face_count l i) (subsets_above (λ a. is_face l (without f a)) f i set)

-- ---- all places
pub record IsPure (c : List (List ℕ)) : Type 0 where
  simplices : list_all is_simplex c ≡ true
  pure : is_pure c ≡ true

facet_sets : (c l : List (List ℕ)) → IsPure c → list_all (stands_in c) l ≡ true → list_all is_set l ≡ true
facet_sets c l p h = all_from is_set l (λ s i. all_at is_set s c (sets_of c p.simplices) (stands_at c s (all_at (stands_in c) s l h i)))

along : (c earlier rest : List (List ℕ)) (i : ℕ) → IsPure c → list_all (stands_in c) earlier ≡ true → bad_after c earlier rest ≡ None
    → face_count (earlier ++ rest) i ≡ above_all (size c) (intervals_after earlier rest) i + face_count earlier i
along c earlier [] i p k h = let e = ap (λ l. face_count l i) (append-nil earlier) in omega (arith, e)
along c earlier (f ∷ rest) i p k h =
    let g = goes_on c earlier f rest h in
    let there = stands_at c f (good_facet c earlier f g.good) in
    let set = all_at is_set f c (sets_of c p.simplices) there in
    let after = along c (earlier ++ f ∷ []) rest i p (all_more (stands_in c) earlier f k (good_facet c earlier f g.good)) g.after in
    let one = face_count-more earlier f i (facet_sets c earlier p k) set (good_meets c earlier f g.good) in
    let long = ap (λ n. above_count n (length (restriction earlier f)) i) (pure_at c f p.pure there) in
    let joined = ap (λ l. face_count l i) (append_assoc earlier (f ∷ []) rest) in
    omega (arith, after, one, long, joined)

short : (c earlier rest : List (List ℕ)) → IsPure c → bad_after c earlier rest ≡ None → (x : List ℕ × List ℕ) → In x (intervals_after earlier rest) → length x.0 ≤ size c
short c earlier [] p h x i = absurd (none x i)
short c earlier (f ∷ rest) p h x i =
    let g = goes_on c earlier f rest h in
    elim (cases i) [
      | inl e ↦
          let long = pure_at c f p.pure (stands_at c f (good_facet c earlier f g.good)) in
          let m = most-filter (λ a. is_face earlier (without f a)) f in
          let same = ap (λ (y : List ℕ × List ℕ). length y.0) e in
          omega (arith, long, m, same)
      | inr j ↦ short c (earlier ++ f ∷ []) rest p g.after x j
    ]

same_members : (c l : List (List ℕ)) → list_all (stands_in l) c ≡ true → list_all (stands_in c) l ≡ true → faces c ≡ faces l
same_members c l h k = same_in_order nat_list_cmp_total exact (flat_map subsets c) (flat_map subsets l) (moved c l h) (moved l c k)
  where
    moved : (c l : List (List ℕ)) → list_all (stands_in l) c ≡ true → (s : List ℕ) → In s (flat_map subsets c) → In s (flat_map subsets l)
    moved c l h s i = let r = from_flat_map subsets s c i in in_flat_map subsets r.0 s l (stands_at l r.0 (all_at (stands_in l) r.0 c h r.1)) r.2

-- ---- the numbers of faces
pub empty_count : (c : List (List ℕ)) → IsPure c → face_count c 0 ≡ 1
empty_count [] p = absurd (true≢false (sym p.pure))
empty_count (t ∷ c) p =
    ap length (same_sets nat_list_cmp_total exact (faces_of_size (t ∷ c) 0) ([] ∷ [])
    (is_increasing-filter simplex_cmp (λ s. length s == 0) (faces (t ∷ c)) (is_increasing-in_order nat_list_cmp_total (flat_map subsets (t ∷ c)))) refl
    (λ s i. is_empty s (from_filter (λ u. length u == 0) s (faces (t ∷ c)) i).1)
    (λ s i. elim (cases i) [
      | inl e ↦ subst (λ u. In u (faces_of_size (t ∷ c) 0)) (sym e) (in_filter (λ u. length u == 0) [] (faces (t ∷ c)) (in_faces (t ∷ c) [] (sets_of (t ∷ c) p.simplices) refl refl) refl)
      | inr n ↦ absurd (none s n)
    ]))
  where
    is_empty : (s : List ℕ) → (length s == 0) ≡ true → In s ([] ∷ [])
    is_empty [] e = first
    is_empty (a ∷ s) e = let n = equal_at (suc (length s)) 0 e in absurd (omega arith)

pub length-f_vector : (c : List (List ℕ)) → length (f_vector c) ≡ size c
length-f_vector c = length-map-range_with_len (face_count c) 1 (size c)

pub count_is : (c : List (List ℕ)) (i : ℕ) → IsPure c → i ≤ size c → count_of_size (f_vector c) i ≡ face_count c i
count_is c zero p h = sym (empty_count c p)
count_is c (suc k) p h = get_or-map-range_with_len (face_count c) 1 (size c) k (suc k) 0 (omega arith) (omega arith)

-- ---- the h-vector
pub map-map : {X Y Z : Type 0} (g : Y → Z) (f : X → Y) (xs : List X) → map g (map f xs) ≡ map (λ x. g (f x)) xs
map-map g f [] = refl
map-map g f (x ∷ xs) = ap (λ ys. g (f x) ∷ ys) (map-map g f xs)

map-same : {X : Type 0} (t u : ℕ → X) (a n : ℕ) → ((k : ℕ) → k < a + n → t k ≡ u k) → map t (range_with_len a n) ≡ map u (range_with_len a n)
map-same t u a zero f = refl
map-same t u a (suc n) f =
    ap (λ x. x ∷ map t (range_with_len (a + 1) n)) (f a (omega arith)) ∙ ap (λ xs. u a ∷ xs) (map-same t u (a + 1) n (λ k l. f k (omega arith)))

h_is : (c l : List (List ℕ)) (k : ℕ) → IsPure c → size c ≤ 12 → is_shelling c l ≡ true → k ≤ size c → pos (count_of_restrictions l k) ≡ h_of (f_vector c) k
h_is c l k p small h q =
    sym (ap (λ m. sum_ℤ (map (h_term (f_vector c) k) (range_with_len 0 m))) (add-one k)
    ∙ total_is (h_term (f_vector c) k) (suc k)
    ∙ total_same (h_term (f_vector c) k) (term (size c) k (above_all (size c) (intervals l))) (suc k) (λ i j. one i (omega arith))
    ∙ h_all (size c) k (intervals l) small q (short c [] l p bad))
  where
    bad : bad_after c [] l ≡ None
    bad = shells c l h

    number : (i : ℕ) → face_count c i ≡ above_all (size c) (intervals l) i
    number i =
        let same = ap (λ fs. length (filter (λ s. length s == i) fs)) (same_members c l (has_all c [] l bad) (all_facets c [] l refl bad)) in
        let n = along c [] l i p refl bad in
        omega (arith, same, n)

    one : (i : ℕ) → i ≤ k → h_term (f_vector c) k i ≡ term (size c) k (above_all (size c) (intervals l)) i
    one i j =
        ap (λ n. signed (k - i) (pos (choose (n - i) (k - i) * count_of_size (f_vector c) i))) (length-f_vector c)
        ∙ ap (λ m. signed (k - i) (pos (choose (size c - i) (k - i) * m))) (count_is c i p (omega arith) ∙ number i)

pub size_small : (c : List (List ℕ)) → list_all is_simplex c ≡ true → is_pure c ≡ true → size c ≤ 12
size_small [] h k = omega arith
size_small (s ∷ c) h k = let e = pure_at (s ∷ c) s k first in let m = short_of s (and_left (is_simplex s) _ h) in omega (arith, e, m)

pub counts_lem : CountsAreHVector
counts_lem c l simplices complex h =
    let p : IsPure c = record { simplices = simplices; pure = and_left (is_pure c) _ h } in
    map-map pos (count_of_restrictions l) (range_with_len 0 (size c + 1))
    ∙ map-same (λ k. pos (count_of_restrictions l k)) (h_of (f_vector c)) 0 (size c + 1) (λ k q. h_is c l k p (size_small c simplices p.pure) h (omega arith))
    ∙ ap (λ n. map (h_of (f_vector c)) (range_with_len 0 (n + 1))) (sym (length-f_vector c))
