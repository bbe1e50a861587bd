-- The Euler characteristic by signed faces, and under a flip.
use Rattle.std.proofs.Common.{◌≡◌, ℕ, zero, suc, ◌+◌, ◌<◌, ◌≤◌, Bool, true, false, not, cond, List, [], ◌∷◌, map, length, ℤ, pos, ◌+ℤ◌, ◌-ℤ◌, refl, sym, ap, subst, inl, inr, arith}
use Rattle.std.specs.Prelude.{◌==◌}
use Rattle.std.specs.List.{filter, range_with_len}
use Rattle.std.proofs.lemmas.Cmp.{nat_list_cmp_total}
use Rattle.std.proofs.lemmas.Int.{ints}
use Rattle.simplex.specs.InOrder.{is_increasing}
use Rattle.simplex.specs.Simplex.{is_simplex, is_within, simplex_cmp, subsets}
use Rattle.simplex.proofs.Decided.{false_from, not_true, equal_at, equal_from}
use Rattle.simplex.proofs.Filled.{rising_of}
use Rattle.simplex.proofs.InOrderLaws.{is_increasing-in_order}
use Rattle.simplex.proofs.Members.{In, first, later, cases, none, all_at, in_filter, from_filter, same_sets}
use Rattle.simplex.proofs.SimplexLaws.{within_in, in_within, within_length, within_trans, label_beside, in_union, from_union, in_without, from_without, is_increasing-filter}
use Rattle.std.specs.List.{flat_map}
use Rattle.simplex.specs.Simplex.{union, without}
use Rattle.facet_set.specs.Complex.{faces, is_face}
use Rattle.facet_set.specs.Numbers.{f_vector, size, is_pure}
use Rattle.facet_set.proofs.ComplexLaws.{exact, sets_of, in_faces, from_faces, face_at, face_from}
use Rattle.facet_set.proofs.FlipLaws.{from_ball, in_ball, pure_at}
use Rattle.face_vectors.specs.Vectors.{alternating}
use Rattle.invariants.specs.Laws.{IsPureComplex}
use Rattle.invariants.proofs.Sums.{sign, weigh, weigh-parts}
use Rattle.invariants.proofs.Between.{weigh-with}
use Rattle.invariants.proofs.Swaps.{Swap, star_of, from_star, none_with, kept, put, back, after_is}

-- ---- alternating sums
abbrev along : (ℕ → ℕ) → ℕ → ℕ → ℤ
along f k n = alternating (map f (range_with_len k n))

along-add : (f g : ℕ → ℕ) (k n : ℕ) → along (λ j. f j + g j) k n ≡ along f k n +ℤ along g k n
along-add f g k zero = omega (arith, ints)
along-add f g k (suc n) = omega (arith, ints, along-add f g (k + 1) n)

along-same : (f g : ℕ → ℕ) (k n : ℕ) → ((j : ℕ) → f j ≡ g j) → along f k n ≡ along g k n
along-same f g k zero h = refl
along-same f g k (suc n) h = λ i. pos (h k i) -ℤ along-same f g (k + 1) n h i

along-zero : (k n : ℕ) → along (λ j. 0) k n ≡ pos 0
along-zero k zero = refl
along-zero k (suc n) = omega (arith, ints, along-zero (k + 1) n)

-- 1 at the one number
abbrev at_one : ℕ → ℕ → ℕ
at_one m j = cond (m == j) 1 0

one_here : (m j : ℕ) → m ≡ j → at_one m j ≡ 1
one_here m j e = ap (λ v. cond v 1 0) (equal_from m j e)

one_elsewhere : (m j : ℕ) → (m ≡ j → ⊥) → at_one m j ≡ 0
one_elsewhere m j f = ap (λ v. cond v 1 0) (false_from (m == j) (λ e. f (equal_at m j e)))

along-before : (m k n : ℕ) → m < k → along (at_one m) k n ≡ pos 0
along-before m k zero h = refl
along-before m k (suc n) h =
    let head = one_elsewhere m k (λ e. omega arith) in
    let rest = along-before m (k + 1) n (omega arith) in
    omega (arith, ints, head, rest)

along-one : (m k i n : ℕ) → m ≡ k + i → i < n → along (at_one m) k n ≡ sign i
along-one m k i zero e h = absurd (omega arith)
along-one m k zero (suc n) e h =
    let head = one_here m k (omega arith) in
    let rest = along-before m (k + 1) n (omega arith) in
    omega (arith, ints, head, rest)
along-one m k (suc i) (suc n) e h =
    let head = one_elsewhere m k (λ f. omega arith) in
    let rest = along-one m (k + 1) i n (omega arith) (omega arith) in
    omega (arith, ints, head, rest)

-- how many of the sets have so many labels
abbrev count : List (List ℕ) → ℕ → ℕ
count l n = length (filter (λ s. length s == n) l)

count_more : (s : List ℕ) (l : List (List ℕ)) (n : ℕ) → count (s ∷ l) n ≡ at_one (length s) n + count l n
count_more s l n = elim (length s == n) as (λ v. length (cond v (s ∷ filter (λ s. length s == n) l) (filter (λ s. length s == n) l)) ≡ cond v 1 0 + count l n) [ true ↦ omega arith | false ↦ omega arith ]

along-counts : (l : List (List ℕ)) (n : ℕ) → ((s : List ℕ) → In s l → length s < n) → along (count l) 0 n ≡ weigh l
along-counts [] n h = along-zero 0 n
along-counts (s ∷ l) n h =
    let head = along-one (length s) 0 (length s) n (omega arith) (h s first) in
    let rest = along-counts l n (λ t i. h t (later i)) in
    let same = along-same (count (s ∷ l)) (λ j. at_one (length s) j + count l j) 0 n (count_more s l) in
    let both = along-add (at_one (length s)) (count l) 0 n in
    omega (arith, ints, head, rest, same, both)

-- ---- the faces of a pure complex
pub faces_up : (c : List (List ℕ)) → is_increasing simplex_cmp (faces c) ≡ true
faces_up c = is_increasing-in_order nat_list_cmp_total (flat_map subsets c)

pub face_short : (c : List (List ℕ)) (s : List ℕ) → IsPureComplex c → In s (faces c) → length s ≤ size c
face_short c s h i =
    let q = from_faces c s (sets_of c h.simplices) i in
    let t = face_at c s q.1 in
    let l = within_length s t.0 q.0 (rising_of t.0 (all_at is_simplex t.0 c h.simplices t.1)) t.2 in
    let e = pure_at c t.0 h.pure t.1 in
    omega arith

pub some_facet : (c : List (List ℕ)) → is_pure c ≡ true → (t : List ℕ) × In t c
some_facet [] h = cc
some_facet (t ∷ c) h = (t, first)

one_empty : (c : List (List ℕ)) → IsPureComplex c → count (faces c) 0 ≡ 1
one_empty c h = ap length (same_sets nat_list_cmp_total exact (filter (λ s. length s == 0) (faces c)) ([] ∷ [])
    (is_increasing-filter simplex_cmp (λ s. length s == 0) (faces c) (faces_up c)) refl
    (λ s i. empty s (equal_at (length s) 0 (from_filter (λ s. length s == 0) s (faces c) i).1))
    (λ s i. elim (cases i) [ inl e ↦ subst (λ u. In u (filter (λ s. length s == 0) (faces c))) (sym e) base | inr j ↦ absurd (none s j) ]))
  where
    empty : (s : List ℕ) → length s ≡ 0 → In s ([] ∷ [])
    empty [] e = first
    empty (x ∷ s) e = absurd (omega arith)

    base : In [] (filter (λ s. length s == 0) (faces c))
    base = let t = some_facet c h.pure in in_filter (λ s. length s == 0) [] (faces c) (in_faces c [] (sets_of c h.simplices) refl (face_from c [] t.0 t.1 refl)) refl

pub euler_is : (c : List (List ℕ)) → IsPureComplex c → alternating (f_vector c) ≡ pos 1 -ℤ weigh (faces c)
euler_is c h =
    let all = along-counts (faces c) (suc (size c)) (λ s i. let l = face_short c s h i in omega arith) in
    let one = one_empty c h in
    omega (arith, ints, all, one)

-- ---- under a flip

-- the faces that have neither set stay
pub face_stays : (c d : List (List ℕ)) (a b s : List ℕ) → Swap c d a b → In s (faces c) → is_within a s ≡ false → In s (faces d) × (is_within b s ≡ false)
face_stays c d a b s w i e =
    let q = from_faces c s (sets_of c w.before.simplices) i in
    let t = face_at c s q.1 in (
      in_faces d s (sets_of d (after_is c d a b w).simplices) q.0 (by t.0 t.1 t.2 (is_within a t.0) refl),
      false_from (is_within b s) (λ f. none_with c a b (star_of c d a b w) t.0 t.1 (within_trans b s t.0 f t.2)),
    )
  where
    by : (t : List ℕ) → In t c → is_within s t ≡ true → (v : Bool) → is_within a t ≡ v → is_face d s ≡ true
    by t i u false f = face_from d s t (kept c d a b w t i f) u
    by t i u true f =
        let r = from_ball a b t (from_star c a b (star_of c d a b w) t i f) in
        let y = label_beside a s e in
        let n = union b (without a y.0) in
        face_from d s n (put c d a b w n (in_ball b a y.0 y.1)) (in_within s n (λ x j. in_union b (without a y.0) x (elim (from_union a (without b r.0) x (subst (λ u. In x u) r.2 (within_in s t x u j))) [
          | inl k ↦ inr (in_without a y.0 x k (λ g. y.2 (subst (λ z. In z s) g j)))
          | inr k ↦ inl (from_without b r.0 x k).0
        ])))

faces_stay : (c d : List (List ℕ)) (a b : List ℕ) → Swap c d a b → filter (λ s. not (is_within a s)) (faces c) ≡ filter (λ s. not (is_within b s)) (faces d)
faces_stay c d a b w =
    same_sets nat_list_cmp_total exact (filter (λ s. not (is_within a s)) (faces c)) (filter (λ s. not (is_within b s)) (faces d))
    (is_increasing-filter simplex_cmp (λ s. not (is_within a s)) (faces c) (faces_up c)) (is_increasing-filter simplex_cmp (λ s. not (is_within b s)) (faces d) (faces_up d))
    (one c d a b w) (one d c b a (back c d a b w))
  where
    one : (c d : List (List ℕ)) (a b : List ℕ) → Swap c d a b → (s : List ℕ) → In s (filter (λ s. not (is_within a s)) (faces c)) → In s (filter (λ s. not (is_within b s)) (faces d))
    one c d a b w s i =
        let q = from_filter (λ s. not (is_within a s)) s (faces c) i in
        let r = face_stays c d a b s w q.0 (not_true (is_within a s) q.1) in
        in_filter (λ s. not (is_within b s)) s (faces d) r.0 (ap not r.1)

-- those that have one of them are between that one and both
weigh-faces : (c d : List (List ℕ)) (a b : List ℕ) → Swap c d a b → weigh (faces c) ≡ weigh (filter (λ s. not (is_within a s)) (faces c)) -ℤ sign (length a + length b)
weigh-faces c d a b w =
    let parts = weigh-parts (is_within a) (faces c) in
    let with_a = weigh-with c a b (sets_of c w.before.simplices) (star_of c d a b w) (faces_up c) in
    omega (arith, ints, parts, with_a)

pub euler_stays : (c d : List (List ℕ)) (a b : List ℕ) → Swap c d a b → alternating (f_vector d) ≡ alternating (f_vector c)
euler_stays c d a b w =
    let one = weigh-faces c d a b w in
    let two = weigh-faces d c b a (back c d a b w) in
    let same = ap weigh (faces_stay c d a b w) in
    let turn : length a + length b ≡ length b + length a = omega arith in
    let signs = ap sign turn in
    let x = euler_is c w.before in
    let y = euler_is d (after_is c d a b w) in
    omega (arith, ints, one, two, same, signs, x, y)
