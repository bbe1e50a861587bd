-- Roots in a forest of numbers.
use Rattle.std.proofs.Common.{◌≡◌, ℕ, zero, suc, ◌+◌, ◌≤◌, ◌<◌, Bool, true, false, cond, eqb, min, max, List, [], ◌∷◌, ◌++◌, length, take, get_or, refl, sym, ap, ◌∙◌, subst, ◌⊎◌, inl, inr, arith, add-one}
use Rattle.std.specs.Prelude.{◌==◌}
use Rattle.std.specs.List.{filter, range_with_len}
use Rattle.std.proofs.Math.ListN.{set, length-set}
use Rattle.std.proofs.lemmas.Bool.Decides.{nat_tests}
use Rattle.std.proofs.lemmas.Grind.{get_or-set_at}
use Rattle.std.proofs.lemmas.List.{get_or-set_other, take_more}
use Rattle.std.proofs.lemmas.List.FromFn.{length-range_with_len, get_or-range_with_len}
use Rattle.simplex.specs.Members.{In, first, later}
use Rattle.simplex.proofs.Members.{cases, none, in_either}
use Rattle.simplex.proofs.Ranges.{in_range, from_range}
use Rattle.simplex.proofs.Decided.{agree, equal_at, equal_from}
use Rattle.facet_set.specs.ClassLaws.{IsOnce}
use Rattle.facet_set.specs.Connection.{Chain, here, step, classes}
use Rattle.facet_set.proofs.SetLaws.{in_place}
use Rattle.local_parts.specs.Forest.{Falls, climb, root, moved, HasChains, IsForest}
use Rattle.local_parts.proofs.CountLaws.{classes_are}

climb_stays : (p : List ℕ) (n i : ℕ) → get_or p i 0 ≡ i → climb p n i ≡ i
climb_stays p zero i e = refl
climb_stays p (suc n) i e = ap (climb p n) e ∙ climb_stays p n i e

lower : (p : List ℕ) (i : ℕ) → Falls p → i < length p → (get_or p i 0 ≡ i) ⊎ (get_or p i 0 < i)
lower p i f h =
    let l = f i h in
    elim (eqb (get_or p i 0) i) as (λ v. eqb (get_or p i 0) i ≡ v → (get_or p i 0 ≡ i) ⊎ (get_or p i 0 < i)) [
      | true ↦ λ e. inl (grind (arith, nat_tests))
      | false ↦ λ e. inr (grind (arith, nat_tests))
    ] refl

climb_fixed : (p : List ℕ) (n i : ℕ) → Falls p → i ≤ n → i < length p → get_or p (climb p n i) 0 ≡ climb p n i
climb_fixed p zero i f l h = let q = f i h in omega arith
climb_fixed p (suc n) i f l h = elim (lower p i f h) [
  | inl e ↦ let s = climb_stays p (suc n) i e in ap (λ j. get_or p j 0) s ∙ e ∙ sym s
  | inr q ↦ climb_fixed p n (get_or p i 0) f (omega arith) (omega arith)
]

climb_after : (p : List ℕ) (n i : ℕ) → climb p n (get_or p i 0) ≡ get_or p (climb p n i) 0
climb_after p zero i = refl
climb_after p (suc n) i = climb_after p n (get_or p i 0)

pub root_fixed : (p : List ℕ) (i : ℕ) → Falls p → i < length p → get_or p (root p i) 0 ≡ root p i
root_fixed p i f h = climb_fixed p (length p) i f (omega arith) h

pub root_next : (p : List ℕ) (i : ℕ) → Falls p → i < length p → root p (get_or p i 0) ≡ root p i
root_next p i f h = climb_after p (length p) i ∙ root_fixed p i f h

pub root_itself : (p : List ℕ) (i : ℕ) → get_or p i 0 ≡ i → root p i ≡ i
root_itself p i e = climb_stays p (length p) i e

climb_within : (p : List ℕ) (n i : ℕ) → Falls p → i < length p → climb p n i ≤ i
climb_within p zero i f h = omega arith
climb_within p (suc n) i f h = let l = f i h in let r = climb_within p n (get_or p i 0) f (omega arith) in omega arith

pub root_within : (p : List ℕ) (i : ℕ) → Falls p → i < length p → root p i < length p
root_within p i f h = let r = climb_within p (length p) i f h in omega arith

-- what is one along each step and has each root as it is, is the root
climb_keeps : (p : List ℕ) (g : ℕ → ℕ) → Falls p → ((x : ℕ) → x < length p → g (get_or p x 0) ≡ g x) → (n x : ℕ) → x < length p → g (climb p n x) ≡ g x
climb_keeps p g f h zero x l = refl
climb_keeps p g f h (suc n) x l = let q = f x l in climb_keeps p g f h n (get_or p x 0) (omega arith) ∙ h x l

root_is : (p : List ℕ) (g : ℕ → ℕ) → Falls p → ((x : ℕ) → x < length p → g (get_or p x 0) ≡ g x) → ((x : ℕ) → x < length p → get_or p x 0 ≡ x → g x ≡ x) → (x : ℕ) → x < length p → root p x ≡ g x
root_is p g f h k x l = sym (k (root p x) (root_within p x f l) (root_fixed p x f l)) ∙ climb_keeps p g f h (length p) x l

-- ---- one tree under another

moved_at : (a b r : ℕ) → r ≡ b → moved a b r ≡ a
moved_at a b r e = let q : (r == b) ≡ true = grind (arith, nat_tests) in ap (λ v. cond v a r) q

moved_not : (a b r : ℕ) → (r ≡ b → ⊥) → moved a b r ≡ r
moved_not a b r f = let q : (r == b) ≡ false = by (r == b) refl in ap (λ v. cond v a r) q
  where
    same : (r == b) ≡ true → r ≡ b
    same e = grind (arith, nat_tests)

    by : (v : Bool) → (r == b) ≡ v → v ≡ false
    by true e = absurd (f (same e))
    by false e = refl

moved_low : (a b : ℕ) → moved a b a ≡ a
moved_low a b = elim (a == b) as (λ v. cond v a a ≡ a) [ true ↦ refl | false ↦ refl ]

same_or_not : (x b : ℕ) → (x ≡ b) ⊎ (x ≡ b → ⊥)
same_or_not x b = elim (eqb x b) as (λ v. eqb x b ≡ v → (x ≡ b) ⊎ (x ≡ b → ⊥)) [
  | true ↦ λ e. inl (grind (arith, nat_tests))
  | false ↦ λ e. inr (λ q. differ x b e q)
] refl
  where
    differ : (x b : ℕ) → eqb x b ≡ false → x ≡ b → ⊥
    differ x b e q = grind (arith, nat_tests)

module _ (p : List ℕ) (a b : ℕ) (f : Falls p) (low : a ≤ b) (within : b < length p) (roota : get_or p a 0 ≡ a) (rootb : get_or p b 0 ≡ b) where
  long : length (set p b a) ≡ length p
  long = length-set p b a

  at_b : (x : ℕ) → x ≡ b → get_or (set p b a) x 0 ≡ a
  at_b x e = get_or-set_at p b x a 0 e within

  elsewhere : (x : ℕ) → (x ≡ b → ⊥) → get_or (set p b a) x 0 ≡ get_or p x 0
  elsewhere x d = get_or-set_other p b x a 0 d

  pub united_falls : Falls (set p b a)
  united_falls x h = elim (same_or_not x b) [
    | inl e ↦ let q = at_b x e in omega arith
    | inr d ↦ let q = elsewhere x d in let l = long in let m = f x (omega arith) in omega arith
  ]

  pub united_roots : (x : ℕ) → x < length p → root (set p b a) x ≡ moved a b (root p x)
  united_roots x h =
      root_is (set p b a) (λ y. moved a b (root p y)) united_falls
      (λ y l. elim (same_or_not y b) [
        | inl e ↦ ap (λ z. moved a b (root p z)) (at_b y e) ∙ ap (moved a b) (root_itself p a roota) ∙ moved_low a b ∙ sym (moved_at a b (root p y) (ap (root p) e ∙ root_itself p b rootb))
        | inr d ↦ let n = long in ap (λ z. moved a b (root p z)) (elsewhere y d) ∙ ap (moved a b) (root_next p y f (omega arith))
      ])
      (λ y l k. elim (same_or_not y b) [
        | inl e ↦ let same : a ≡ y = sym (at_b y e) ∙ k in ap (moved a b) (ap (root p) e ∙ root_itself p b rootb) ∙ moved_at a b b refl ∙ same
        | inr d ↦ ap (moved a b) (root_itself p y (sym (elsewhere y d) ∙ k)) ∙ moved_not a b y d
      ])
      x (let n = long in omega arith)

root_either : (p : List ℕ) (r s m : ℕ) → (m ≡ min r s) ⊎ (m ≡ max r s) → r < length p → s < length p → get_or p r 0 ≡ r → get_or p s 0 ≡ s → (m < length p) × (get_or p m 0 ≡ m)
root_either p r s m e h k f g = elim (same_or_not m r) [
  | inl q ↦ (omega arith, ap (λ x. get_or p x 0) q ∙ f ∙ sym q)
  | inr d ↦ let q : m ≡ s = elim e [ inl w ↦ omega (arith, d) | inr w ↦ omega (arith, d) ] in (omega arith, ap (λ x. get_or p x 0) q ∙ g ∙ sym q)
]

pub hung_falls : (p : List ℕ) (i j r s low high : ℕ) → Falls p → r ≡ root p i → s ≡ root p j → low ≡ min r s → high ≡ max r s → r < length p → s < length p → get_or p r 0 ≡ r → get_or p s 0 ≡ s → Falls (set p high low)
hung_falls p i j r s low high f a b e k wr ws fr fs =
    let x = root_either p r s low (inl e) wr ws fr fs in
    let y = root_either p r s high (inr k) wr ws fr fs in
    united_falls p low high f (omega arith) y.0 x.1 y.1

pub hung_roots : (p : List ℕ) (i j r s low high : ℕ) → Falls p → r ≡ root p i → s ≡ root p j → low ≡ min r s → high ≡ max r s → r < length p → s < length p → get_or p r 0 ≡ r → get_or p s 0 ≡ s
    → (x : ℕ) → x < length p → root (set p high low) x ≡ moved (min (root p i) (root p j)) (max (root p i) (root p j)) (root p x)
hung_roots p i j r s low high f a b e k wr ws fr fs x h =
    let v = root_either p r s low (inl e) wr ws fr fs in
    let w = root_either p r s high (inr k) wr ws fr fs in
    let is_low : low ≡ min (root p i) (root p j) = e ∙ ap (λ n. min n s) a ∙ ap (min (root p i)) b in
    let is_high : high ≡ max (root p i) (root p j) = k ∙ ap (λ n. max n s) a ∙ ap (max (root p i)) b in
    united_roots p low high f (omega (arith, e, k)) w.0 v.1 w.1 x h ∙ ap (λ n. moved n high (root p x)) is_low ∙ ap (λ n. moved (min (root p i) (root p j)) n (root p x)) is_high

-- ---- chains

join : (joined : ℕ → ℕ → Bool) (xs : List ℕ) {x y z : ℕ} → Chain joined xs x y → Chain joined xs y z → Chain joined xs x z
join joined xs here d = d
join joined xs (step h i c) d = step h i (join joined xs c d)

back : (joined : ℕ → ℕ → Bool) → ((x y : ℕ) → joined x y ≡ joined y x) → (xs : List ℕ) {x z : ℕ} → In x xs → Chain joined xs x z → Chain joined xs z x
back joined even xs i here = here
back joined even xs {x = x} i (step {y = y} h j c) = join joined xs (back joined even xs j c) (step (even y x ∙ h) i here)

pub below_range : (n x : ℕ) → In x (range_with_len 0 n) → x < n
below_range n x i = let r = from_range 0 n x i in let h : x < 0 + n = r.1 in omega arith

once_range : (n a : ℕ) → IsOnce ℕ (range_with_len a n)
once_range zero a = tt
once_range (suc n) a = (λ i. let r = from_range (a + 1) n a i in absurd (let l = r.0 in omega arith), once_range n (a + 1))

-- ---- the forest, pair by pair

pub alone : (n : ℕ) (all : List (ℕ × ℕ)) (p : List ℕ) → p ≡ range_with_len 0 n → IsForest n [] all p
alone n all p e = record {
  long = long;
  falls = λ i h. let q = at i (omega (arith, long)) in omega arith;
  same = λ q i. absurd (none q i);
  chained = λ joined hc x h. subst (λ y. Chain joined (range_with_len 0 n) x y) (sym (root_itself p x (at x h))) here;
}
  where
    long : length p ≡ n
    long = ap length e ∙ length-range_with_len 0 n

    at : (i : ℕ) → i < n → get_or p i 0 ≡ i
    at i h = let k = ap (λ l. get_or l i 0) e ∙ get_or-range_with_len 0 n i 0 h in omega arith

moved_least : (r s : ℕ) → (moved (min r s) (max r s) r ≡ min r s) × (moved (min r s) (max r s) s ≡ min r s)
moved_least r s = (one r s, elim (same_or_not s (max r s)) [ inl e ↦ moved_at (min r s) (max r s) s e | inr d ↦ moved_not (min r s) (max r s) s d ∙ least r s d ])
  where
    least : (r s : ℕ) → (s ≡ max r s → ⊥) → s ≡ min r s
    least r s d = elim (same_or_not s (min r s)) [ inl e ↦ e | inr k ↦ absurd (d (greatest r s k)) ]
      where
        greatest : (r s : ℕ) → (s ≡ min r s → ⊥) → s ≡ max r s
        greatest r s k = omega (arith, k)

    one : (r s : ℕ) → moved (min r s) (max r s) r ≡ min r s
    one r s = elim (same_or_not r (max r s)) [ inl e ↦ moved_at (min r s) (max r s) r e | inr d ↦ moved_not (min r s) (max r s) r d ∙ first_least r s d ]
      where
        first_least : (r s : ℕ) → (r ≡ max r s → ⊥) → r ≡ min r s
        first_least r s d = omega (arith, d)

pub forest_more : (n : ℕ) (done all : List (ℕ × ℕ)) (q : ℕ × ℕ) (p u : List ℕ) → In q all → q.0 < n → q.1 < n → IsForest n done all p → length u ≡ length p → Falls u
    → ((x : ℕ) → x < length p → root u x ≡ moved (min (root p q.0) (root p q.1)) (max (root p q.0) (root p q.1)) (root p x))
    → ((w : ℕ × ℕ) → In w done → (w.0 < n) × (w.1 < n)) → IsForest n (done ++ q ∷ []) all u
forest_more n done all q p u iq h k forest l falls roots below = record {
  long = l ∙ forest.long;
  falls = falls;
  same = λ w i. elim (in_either w done (q ∷ []) i) [
    | inl j ↦ let b = below w j in rooted w.0 b.0 ∙ ap (moved low high) (forest.same w j) ∙ sym (rooted w.1 b.1)
    | inr j ↦ elim (cases j) [
      | inl e ↦ subst (λ (v : ℕ × ℕ). root u v.0 ≡ root u v.1) (sym e) (rooted q.0 h ∙ (moved_least (root p q.0) (root p q.1)).0 ∙ sym (moved_least (root p q.0) (root p q.1)).1 ∙ sym (rooted q.1 k))
      | inr m ↦ absurd (none w m)
    ]
  ];
  chained = λ joined hc x hx. subst (λ y. Chain joined range x y) (sym (rooted x hx)) (to_moved joined hc (root p x) (forest.chained joined hc x hx));
}
  where
    range : List ℕ
    range = range_with_len 0 n

    low : ℕ
    low = min (root p q.0) (root p q.1)

    high : ℕ
    high = max (root p q.0) (root p q.1)

    rooted : (x : ℕ) → x < n → root u x ≡ moved low high (root p x)
    rooted x hx = let e = forest.long in roots x (omega arith)

    at : (joined : ℕ → ℕ → Bool) → HasChains joined all n → (x : ℕ) → x < n → Chain joined range x (root p x)
    at joined hc x hx = forest.chained joined hc x hx

    across : (joined : ℕ → ℕ → Bool) → HasChains joined all n → Chain joined range (root p q.0) (root p q.1)
    across joined hc = join joined range (back joined hc.even range (in_range 0 n q.0 (omega arith) (omega arith)) (at joined hc q.0 h)) (join joined range (hc.chained q iq) (at joined hc q.1 k))

    first_within : root p q.0 < n
    first_within = let e = forest.long in let r = root_within p q.0 forest.falls (omega arith) in omega arith

    which : ((high ≡ root p q.1) × (low ≡ root p q.0)) ⊎ ((high ≡ root p q.0) × (low ≡ root p q.1))
    which = elim (same_or_not high (root p q.1)) [
      | inl e ↦ inl (e, omega (arith, e))
      | inr d ↦ inr (omega (arith, d), omega (arith, d))
    ]

    down : (joined : ℕ → ℕ → Bool) → HasChains joined all n → Chain joined range high low
    down joined hc = elim which [
      | inl w ↦ subst (λ y. Chain joined range y low) (sym w.0) (subst (λ y. Chain joined range (root p q.1) y) (sym w.1) (back joined hc.even range (in_range 0 n (root p q.0) (omega arith) (let f = first_within in omega arith)) (across joined hc)))
      | inr w ↦ subst (λ y. Chain joined range y low) (sym w.0) (subst (λ y. Chain joined range (root p q.0) y) (sym w.1) (across joined hc))
    ]

    to_moved : (joined : ℕ → ℕ → Bool) → HasChains joined all n → {x : ℕ} (r : ℕ) → Chain joined range x r → Chain joined range x (moved low high r)
    to_moved joined hc {x = x} r c = elim (same_or_not r high) [
      | inl e ↦ subst (λ y. Chain joined range x y) (sym (moved_at low high r e)) (join joined range (subst (λ y. Chain joined range x y) e c) (down joined hc))
      | inr d ↦ subst (λ y. Chain joined range x y) (sym (moved_not low high r d)) c
    ]

filter_same : (p q : ℕ → Bool) (l : List ℕ) → ((x : ℕ) → In x l → p x ≡ q x) → filter p l ≡ filter q l
filter_same p q [] f = refl
filter_same p q (x ∷ l) f = ap (λ b. cond b (x ∷ filter p l) (filter p l)) (f x first) ∙ ap (λ k. cond (q x) (x ∷ k) k) (filter_same p q l (λ y i. f y (later i)))

pub forest_count : (n : ℕ) (all : List (ℕ × ℕ)) (p : List ℕ) → IsForest n all all p → (joined : ℕ → ℕ → Bool) → HasChains joined all n → length (filter (λ i. get_or p i 0 == i) (range_with_len 0 n)) ≡ length (classes joined (range_with_len 0 n))
forest_count n all p forest joined hc =
    ap length (filter_same (λ i. eqb (get_or p i 0) i) (λ i. eqb (root p i) i) (range_with_len 0 n) (λ x i.
    let w : x < length p = let e = forest.long in omega (arith, (below_range n x i)) in
    agree (eqb (get_or p x 0) x) (eqb (root p x) x)
    (λ t. equal_from (root p x) x (root_itself p x (equal_at (get_or p x 0) x t)))
    (λ t. let e = equal_at (root p x) x t in equal_from (get_or p x 0) x (ap (λ y. get_or p y 0) (sym e) ∙ root_fixed p x forest.falls w ∙ e))))
    ∙ sym (classes_are joined hc.even (range_with_len 0 n) (root p) (once_range n 0) record {
      chained = λ x i. forest.chained joined hc x (below_range n x i);
      same = λ x y i j e. hc.spanned (root p) forest.same x y (below_range n x i) (below_range n y j) e;
      fixed = λ x i. let w : x < length p = let e = forest.long in omega (arith, (below_range n x i)) in root_itself p (root p x) (root_fixed p x forest.falls w);
    })

-- ---- what the steps of the code come to

in_take : {X : Type 0} (k : ℕ) (xs : List X) (x : X) → In x (take k xs) → In x xs
in_take zero xs x i = absurd (none x i)
in_take (suc k) [] x i = i
in_take (suc k) (y ∷ xs) x i = elim (cases i) [ inl e ↦ subst (λ z. In x (z ∷ xs)) e first | inr j ↦ later (in_take k xs x j) ]

pub forest_step : (n : ℕ) (all : List (ℕ × ℕ)) (k : ℕ) (p u : List ℕ) → k < length all → ((q : ℕ × ℕ) → In q all → (q.0 < n) × (q.1 < n)) → IsForest n (take k all) all p → length u ≡ length p → Falls u
    → ((x : ℕ) → x < length p → root u x ≡ moved (min (root p (get_or all k (0, 0)).0) (root p (get_or all k (0, 0)).1)) (max (root p (get_or all k (0, 0)).0) (root p (get_or all k (0, 0)).1)) (root p x))
    → IsForest n (take (k + 1) all) all u
forest_step n all k p u h below forest l falls roots =
    let q : ℕ × ℕ = get_or all k (0, 0) in
    let i : In q all = in_place all k (0, 0) h in
    subst (λ l. IsForest n l all u) (sym (take_more all k (0, 0) h))
    (forest_more n (take k all) all q p u i (below q i).0 (below q i).1 forest l falls roots (λ w j. below w (in_take k all w j)))

range_grow : (n a j : ℕ) → a + n ≡ j → range_with_len a (suc n) ≡ range_with_len a n ++ j ∷ []
range_grow zero a j e = let f : a ≡ j = omega arith in ap (λ x. x ∷ []) f
range_grow (suc n) a j e = ap (λ l. a ∷ l) (range_grow n (a + 1) j (omega arith))

pub range_more : (n : ℕ) → range_with_len 0 (n + 1) ≡ range_with_len 0 n ++ n ∷ []
range_more n = ap (range_with_len 0) (add-one n) ∙ range_grow n 0 n (omega arith)

pub count_step : (test : ℕ → Bool) (i n : ℕ) → n ≡ length (filter test (range_with_len 0 i)) → n + cond (test i) 1 0 ≡ length (filter test (range_with_len 0 (i + 1)))
count_step test i n e = sym (ap (λ l. length (filter test l)) (range_more i) ∙ filter_last test (range_with_len 0 i) i ∙ ap (λ m. m + cond (test i) 1 0) (sym e))
  where
    filter_last : (test : ℕ → Bool) (xs : List ℕ) (x : ℕ) → length (filter test (xs ++ x ∷ [])) ≡ length (filter test xs) + cond (test x) 1 0
    filter_last test [] x = elim (test x) as (λ v. length (cond v (x ∷ []) []) ≡ 0 + cond v 1 0) [ true ↦ refl | false ↦ refl ]
    filter_last test (y ∷ xs) x =
        let rest = filter_last test xs x in
        elim (test y) as (λ v. length (cond v (y ∷ filter test (xs ++ x ∷ [])) (filter test (xs ++ x ∷ []))) ≡ length (cond v (y ∷ filter test xs) (filter test xs)) + cond (test x) 1 0) [ true ↦ omega (arith, rest) | false ↦ rest ]

pub at_most_more : (b : Bool) (n i : ℕ) → n ≤ i → n + cond b 1 0 ≤ i + 1
at_most_more true n i h = omega arith
at_most_more false n i h = omega arith

pub counted_is : (m n r : ℕ) (all : List (ℕ × ℕ)) (p l : List ℕ) → IsForest m all all p → m ≡ n → l ≡ p → r ≡ length (filter (λ i. get_or l i 0 == i) (range_with_len 0 (length l))) → (joined : ℕ → ℕ → Bool) → HasChains joined all n → r ≡ length (classes joined (range_with_len 0 n))
counted_is m n r all p l forest e f g joined hc =
    let forest' : IsForest n all all p = subst (λ k. IsForest k all all p) e forest in
    g ∙ ap (λ k. length (filter (λ i. get_or k i 0 == i) (range_with_len 0 (length k)))) f
    ∙ ap (λ k. length (filter (λ i. get_or p i 0 == i) (range_with_len 0 k))) forest'.long ∙ forest_count n all p forest' joined hc

pub take_front : (n : ℕ) (xs ys : List ℕ) → length xs ≡ n → take n (xs ++ ys) ≡ xs
take_front n xs ys e = ap (λ m. take m (xs ++ ys)) (sym e) ∙ whole xs ys
  where
    whole : (xs ys : List ℕ) → take (length xs) (xs ++ ys) ≡ xs
    whole [] ys = refl
    whole (x ∷ xs) ys = ap (λ l. x ∷ l) (whole xs ys)
