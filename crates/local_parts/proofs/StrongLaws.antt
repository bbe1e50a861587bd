-- Strong connection by the pairs of facets with a common ridge.
use Rattle.std.proofs.Common.{◌≡◌, ℕ, zero, suc, ◌+◌, ◌<◌, ◌≤◌, Bool, true, false, not, ◌&&◌, nat_le, List, [], ◌∷◌, ◌++◌, map, length, take, get_or, refl, sym, ap, ◌∙◌, subst, ◌⊎◌, inl, inr, arith}
use Rattle.std.specs.Prelude.{◌==◌, Option, Some, None}
use Rattle.std.specs.Ordering.{is_lt, nat_cmp}
use Rattle.std.specs.List.{list_all, range_with_len}
use Rattle.std.proofs.lemmas.Bool.Decides.{nat_tests}
use Rattle.std.proofs.lemmas.List.{take_more, take_all}
use Rattle.simplex.specs.InOrder.{is_increasing}
use Rattle.simplex.specs.Members.{In, first}
use Rattle.simplex.specs.Simplex.{has, is_within, without, common, simplex_cmp}
use Rattle.simplex.proofs.InOrderLaws.{and_left, and_right}
use Rattle.simplex.proofs.Members.{cases, none, all_at, in_filter, from_filter, in_map, from_map, in_left, in_right, in_either}
use Rattle.simplex.proofs.SimplexLaws.{has_at, has_from, in_within, within_length, within_same, is_increasing-filter, from_without}
use Rattle.simplex.proofs.Ranges.{in_range}
use Rattle.facet_set.specs.Numbers.{size, is_pure}
use Rattle.facet_set.specs.Connection.{Chain, here, step, classes, share_ridge, is_strong}
use Rattle.facet_set.proofs.ComplexLaws.{is_set}
use Rattle.facet_set.proofs.FlipLaws.{pure_at, length-without}
use Rattle.facet_set.proofs.SetLaws.{in_place}
use Rattle.facet_set.proofs.FacetLaws.{not_below_itself}
use Rattle.local_parts.specs.Forest.{HasChains}
use Rattle.local_parts.specs.Pairs.{ridge_places, IsTied}
use Rattle.local_parts.proofs.CountLaws.{classes_at}
use Rattle.local_parts.proofs.PlaceLaws.{listed}
use Rattle.local_parts.proofs.RidgeLaws.{lacking_in, size_at, size_is}

-- ---- the ridges with the places of their facets

pub places_append : (i : ℕ) (c d : List (List ℕ)) → ridge_places i (c ++ d) ≡ ridge_places i c ++ ridge_places (i + length c) d
places_append i [] d = let e : i ≡ i + 0 = omega arith in ap (λ k. ridge_places k d) e
places_append i (s ∷ c) d =
    let e : i + 1 + length c ≡ i + suc (length c) = omega arith in
    ap (λ l. map (λ a. (without s a, i)) s ++ l) (places_append (i + 1) c d ∙ ap (λ k. ridge_places (i + 1) c ++ ridge_places k d) e)
    ∙ sym (assoc (map (λ a. (without s a, i)) s) (ridge_places (i + 1) c) (ridge_places (i + suc (length c)) d))
  where
    assoc : (x y z : List (List ℕ × ℕ)) → (x ++ y) ++ z ≡ x ++ (y ++ z)
    assoc [] y z = refl
    assoc (w ∷ x) y z = ap (λ l. w ∷ l) (assoc x y z)

pub places_more : (c : List (List ℕ)) (k : ℕ) (s : List ℕ) → k < length c → s ≡ get_or c k s → ridge_places 0 (take k c) ++ map (λ a. (without s a, k)) s ≡ ridge_places 0 (take (k + 1) c)
places_more c k s h e = sym (
    ap (ridge_places 0) (take_more c k s h ∙ ap (λ x. take k c ++ x ∷ []) (sym e)) ∙ places_append 0 (take k c) (s ∷ [])
    ∙ ap (λ n. ridge_places 0 (take k c) ++ (map (λ a. (without s a, n)) s ++ [])) (taken c k h) ∙ ap (λ l. ridge_places 0 (take k c) ++ l) (append_nil (map (λ a. (without s a, k)) s)))
  where
    taken_len : (c : List (List ℕ)) (k : ℕ) → k < length c → length (take k c) ≡ k
    taken_len c zero h = refl
    taken_len [] (suc k) h = absurd (omega arith)
    taken_len (s ∷ c) (suc k) h = ap suc (taken_len c k (omega arith))

    taken : (c : List (List ℕ)) (k : ℕ) → k < length c → 0 + length (take k c) ≡ k
    taken c k h = omega (arith, taken_len c k h)

    append_nil : (l : List (List ℕ × ℕ)) → l ++ [] ≡ l
    append_nil [] = refl
    append_nil (x ∷ l) = ap (λ k. x ∷ k) (append_nil l)

pub record IsPlace (i : ℕ) (c : List (List ℕ)) (r : List ℕ) (n : ℕ) : Type 0 where
  pub place : ℕ
  pub label : ℕ
  pub within : place < length c
  pub is : n ≡ i + place
  pub lies : In label (get_or c place [])
  pub ridge : r ≡ without (get_or c place []) label

from_places : (i : ℕ) (c : List (List ℕ)) (r : List ℕ) (n : ℕ) → In (r, n) (ridge_places i c) → IsPlace i c r n
from_places i [] r n j = absurd (none (r, n) j)
from_places i (s ∷ c) r n j = elim (in_either (r, n) (map (λ a. (without s a, i)) s) (ridge_places (i + 1) c) j) [
  | inl k ↦
      let m = from_map (λ a. (without s a, i)) (r, n) s k in
      let num : n ≡ i = ap (λ (w : List ℕ × ℕ). w.1) m.2 in
      record { place = 0; label = m.0; within = omega arith; is = omega (arith, num); lies = m.1; ridge = ap (λ (w : List ℕ × ℕ). w.0) m.2 }
  | inr k ↦
      let p = from_places (i + 1) c r n k in
      record { place = suc p.place; label = p.label; within = omega (arith, p.within); is = omega (arith, p.is); lies = p.lies; ridge = p.ridge }
]

in_places : (i : ℕ) (c : List (List ℕ)) (k a : ℕ) → k < length c → In a (get_or c k []) → In (without (get_or c k []) a, i + k) (ridge_places i c)
in_places i [] k a h j = absurd (omega arith)
in_places i (s ∷ c) zero a h j =
    let e : i ≡ i + 0 = omega arith in
    subst (λ n. In (without s a, n) (ridge_places i (s ∷ c))) e (in_left (without s a, i) (map (λ b. (without s b, i)) s) (ridge_places (i + 1) c) (in_map (λ b. (without s b, i)) a s j))
in_places i (s ∷ c) (suc k) a h j =
    let e : i + 1 + k ≡ i + suc k = omega arith in
    subst (λ n. In (without (get_or c k []) a, n) (ridge_places i (s ∷ c))) e
    (in_right (without (get_or c k []) a, i + 1 + k) (map (λ b. (without s b, i)) s) (ridge_places (i + 1) c) (in_places (i + 1) c k a (omega arith) j))

-- ---- one more place

-- the pairs so far, with the facet that stands for each ridge
pub record Ties (at : List ℕ → Option ℕ) (places : List (List ℕ × ℕ)) (pairs : List (ℕ × ℕ)) : Type 0 where
  pub common : (q : ℕ × ℕ) → In q pairs → (r : List ℕ) × In (r, q.0) places × In (r, q.1) places
  pub known : (e : List ℕ × ℕ) → In e places → (j : ℕ) × (at e.0 ≡ Some j) × In (e.1, j) pairs
  pub placed : (r : List ℕ) (j : ℕ) → at r ≡ Some j → In (r, j) places

pub ties_none : (at : List ℕ → Option ℕ) → ((r : List ℕ) → at r ≡ None) → Ties at [] []
ties_none at f = record {
  common = λ q i. absurd (none q i);
  known = λ e i. absurd (none e i);
  placed = λ r j e. absurd (clash j (sym (f r) ∙ e));
}
  where
    clash : (j : ℕ) → None ≡ Some j → ⊥
    clash j e = cc

pub ties_more : (before after : List ℕ → Option ℕ) (places : List (List ℕ × ℕ)) (pairs : List (ℕ × ℕ)) (r : List ℕ) (i j : ℕ) → Ties before places pairs → after r ≡ Some j
    → ((t : List ℕ) (k : ℕ) → before t ≡ Some k → after t ≡ Some k) → ((t : List ℕ) (k : ℕ) → after t ≡ Some k → (before t ≡ Some k) ⊎ ((t ≡ r) × (k ≡ i)))
    → Ties after (places ++ (r, i) ∷ []) (pairs ++ (i, j) ∷ [])
ties_more before after places pairs r i j ties found kept added = record {
  common = λ q m. elim (in_either q pairs ((i, j) ∷ []) m) [
    | inl n ↦ let t = ties.common q n in (t.0, in_left (t.0, q.0) places ((r, i) ∷ []) t.1, in_left (t.0, q.1) places ((r, i) ∷ []) t.2)
    | inr n ↦ elim (cases n) [
      | inl e ↦ subst (λ (w : ℕ × ℕ). (t : List ℕ) × In (t, w.0) (places ++ (r, i) ∷ []) × In (t, w.1) (places ++ (r, i) ∷ [])) (sym e) (r, last, placed r j found)
      | inr o ↦ absurd (none q o)
    ]
  ];
  known = λ e m. elim (in_either e places ((r, i) ∷ []) m) [
    | inl n ↦ let t = ties.known e n in (t.0, kept e.0 t.0 t.1, in_left (e.1, t.0) pairs ((i, j) ∷ []) t.2)
    | inr n ↦ elim (cases n) [
      | inl f ↦ subst (λ (w : List ℕ × ℕ). (k : ℕ) × (after w.0 ≡ Some k) × In (w.1, k) (pairs ++ (i, j) ∷ [])) (sym f) (j, found, in_right (i, j) pairs ((i, j) ∷ []) first)
      | inr o ↦ absurd (none e o)
    ]
  ];
  placed = placed;
}
  where
    last : In (r, i) (places ++ (r, i) ∷ [])
    last = in_right (r, i) places ((r, i) ∷ []) first

    placed : (t : List ℕ) (k : ℕ) → after t ≡ Some k → In (t, k) (places ++ (r, i) ∷ [])
    placed t k e = elim (added t k e) [
      | inl f ↦ in_left (t, k) places ((r, i) ∷ []) (ties.placed t k f)
      | inr p ↦ subst (λ (x : List ℕ). In (x, k) (places ++ (r, i) ∷ [])) (sym p.0) (subst (λ (m : ℕ). In (r, m) (places ++ (r, i) ∷ [])) (sym p.1) last)
    ]

pub tied : (at : List ℕ → Option ℕ) (places : List (List ℕ × ℕ)) (pairs : List (ℕ × ℕ)) → Ties at places pairs → IsTied places pairs
tied at places pairs ties = record {
  common = ties.common;
  same = λ f h r i j m n.
      let x = ties.known (r, i) m in
      let y = ties.known (r, j) n in
      h (i, x.0) x.2 ∙ ap f (one x.0 y.0 (sym x.1 ∙ y.1)) ∙ sym (h (j, y.0) y.2);
}
  where
    one : (a b : ℕ) → Some a ≡ Some b → a ≡ b
    one a b e = cc

pub ties_step : (before after : List ℕ → Option ℕ) (places : List (List ℕ × ℕ)) (pairs : List (ℕ × ℕ)) (k j : ℕ) (e : List ℕ × ℕ) → k < length places → e ≡ get_or places k e → Ties before (take k places) pairs → after e.0 ≡ Some j
    → ((t : List ℕ) (m : ℕ) → before t ≡ Some m → after t ≡ Some m) → ((t : List ℕ) (m : ℕ) → after t ≡ Some m → (before t ≡ Some m) ⊎ ((t ≡ e.0) × (m ≡ e.1)))
    → Ties after (take (k + 1) places) (pairs ++ (e.1, j) ∷ [])
ties_step before after places pairs k j e h is ties found kept added =
    subst (λ l. Ties after l (pairs ++ (e.1, j) ∷ [])) (sym (take_more places k e h ∙ ap (λ x. take k places ++ x ∷ []) (sym is))) (ties_more before after (take k places) pairs e.0 e.1 j ties found kept added)

pub ties_all : (at : List ℕ → Option ℕ) (places : List (List ℕ × ℕ)) (pairs : List (ℕ × ℕ)) (k : ℕ) → length places ≤ k → Ties at (take k places) pairs → IsTied places pairs
ties_all at places pairs k h ties = tied at places pairs (subst (λ l. Ties at l pairs) (take_all k places h) ties)

-- ---- facets that share a ridge

abbrev pub facet_at : List (List ℕ) → ℕ → List ℕ
facet_at c i = get_or c i []

set_at : (c : List (List ℕ)) (i : ℕ) → list_all is_set c ≡ true → is_set (facet_at c i) ≡ true
set_at [] i h = refl
set_at (s ∷ c) zero h = and_left _ _ h
set_at (s ∷ c) (suc i) h = set_at c i (and_right (is_set s) _ h)

common_within : (s t : List ℕ) → is_within (common s t) (common t s) ≡ true
common_within s t = in_within (common s t) (common t s) (λ x i. let r = from_filter (has t) x s i in in_filter (has s) x t (has_at t x r.1) (has_from s x r.0))

common_length : (s t : List ℕ) → is_set s ≡ true → is_set t ≡ true → length (common s t) ≡ length (common t s)
common_length s t h k =
    let a = within_length (common s t) (common t s) (is_increasing-filter nat_cmp (has t) s h) (is_increasing-filter nat_cmp (has s) t k) (common_within s t) in
    let b = within_length (common t s) (common s t) (is_increasing-filter nat_cmp (has s) t k) (is_increasing-filter nat_cmp (has t) s h) (common_within t s) in
    omega arith

one_place : (c : List (List ℕ)) (i j : ℕ) → is_increasing simplex_cmp c ≡ true → i < length c → j < length c → facet_at c i ≡ facet_at c j → i ≡ j
one_place [] i j u h k e = absurd (omega arith)
one_place (s ∷ c) zero zero u h k e = refl
one_place (s ∷ c) zero (suc j) u h k e = absurd (not_below_itself s (subst (λ x. is_lt (simplex_cmp s x) ≡ true) (sym e) (all_at (λ y. is_lt (simplex_cmp s y)) (facet_at c j) c (and_left _ _ u) (in_place c j [] (omega arith)))))
one_place (s ∷ c) (suc i) zero u h k e = absurd (not_below_itself s (subst (λ x. is_lt (simplex_cmp s x) ≡ true) e (all_at (λ y. is_lt (simplex_cmp s y)) (facet_at c i) c (and_left _ _ u) (in_place c i [] (omega arith)))))
one_place (s ∷ c) (suc i) (suc j) u h k e = ap suc (one_place c i j (and_right (list_all (λ y. is_lt (simplex_cmp s y)) c) _ u) (omega arith) (omega arith) e)

module _ (c : List (List ℕ)) (sets : list_all is_set c ≡ true) (pure : is_pure c ≡ true) (up : is_increasing simplex_cmp c ≡ true) where
  abbrev pub joined : ℕ → ℕ → Bool
  joined i j = share_ridge c (facet_at c i) (facet_at c j)

  long : (i : ℕ) → i < length c → length (facet_at c i) ≡ size c
  long i h = pure_at c (facet_at c i) pure (in_place c i [] h)

  even : (i j : ℕ) → joined i j ≡ joined j i
  even i j = ap (λ n. n + 1 == size c) (common_length (facet_at c i) (facet_at c j) (set_at c i sets) (set_at c j sets))

  shared : (i j a b : ℕ) → i < length c → j < length c → (i ≡ j → ⊥) → In a (facet_at c i) → without (facet_at c i) a ≡ without (facet_at c j) b → joined i j ≡ true
  shared i j a b h k d ia e =
      let s : List ℕ = facet_at c i in
      let t : List ℕ = facet_at c j in
      let ss : is_set s ≡ true = set_at c i sets in
      let both : is_set (common s t) ≡ true = is_increasing-filter nat_cmp (has t) s ss in
      let sub : is_within (without s a) (common s t) ≡ true = in_within (without s a) (common s t) (λ x m. in_filter (has t) x s (from_without s a x m).0 (has_from t x (from_without t b x (subst (λ l. In x l) e m)).0)) in
      let down : is_within (common s t) s ≡ true = in_within (common s t) s (λ x m. (from_filter (has t) x s m).0) in
      let least = within_length (without s a) (common s t) (is_increasing-filter nat_cmp (λ x. not_eq a x) s ss) both sub in
      let most = within_length (common s t) s both ss down in
      let len = length-without a s ss ia in
      let whole : length (common s t) ≡ length s → ⊥ = λ q. d (one_place c i j up h k (same_facet s t ss (set_at c j sets) (long i h ∙ sym (long j k)) (within_same (common s t) s both ss down q))) in
      size_is (length (common s t)) (size c) (by (length (common s t)) (length s) (size c) (omega arith) most whole (long i h))
    where
      not_eq : ℕ → ℕ → Bool
      not_eq a x = not (a == x)

      same_facet : (s t : List ℕ) → is_set s ≡ true → is_set t ≡ true → length s ≡ length t → common s t ≡ s → s ≡ t
      same_facet s t h k l e = within_same s t h k (in_within s t (λ x m. has_at t x (from_filter (has t) x s (subst (λ q. In x q) (sym e) m)).1)) l

      by : (n m z : ℕ) → m ≤ n + 1 → n ≤ m → (n ≡ m → ⊥) → m ≡ z → n + 1 ≡ z
      by n m z p q f e = elim (n == m) as (λ v. (n == m) ≡ v → n + 1 ≡ z) [
        | true ↦ λ g. absurd (f (grind (arith, nat_tests)))
        | false ↦ λ g. let w : n < m = grind (arith, nat_tests) in omega arith
      ] refl

  pub facet_chains : (pairs : List (ℕ × ℕ)) → IsTied (ridge_places 0 c) pairs → HasChains joined pairs (length c)
  facet_chains pairs t = record {
    even = even;
    chained = λ q i.
        let m = t.common q i in
        let x = from_places 0 c m.0 q.0 m.1 in
        let y = from_places 0 c m.0 q.1 m.2 in
        let ex : q.0 ≡ x.place = omega (arith, x.is) in
        let ey : q.1 ≡ y.place = omega (arith, y.is) in
        subst (λ n. Chain joined (range_with_len 0 (length c)) n q.1) (sym ex) (subst (λ n. Chain joined (range_with_len 0 (length c)) x.place n) (sym ey)
        (elim (x.place == y.place) as (λ v. (x.place == y.place) ≡ v → Chain joined (range_with_len 0 (length c)) x.place y.place) [
          | true ↦ λ e. subst (λ n. Chain joined (range_with_len 0 (length c)) x.place n) (equal x.place y.place e) here
          | false ↦ λ e. step (shared x.place y.place x.label y.label x.within y.within (differ x.place y.place e) x.lies (sym x.ridge ∙ y.ridge)) (in_range 0 (length c) y.place (omega arith) (omega (arith, y.within))) here
        ] refl));
    spanned = λ f h i j k l e.
        let s : List ℕ = facet_at c i in
        let u : List ℕ = facet_at c j in
        let r : List ℕ = common s u in
        let n = size_at (length r) (size c) e in
        let set : is_set r ≡ true = is_increasing-filter nat_cmp (has u) s (set_at c i sets) in
        let one = lacking_in s r (set_at c i sets) set (omega (arith, n, long i k)) (in_within r s (λ x m. (from_filter (has u) x s m).0)) in
        let two = lacking_in u r (set_at c j sets) set (omega (arith, n, long j l)) (in_within r u (λ x m. has_at u x (from_filter (has u) x s m).1)) in
        t.same f h r i j (placed i r one.0 k one.1 one.2) (placed j r two.0 l two.1 two.2);
  }
    where
      equal : (a b : ℕ) → (a == b) ≡ true → a ≡ b
      equal a b e = grind (arith, nat_tests)

      differ : (a b : ℕ) → (a == b) ≡ false → a ≡ b → ⊥
      differ a b e f = grind (arith, nat_tests)

      placed : (i : ℕ) (r : List ℕ) (a : ℕ) → i < length c → In a (facet_at c i) → r ≡ without (facet_at c i) a → In (r, i) (ridge_places 0 c)
      placed i r a h m e =
          let z : 0 + i ≡ i = omega arith in
          subst (λ (x : List ℕ). In (x, i) (ridge_places 0 c)) (sym e) (subst (λ (n : ℕ). In (without (facet_at c i) a, n) (ridge_places 0 c)) z (in_places 0 c i a h m))

  pub places_below : (pairs : List (ℕ × ℕ)) → IsTied (ridge_places 0 c) pairs → (q : ℕ × ℕ) → In q pairs → (q.0 < length c) × (q.1 < length c)
  places_below pairs t q i =
      let m = t.common q i in
      let x = from_places 0 c m.0 q.0 m.1 in
      let y = from_places 0 c m.0 q.1 m.2 in
      (omega (arith, x.is, x.within), omega (arith, y.is, y.within))

  pub strong_is : (n : ℕ) → n ≡ length (classes joined (range_with_len 0 (length c))) → nat_le n 1 ≡ is_strong c
  strong_is n e =
      ap (λ k. nat_le k 1) (e ∙ sym (classes_at (facet_at c) (share_ridge c) (range_with_len 0 (length c))) ∙ ap (λ xs. length (classes (share_ridge c) xs)) (listed [] c (facet_at c) 0 (λ k h. let z : 0 + k ≡ k = omega arith in ap (facet_at c) z)))
      ∙ sym (ap (λ b. b && nat_le (length (classes (share_ridge c) c)) 1) pure)

-- ---- what the code's values come to

pub these_tied : (c facets : List (List ℕ)) (places : List (List ℕ × ℕ)) (pairs items : List (ℕ × ℕ)) → facets ≡ c → places ≡ ridge_places 0 facets → pairs ≡ items → IsTied places items → IsTied (ridge_places 0 c) pairs
these_tied c facets places pairs items e f g t = subst (λ l. IsTied l pairs) (f ∙ ap (ridge_places 0) e) (subst (λ p. IsTied places p) (sym g) t)

pub these_below : (c facets : List (List ℕ)) (pairs : List (ℕ × ℕ)) → list_all is_set c ≡ true → is_pure c ≡ true → is_increasing simplex_cmp c ≡ true → facets ≡ c → IsTied (ridge_places 0 c) pairs → (q : ℕ × ℕ) → In q pairs → (q.0 < length facets) × (q.1 < length facets)
these_below c facets pairs h p u e t q i = let w = places_below c h p u pairs t q i in let l = ap length e in (omega (arith, w.0, l), omega (arith, w.1, l))

pub strong_count : (c facets : List (List ℕ)) (pairs : List (ℕ × ℕ)) (n : ℕ) → list_all is_set c ≡ true → is_pure c ≡ true → is_increasing simplex_cmp c ≡ true → facets ≡ c → IsTied (ridge_places 0 c) pairs
    → ((joined : ℕ → ℕ → Bool) → HasChains joined pairs (length facets) → n ≡ length (classes joined (range_with_len 0 (length facets)))) → nat_le n 1 ≡ is_strong c
strong_count c facets pairs n h p u e t f =
    let near : ℕ → ℕ → Bool = λ i j. share_ridge c (facet_at c i) (facet_at c j) in
    strong_is c h p u n (f near (subst (λ m. HasChains near pairs (length m)) (sym e) (facet_chains c h p u pairs t)) ∙ ap (λ m. length (classes near (range_with_len 0 (length m)))) e)
