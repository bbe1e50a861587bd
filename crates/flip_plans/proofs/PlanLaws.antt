-- Lists of changes, as they are worked out set by set, and that they are the plan of a flip.
use Rattle.std.proofs.Common.{◌≡◌, ◌↔◌, ℕ, ◌+◌, ◌-◌, ◌^◌, ◌<◌, ◌≤◌, Bool, true, false, not, cond, ◌&&◌, ◌||◌, List, [], ◌∷◌, ◌++◌, map, length, get_or, Option, Some, None, refl, sym, ap, ◌∙◌, subst, ◌⊎◌, inl, inr, arith}
use mathlib.Core.Bool.{true≢false}
use Rattle.std.specs.Prelude.{◌==◌, IsSome, is_some}
use Rattle.std.specs.Ordering.{nat_cmp}
use Rattle.std.specs.List.{list_all}
use Rattle.std.proofs.lemmas.Bool.Decides.{nat_tests}
use Rattle.simplex.specs.declared.flip.Flip.{Flip}
use Rattle.simplex.specs.Flip.{inverse}
use Rattle.simplex.specs.InOrder.{is_increasing}
use Rattle.simplex.specs.Simplex.{is_same, is_simplex, is_within, subset_at, union}
use Rattle.simplex.proofs.Decided.{equal_at, equal_from, false_from, false_at, not_true, or_left, or_right}
use Rattle.simplex.proofs.Filled.{rising_of}
use Rattle.simplex.proofs.InOrderLaws.{and_left, and_right, and_both}
use Rattle.simplex.proofs.Members.{In, first, later, none, in_filter, from_filter, in_left, in_right, in_either, in_map, from_map}
use Rattle.simplex.proofs.SimplexLaws.{in_within, in_union, from_union, is_increasing-union}
use Rattle.simplex.proofs.SubsetLaws.{full_subset, number_of, one_number, subset_in}
use Rattle.facet_set.specs.ClassLaws.{IsOnce}
use Rattle.facet_set.specs.Complex.{is_complex, is_face, faces}
use Rattle.facet_set.specs.Flips.{flip, link_vertices}
use Rattle.facet_set.specs.Numbers.{degree, faces_of_size, is_pure, size}
use Rattle.facet_set.specs.Star.{lies_in_join}
use Rattle.facet_set.proofs.ComplexLaws.{from_faces, in_faces, same_from, same_itself, sets_of}
use Rattle.facet_set.proofs.FaceLaws.{face_simplex}
use Rattle.facet_set.proofs.FaceTables.{none_with}
use Rattle.facet_set.proofs.FlipLaws.{parts_of, length-union}
use Rattle.flip_plans.specs.declared.plan.Asking.{Asking}
use Rattle.flip_plans.specs.declared.plan.SetChange.{SetChange}
use Rattle.flip_plans.specs.Askers.{asks, asks_for, has_option, option_faces}
use Rattle.flip_plans.specs.Laws.{OptionFaces, asks_above}
use Rattle.flip_plans.specs.Plans.{BeginsToAsk, GetsOption, IsPlanOf}
use Rattle.flip_plans.specs.Steps.{IsChangeBy, IsFarChange}
use Rattle.flip_plans.specs.Turns.{IsAllowed}
use Rattle.flip_plans.proofs.AskerLaws.{asks_at, asks_stay, not_both, options_by_faces_lem, options_come_lem, options_go_lem, up_stays}
use Rattle.flip_plans.proofs.TurnLaws.{back_allowed, from_join, in_join, link_rising, sizes_stay_lem}

-- ---- lists that are filled step by step
module _ {X K : Type 0} (key : X → K) where
  pub once_both : (xs ys : List X) → IsOnce K (map key xs) → IsOnce K (map key ys) → ((x y : X) → In x xs → In y ys → key x ≡ key y → ⊥) → IsOnce K (map key (xs ++ ys))
  once_both [] ys h k f = k
  once_both (x ∷ xs) ys h k f = (
    λ i. let r = from_map key (key x) (xs ++ ys) i in elim (in_either r.0 xs ys r.1) [
      | inl j ↦ h.0 (subst (λ z. In z (map key xs)) (sym r.2) (in_map key r.0 xs j))
      | inr j ↦ f x r.0 first j r.2
    ],
    once_both xs ys h.1 k (λ y z i j e. f y z (later i) j e),
  )

  -- a list has just what the steps below k bring, nothing with the same key twice
  pub record Gathered (P : ℕ → X → Type 0) (k : ℕ) (xs : List X) : Type 0 where
    pub members : (x : X) → In x xs ↔ ((j : ℕ) × (j < k) × P j x)
    pub once : IsOnce K (map key xs)

  pub gathered_none : (P : ℕ → X → Type 0) (xs : List X) → xs ≡ [] → Gathered P 0 xs
  gathered_none P xs e = record {
    members = λ x. (λ i. absurd (none x (subst (λ l. In x l) e i)), λ r. absurd (below r.0 r.1));
    once = subst (λ l. IsOnce K (map key l)) (sym e) tt;
  }
    where
      below : (j : ℕ) → j < 0 → ⊥
      below j h = omega arith

  pub gathered_more : (P : ℕ → X → Type 0) (k : ℕ) (xs more new : List X) → Gathered P k xs → new ≡ xs ++ more → ((x : X) → In x more ↔ P k x) → IsOnce K (map key more)
      → ((j : ℕ) (x y : X) → j < k → P j x → P k y → key x ≡ key y → ⊥) → Gathered P (k + 1) new
  gathered_more P k xs more new g e here once apart = record {
    members = λ x. (
      λ i. elim (in_either x xs more (subst (λ l. In x l) e i)) [
        | inl j ↦ let r = (g.members x).0 j in (r.0, wider r.0 r.1, r.2)
        | inr j ↦ (k, omega arith, (here x).0 j)
      ],
      λ r. subst (λ l. In x l) (sym e) (elim (last r.0 r.1) [
        | inl l ↦ in_left x xs more ((g.members x).1 (r.0, l, r.2))
        | inr f ↦ in_right x xs more ((here x).1 (subst (λ j. P j x) f r.2))
      ]),
    );
    once = subst (λ l. IsOnce K (map key l)) (sym e) (once_both xs more g.once once (λ x y i j f. let r = (g.members x).0 i in apart r.0 x y r.1 r.2 ((here y).0 j) f));
  }
    where
      wider : (j : ℕ) → j < k → j < k + 1
      wider j h = omega arith

      last : (j : ℕ) → j < k + 1 → (j < k) ⊎ (j ≡ k)
      last j h = elim (j == k) as (λ v. (j == k) ≡ v → (j < k) ⊎ (j ≡ k)) [
        | true ↦ λ f. inr (equal_at j k f)
        | false ↦ λ f. inl (less j h f)
      ] refl
        where
          less : (j : ℕ) → j < k + 1 → (j == k) ≡ false → j < k
          less j h f = grind (arith, nat_tests)

-- ---- options, face by face
no_degree : (c : List (List ℕ)) (a : List ℕ) → is_face c a ≡ false → degree c a ≡ 0
no_degree c a f = ap length (none_with c a f)

-- what asks is a face
pub asks_face : (c : List (List ℕ)) (a : List ℕ) → asks c a ≡ true → is_face c a ≡ true
asks_face c a h =
    elim (is_face c a) as (λ v. is_face c a ≡ v → v ≡ true) [
      | true ↦ λ f. refl
      | false ↦ λ f. (let q = asks_at c a h in let z = no_degree c a f in let few = q.few in let count = q.count in absurd (omega arith))
    ] refl

module _ (c : List (List ℕ)) (simple : list_all is_simplex c ≡ true) (cx : is_complex c ≡ true) where
  from_option : (i : ℕ) (a : List ℕ) → 0 < i → In a (option_faces c i) → (is_simplex a ≡ true) × (has_option c a ≡ true) × (length a ≡ size c - i)
  from_option i a above j =
      let r = from_filter (has_option c) a (faces_of_size c (size c - i)) (subst (λ l. In a l) (options_by_faces_lem c i simple cx above) j) in
      let q = from_filter (λ s. length s == size c - i) a (faces c) r.0 in
      let f = from_faces c a (sets_of c simple) q.0 in
      (face_simplex c a simple f.0 f.1, r.1, equal_at (length a) (size c - i) q.1)

  in_option : (i : ℕ) (a : List ℕ) → 0 < i → is_simplex a ≡ true → has_option c a ≡ true → length a ≡ size c - i → In a (option_faces c i)
  in_option i a above sa o n =
      subst (λ l. In a l) (sym (options_by_faces_lem c i simple cx above))
      (in_filter (has_option c) a (faces_of_size c (size c - i))
      (in_filter (λ s. length s == size c - i) a (faces c) (in_faces c a (sets_of c simple) (rising_of a sa) (asks_face c a (and_left (asks c a) _ o))) (equal_from (length a) (size c - i) n)) o)

pub option_faces_lem : OptionFaces
option_faces_lem c i a simple cx above = (
  λ j. (let r = from_option c simple cx i a above j in (r.0, r.1, count (and_left (asks c a) _ r.1) r.2)),
  λ r. in_option c simple cx i a above r.0 r.1 (let e = r.2 in omega arith),
)
  where
    count : asks c a ≡ true → length a ≡ size c - i → length a + i ≡ size c
    count h e = let q = asks_at c a h in let some = q.some in omega arith

-- from one complex to another of the same size
module _ (c d : List (List ℕ)) (simple : list_all is_simplex c ≡ true) (cx : is_complex c ≡ true) (simple_next : list_all is_simplex d ≡ true) (cx_next : is_complex d ≡ true) (same : size d ≡ size c) where
  pub gets_option : (a : List ℕ) → is_simplex a ≡ true → has_option d a ≡ true → has_option c a ≡ false → GetsOption c d (size c - length a) a
  gets_option a sa o none =
      let q = asks_at d a (and_left (asks d a) _ o) in
      let some = q.some in
      let few = q.few in
      let above : 0 < size c - length a = omega (arith, few, same) in
      record {
        above = above;
        below = omega (arith, some, few, same);
        has = in_option d simple_next cx_next (size c - length a) a above sa o (omega (arith, few, same));
        had = λ i. false_at (has_option c a) none (from_option c simple cx (size c - length a) a above i).1;
      }

  pub record Gains (i : ℕ) (a : List ℕ) : Type 0 where
    pub simplex : is_simplex a ≡ true
    pub has : has_option d a ≡ true
    pub had : has_option c a ≡ false
    pub class : i ≡ size c - length a
    pub some : 0 < length a
    pub few : length a < size c

  pub gains : (i : ℕ) (a : List ℕ) → GetsOption c d i a → Gains i a
  gains i a g =
      let above = g.above in
      let below = g.below in
      let r = from_option d simple_next cx_next i a above g.has in
      let len = r.2 in
      record {
        simplex = r.0;
        has = r.1;
        had = false_from (has_option c a) (λ o. g.had (in_option c simple cx i a above r.0 o (omega (arith, len, same))));
        class = omega (arith, len, same, below);
        some = omega (arith, len, same, below);
        few = omega (arith, len, same, above, below);
      }

-- ---- the sets of the join by their numbers
pub record Noted (m : Flip) (id_of : List ℕ → Option ℕ) (labels : List ℕ) (ids : List (Option ℕ)) : Type 0 where
  pub whole : labels ≡ union m.a m.b
  pub at : (k : ℕ) → k < 2 ^ length labels → get_or ids k None ≡ cond (is_simplex (subset_at labels k)) (id_of (subset_at labels k)) None
  pub known : (k : ℕ) → k + 1 < 2 ^ length labels → IsSome (get_or ids k None)

if_some : {X : Type 0} (v : Bool) (o : Option X) (x : X) → cond v o None ≡ Some x → (v ≡ true) × (o ≡ Some x)
if_some true o x e = (refl, e)
if_some false o x e = absurd (true≢false (sym (ap is_some e)))

if_is_some : {X : Type 0} (v : Bool) (o : Option X) → IsSome (cond v o None) → v ≡ true
if_is_some true o h = refl
if_is_some false o h = absurd (true≢false (sym h))

-- what the set with the number gives up, and what it brings
abbrev pub IsGivenUpBy : List ℕ → List (Option ℕ) → List (List ℕ) → List (List ℕ) → ℕ → Asking → Type 0
IsGivenUpBy labels ids from to k x = (get_or ids k None ≡ Some x.asker) × (asks_for from (subset_at labels k) x.set ≡ true) × (asks_for to (subset_at labels k) x.set ≡ false)

abbrev pub IsBroughtBy : List ℕ → List (Option ℕ) → List (List ℕ) → Flip → ℕ → SetChange → Type 0
IsBroughtBy labels ids c m k x = IsSome (get_or ids k None) × IsChangeBy c m (subset_at labels k) x

module _ (c : List (List ℕ)) (m : Flip) (h : IsAllowed c m) (id_of : List ℕ → Option ℕ) (labels : List ℕ) (ids : List (Option ℕ)) (n : Noted m id_of labels ids) where
  abbrev d : List (List ℕ)
  d = flip c m.a m.b

  abbrev set_at : ℕ → List ℕ
  set_at k = subset_at labels k

  labels_rise : is_increasing nat_cmp labels ≡ true
  labels_rise = ap (is_increasing nat_cmp) n.whole ∙ is_increasing-union m.a m.b

  labels_count : length labels ≡ size c + 1
  labels_count =
      let p = parts_of c m.a m.b h.parts in
      ap length n.whole ∙ length-union m.a m.b (rising_of m.a h.out) (rising_of m.b h.into) p.apart ∙ p.sizes.2

  pub set_in_join : (k : ℕ) → lies_in_join m.a m.b (set_at k) ≡ true
  set_in_join k = in_join m.a m.b (set_at k) (λ x i. from_union m.a m.b x (subst (λ l. In x l) n.whole (subset_in labels k x i)))

  -- each set of the join has a number, and but for the whole join an id
  number : (s : List ℕ) → is_increasing nat_cmp s ≡ true → lies_in_join m.a m.b s ≡ true → (k : ℕ) × (k < 2 ^ length labels) × (set_at k ≡ s)
  number s up inside =
      number_of labels s labels_rise up (in_within s labels (λ x i. subst (λ l. In x l) (sym n.whole) (in_union m.a m.b x (from_join m.a m.b s x inside i))))

  not_last : (k : ℕ) → k < 2 ^ length labels → length (set_at k) < length labels → k + 1 < 2 ^ length labels
  not_last k below short =
      elim (k + 1 == 2 ^ length labels) as (λ v. (k + 1 == 2 ^ length labels) ≡ v → k + 1 < 2 ^ length labels) [
        | true ↦ λ e. let f = ap length (full_subset labels k (equal_at (k + 1) (2 ^ length labels) e)) in absurd (omega (arith, f, short))
        | false ↦ λ e. less (2 ^ length labels) below e
      ] refl
    where
      less : (l : ℕ) → k < l → (k + 1 == l) ≡ false → k + 1 < l
      less l h f = grind (arith, nat_tests)

  pub simplex_at : (k : ℕ) → k < 2 ^ length labels → IsSome (get_or ids k None) → is_simplex (set_at k) ≡ true
  simplex_at k below some = if_is_some (is_simplex (set_at k)) (id_of (set_at k)) (subst (λ o. IsSome o) (n.at k below) some)

  pub id_at : (k i : ℕ) → k < 2 ^ length labels → get_or ids k None ≡ Some i → (is_simplex (set_at k) ≡ true) × (id_of (set_at k) ≡ Some i)
  id_at k i below e = if_some (is_simplex (set_at k)) (id_of (set_at k)) i (sym (n.at k below) ∙ e)

  pub apart_at : (j k : ℕ) → j < k → k < 2 ^ length labels → set_at j ≡ set_at k → ⊥
  apart_at j k less below e = let f = one_number labels j k labels_rise (omega arith) below e in omega arith

  -- ---- who asks
  module _ (from to : List (List ℕ)) where
    abbrev pub IsGivenUp : ℕ → Asking → Type 0
    IsGivenUp k x = (get_or ids k None ≡ Some x.asker) × (asks_for from (set_at k) x.set ≡ true) × (asks_for to (set_at k) x.set ≡ false)

    given_up_are : ((a b : List ℕ) → lies_in_join m.a m.b a ≡ false → asks_for to a b ≡ asks_for from a b) → (xs : List Asking) → Gathered (λ (x : Asking). x.asker) IsGivenUp (2 ^ length labels) xs
        → (i : ℕ) (b : List ℕ) → In (record { asker = i; set = b }) xs ↔ BeginsToAsk to from id_of i b
    given_up_are stays xs g i b = (
      λ j. (let r = (g.members (record { asker = i; set = b })).0 j in let e = id_at r.0 i r.1 r.2.0 in (set_at r.0, e.0, e.1, r.2.1, r.2.2)),
      λ r. elim (lies_in_join m.a m.b r.0) as (λ v. lies_in_join m.a m.b r.0 ≡ v → In (record { asker = i; set = b }) xs) [
        | false ↦ λ out. absurd (false_at (asks_for to r.0 b) r.4 (stays r.0 b out ∙ r.3))
        | true ↦ λ inside.
            let k = number r.0 (rising_of r.0 r.1) inside in
            let e = sym k.2 in
            (g.members (record { asker = i; set = b })).1 (
              k.0,
              k.1,
              (
                n.at k.0 k.1 ∙ ap (λ s. cond (is_simplex s) (id_of s) None) k.2 ∙ ap (λ v. cond v (id_of r.0) None) r.1 ∙ r.2,
                subst (λ s. asks_for from s b ≡ true) e r.3,
                subst (λ s. asks_for to s b ≡ false) e r.4,
              ),
            )
      ] refl,
    )

  asks_same : (a b : List ℕ) → lies_in_join m.a m.b a ≡ false → asks_for d a b ≡ asks_for c a b
  asks_same a b out = λ i. asks_stay c m a h out i && is_same (up_stays c m a h out i) b

  pub go_are : (xs : List Asking) → Gathered (λ (x : Asking). x.asker) (IsGivenUp c d) (2 ^ length labels) xs → (i : ℕ) (b : List ℕ) → In (record { asker = i; set = b }) xs ↔ BeginsToAsk d c id_of i b
  go_are = given_up_are c d asks_same

  pub come_are : (xs : List Asking) → Gathered (λ (x : Asking). x.asker) (IsGivenUp d c) (2 ^ length labels) xs → (i : ℕ) (b : List ℕ) → In (record { asker = i; set = b }) xs ↔ BeginsToAsk c d id_of i b
  come_are = given_up_are d c (λ a b out. sym (asks_same a b out))

  -- ---- which options come and go
  abbrev pub IsBrought : ℕ → SetChange → Type 0
  IsBrought k x = IsSome (get_or ids k None) × IsChangeBy c m (set_at k) x

  -- two sets bring no change at the same face
  set_of : (s : List ℕ) (x : SetChange) → IsFarChange c m s x → link_vertices c x.face ≡ s
  set_of s x f = same_from (link_vertices c x.face) s (and_right (asks c x.face) (is_same (link_vertices c x.face) s) f.asks)

  pub brought_apart : (j k : ℕ) → j < k → k < 2 ^ length labels → (x y : SetChange) → IsChangeBy c m (set_at j) x → IsChangeBy c m (set_at k) y → x.face ≡ y.face → ⊥
  brought_apart j k less below x y p q e = elim p [
    | inl p ↦ elim q [
      | inl q ↦ apart_at j k less below (sym p.face ∙ e ∙ q.face)
      | inr q ↦ false_at (lies_in_join m.a m.b y.face) q.outside (ap (lies_in_join m.a m.b) (sym e ∙ p.face) ∙ set_in_join j)
    ]
    | inr p ↦ elim q [
      | inl q ↦ false_at (lies_in_join m.a m.b x.face) p.outside (ap (lies_in_join m.a m.b) (e ∙ q.face) ∙ set_in_join k)
      | inr q ↦ apart_at j k less below (sym (set_of (set_at j) x p) ∙ ap (link_vertices c) e ∙ set_of (set_at k) y q)
    ]
  ]

  z : (is_pure d ≡ true) × (size d ≡ size c)
  z = let r = sizes_stay_lem c m h in (r.pure, r.size)

  next : IsAllowed d (inverse m)
  next = back_allowed c m h.simplices h.complex h.out h.into h.parts

  face_len : (k : ℕ) → k < 2 ^ length labels → length (set_at k) ≤ size c → IsSome (get_or ids k None)
  face_len k below few = n.known k (not_last k below (let e = labels_count in omega (arith, e, few)))

  -- the set that a face outside asks for has a number and an id
  far : (a : List ℕ) → asks c a ≡ true → lies_in_join m.a m.b (link_vertices c a) ≡ true → (k : ℕ) × (k < 2 ^ length labels) × (set_at k ≡ link_vertices c a) × IsSome (get_or ids k None)
  far a ask inside =
      let k = number (link_vertices c a) (link_rising c a) inside in
      let q = asks_at c a ask in
      let some = q.some in
      let sum = q.sum in
      let len = ap length k.2 in
      (k.0, k.1, k.2, face_len k.0 k.1 (omega (arith, some, sum, len)))

  module _ (xs : List SetChange) (g : Gathered (λ (x : SetChange). x.face) IsBrought (2 ^ length labels) xs) where
    gained : (i : ℕ) (a : List ℕ) → In (record { class = i; face = a; comes = true }) xs ↔ GetsOption c d i a
    gained i a = (there, back)
      where
        there : In (record { class = i; face = a; comes = true }) xs → GetsOption c d i a
        there j =
            let r = (g.members (record { class = i; face = a; comes = true })).0 j in
            elim r.2.1 [
              | inl p ↦ subst (λ k. GetsOption c d k a) (ap (λ s. size c - length s) p.face ∙ sym p.class)
                  (gets_option c d h.simplices h.complex next.simplices next.complex z.1 a (ap is_simplex p.face ∙ simplex_at r.0 r.1 r.2.0) (ap (has_option d) p.face ∙ p.has) (ap (has_option c) p.face ∙ p.had))
              | inr p ↦
                  let e = set_of (set_at r.0) (record { class = i; face = a; comes = true }) p in
                  let came = options_come_lem c m a h p.outside
                  ∙ and_both _ _ (and_left (asks c a) _ p.asks) (and_both _ _ (ap (lies_in_join m.a m.b) e ∙ set_in_join r.0) (ap (is_within m.a) e ∙ sym p.comes)) in
                  subst (λ k. GetsOption c d k a) (sym p.class)
                  (gets_option c d h.simplices h.complex next.simplices next.complex z.1 a p.simplex (and_left (has_option d a) _ came) (not_true (has_option c a) (and_right (has_option d a) _ came)))
            ]

        back : GetsOption c d i a → In (record { class = i; face = a; comes = true }) xs
        back q =
            let r = gains c d h.simplices h.complex next.simplices next.complex z.1 i a q in
            elim (lies_in_join m.a m.b a) as (λ v. lies_in_join m.a m.b a ≡ v → In (record { class = i; face = a; comes = true }) xs) [
              | true ↦ λ inside.
                  let k = number a (rising_of a r.simplex) inside in
                  let few = r.few in
                  let len = ap length k.2 in
                  (g.members (record { class = i; face = a; comes = true })).1 (
                    k.0,
                    k.1,
                    (
                      face_len k.0 k.1 (omega (arith, few, len)),
                      inl (record {
                        face = sym k.2;
                        class = r.class ∙ ap (λ s. size c - length s) (sym k.2);
                        had = ap (has_option c) k.2 ∙ r.had;
                        has = ap (has_option d) k.2 ∙ r.has;
                      }),
                    ),
                  )
              | false ↦ λ out.
                  let came : asks_above c m m.a a ≡ true = sym (options_come_lem c m a h out) ∙ and_both _ _ r.has (ap not r.had) in
                  let ask = and_left (asks c a) _ came in
                  let rest = and_right (asks c a) _ came in
                  let inside = and_left (lies_in_join m.a m.b (link_vertices c a)) _ rest in
                  let within = and_right (lies_in_join m.a m.b (link_vertices c a)) _ rest in
                  let k = far a ask inside in
                  let w : is_within m.a (set_at k.0) ≡ true = ap (is_within m.a) k.2 ∙ within in
                  (g.members (record { class = i; face = a; comes = true })).1 (
                    k.0,
                    k.1,
                    (
                      k.3,
                      inr (record {
                        simplex = r.simplex;
                        outside = out;
                        asks = and_both _ _ ask (ap (is_same (link_vertices c a)) k.2 ∙ same_itself (link_vertices c a));
                        class = r.class;
                        comes = sym w;
                        above = or_left (is_within m.a (set_at k.0)) _ w;
                      }),
                    ),
                  )
            ] refl

    lost : (i : ℕ) (a : List ℕ) → In (record { class = i; face = a; comes = false }) xs ↔ GetsOption d c i a
    lost i a = (there, back)
      where
        there : In (record { class = i; face = a; comes = false }) xs → GetsOption d c i a
        there j =
            let r = (g.members (record { class = i; face = a; comes = false })).0 j in
            elim r.2.1 [
              | inl p ↦ subst (λ k. GetsOption d c k a) (ap (λ l. l - length a) z.1 ∙ ap (λ s. size c - length s) p.face ∙ sym p.class)
                  (gets_option d c next.simplices next.complex h.simplices h.complex (sym z.1) a (ap is_simplex p.face ∙ simplex_at r.0 r.1 r.2.0) (ap (has_option c) p.face ∙ p.had) (ap (has_option d) p.face ∙ p.has))
              | inr p ↦
                  let e = set_of (set_at r.0) (record { class = i; face = a; comes = false }) p in
                  let within_b : is_within m.b (set_at r.0) ≡ true = other (is_within m.a (set_at r.0)) (is_within m.b (set_at r.0)) (sym p.comes) p.above in
                  let went = options_go_lem c m a h p.outside
                  ∙ and_both _ _ (and_left (asks c a) _ p.asks) (and_both _ _ (ap (lies_in_join m.a m.b) e ∙ set_in_join r.0) (ap (is_within m.b) e ∙ within_b)) in
                  subst (λ k. GetsOption d c k a) (ap (λ l. l - length a) z.1 ∙ sym p.class)
                  (gets_option d c next.simplices next.complex h.simplices h.complex (sym z.1) a p.simplex (and_left (has_option c a) _ went) (not_true (has_option d a) (and_right (has_option c a) _ went)))
            ]
          where
            other : (v w : Bool) → v ≡ false → (v || w) ≡ true → w ≡ true
            other true w e k = absurd (true≢false e)
            other false w e k = k

        back : GetsOption d c i a → In (record { class = i; face = a; comes = false }) xs
        back q =
            let r = gains d c next.simplices next.complex h.simplices h.complex (sym z.1) i a q in
            let class : i ≡ size c - length a = r.class ∙ ap (λ l. l - length a) z.1 in
            elim (lies_in_join m.a m.b a) as (λ v. lies_in_join m.a m.b a ≡ v → In (record { class = i; face = a; comes = false }) xs) [
              | true ↦ λ inside.
                  let k = number a (rising_of a r.simplex) inside in
                  let few = r.few in
                  let len = ap length k.2 in
                  let same = z.1 in
                  (g.members (record { class = i; face = a; comes = false })).1 (
                    k.0,
                    k.1,
                    (
                      face_len k.0 k.1 (omega (arith, few, len, same)),
                      inl (record {
                        face = sym k.2;
                        class = class ∙ ap (λ s. size c - length s) (sym k.2);
                        had = ap (has_option c) k.2 ∙ r.has;
                        has = ap (has_option d) k.2 ∙ r.had;
                      }),
                    ),
                  )
              | false ↦ λ out.
                  let went : asks_above c m m.b a ≡ true = sym (options_go_lem c m a h out) ∙ and_both _ _ r.has (ap not r.had) in
                  let ask = and_left (asks c a) _ went in
                  let rest = and_right (asks c a) _ went in
                  let inside = and_left (lies_in_join m.a m.b (link_vertices c a)) _ rest in
                  let within = and_right (lies_in_join m.a m.b (link_vertices c a)) _ rest in
                  let k = far a ask inside in
                  let w : is_within m.b (set_at k.0) ≡ true = ap (is_within m.b) k.2 ∙ within in
                  (g.members (record { class = i; face = a; comes = false })).1 (
                    k.0,
                    k.1,
                    (
                      k.3,
                      inr (record {
                        simplex = r.simplex;
                        outside = out;
                        asks = and_both _ _ ask (ap (is_same (link_vertices c a)) k.2 ∙ same_itself (link_vertices c a));
                        class = class;
                        comes = sym (false_from (is_within m.a (set_at k.0)) (λ v. not_both c m a h out ask (sym (ap (is_within m.a) k.2) ∙ v) within));
                        above = or_right (is_within m.a (set_at k.0)) _ w;
                      }),
                    ),
                  )
            ] refl

  -- all steps together are the plan
  pub plan_is : (go come : List Asking) (changes : List SetChange) → Gathered (λ (x : Asking). x.asker) (IsGivenUp c d) (2 ^ length labels) go
      → Gathered (λ (x : Asking). x.asker) (IsGivenUp d c) (2 ^ length labels) come → Gathered (λ (x : SetChange). x.face) IsBrought (2 ^ length labels) changes → IsPlanOf c m id_of go come changes
  plan_is go come changes p q r = record {
    go = go_are go p;
    come = come_are come q;
    go_once = p.once;
    come_once = q.once;
    gained = gained changes r;
    lost = lost changes r;
    once = r.once;
  }
