-- What is added to a plan at one set of the join.
use Rattle.std.proofs.Common.{◌≡◌, ◌↔◌, ℕ, zero, suc, ◌+◌, ◌-◌, ◌^◌, ◌<◌, ◌≤◌, Bool, true, false, not, cond, ltb, ◌&&◌, ◌||◌, List, [], ◌∷◌, ◌++◌, map, length, get_or, Option, Some, None, refl, sym, ap, ◌∙◌, subst, inl, inr, arith, append-nil, append_assoc}
use mathlib.Core.Bool.{true≢false}
use Rattle.std.specs.Prelude.{◌==◌, IsSome, is_some, nat_eq, unwrap_or}
use Rattle.std.specs.Cmp.{unsigned_Decides}
use Rattle.std.specs.Cmp.Lexicographic.{pointwise, pointwise_decides}
use Rattle.std.specs.Ordering.{nat_cmp}
use Rattle.std.specs.List.{list_all}
use Rattle.simplex.specs.declared.flip.Flip.{Flip}
use Rattle.simplex.specs.InOrder.{is_increasing}
use Rattle.simplex.specs.Simplex.{has, is_label, is_same, is_simplex, is_within, minus, subset_at, union}
use Rattle.simplex.proofs.Decided.{agree, false_at}
use Rattle.simplex.proofs.Filled.{labels_of, rising_of}
use Rattle.simplex.proofs.InOrderLaws.{and_left, and_right, and_both}
use Rattle.simplex.proofs.Members.{In, first, later, cases, none, all_at, all_from, in_left, in_right, in_either}
use Rattle.simplex.proofs.SimplexLaws.{from_union, is_increasing-union, list_all-filter}
use Rattle.facet_set.specs.ClassLaws.{IsOnce}
use Rattle.facet_set.specs.Complex.{is_face, facets_with, verts}
use Rattle.facet_set.specs.Flips.{flip, link_vertices}
use Rattle.facet_set.specs.Numbers.{degree, is_pure, size}
use Rattle.facet_set.specs.Star.{lies_in_join}
use Rattle.facet_set.proofs.ComplexLaws.{same_from, same_itself}
use Rattle.facet_set.proofs.FlipLaws.{length-union, parts_of, small}
use Rattle.facet_set.proofs.VertexLaws.{verts_labels}
use Rattle.flip_plans.specs.declared.plan.Asking.{Asking}
use Rattle.flip_plans.specs.declared.plan.SetChange.{SetChange}
use Rattle.flip_plans.specs.Askers.{asks, asks_for, has_option, wanted}
use Rattle.flip_plans.specs.Plans.{AreAskers}
use Rattle.flip_plans.specs.Steps.{AreLabels, HasMore, far_change, IsChangeBy, IsFarChange, IsNearChange, given_up, is_face_beside, is_open, is_that, near_change, wanted_by}
use Rattle.flip_plans.specs.Turns.{IsAllowed, turned}
use Rattle.flip_plans.proofs.PlanLaws.{Gathered, IsBroughtBy, IsGivenUpBy, Noted, apart_at, asks_face, brought_apart, gathered_more, gathered_none, id_at, once_both}
use Rattle.flip_plans.proofs.TurnLaws.{degrees_turn_lem, faces_in_join_lem, link_rising, links_turn_lem, outside_stays_lem, sizes_stay_lem}

-- ---- labels
pub link_labels : (c : List (List ℕ)) (s : List ℕ) → list_all is_simplex c ≡ true → AreLabels (link_vertices c s)
link_labels c s simple = record {
  all = list_all-filter is_label (λ x. not (has s x)) (verts (facets_with c s)) (verts_labels (facets_with c s) (list_all-filter is_simplex (is_within s) c simple));
  rising = link_rising c s;
}

module _ (c : List (List ℕ)) (m : Flip) (h : IsAllowed c m) (labels : List ℕ) (whole : labels ≡ union m.a m.b) where
  pub count_is : length labels ≡ size c + 1
  count_is =
      let p = parts_of c m.a m.b h.parts in
      ap length whole ∙ length-union m.a m.b (rising_of m.a h.out) (rising_of m.b h.into) p.apart ∙ p.sizes.2

  pub few : size c ≤ 12
  few = small c m.a m.b h.simplices h.complex h.out h.into (parts_of c m.a m.b h.parts)

  pub join_labels : AreLabels labels
  join_labels = record {
    all = ap (list_all is_label) whole ∙ all_from is_label (union m.a m.b) (λ x i. elim (from_union m.a m.b x i) [
      | inl j ↦ all_at is_label x m.a (labels_of m.a h.out) j
      | inr j ↦ all_at is_label x m.b (labels_of m.b h.into) j
    ]);
    rising = ap (is_increasing nat_cmp) whole ∙ is_increasing-union m.a m.b;
  }

  module _ (s : List ℕ) (inside : lies_in_join m.a m.b s ≡ true) where
    abbrev d : List (List ℕ)
    d = flip c m.a m.b

    -- what is wanted, by the numbers
    pub before_is : wanted_by (length labels - 1) s (link_vertices c s) (degree c s) ≡ wanted c s
    before_is =
        let p = parts_of c m.a m.b h.parts in
        let n : length labels - 1 ≡ size c = let q = count_is in omega arith in
        ap (λ k. wanted_by k s (link_vertices c s) (degree c s)) n ∙ with_pure (is_pure c) p.pure
      where
        with_pure : (v : Bool) → v ≡ true → wanted_by (size c) s (link_vertices c s) (degree c s)
            ≡ cond (v && (ltb 0 (length s) && ltb (length s) (size c)) && (length s + length (link_vertices c s) == size c + 1) && (length s + degree c s == size c + 1)) (Some (link_vertices c s)) None
        with_pure true e = refl
        with_pure false e = absurd (true≢false (sym e))

    pub after_is : wanted_by (length labels - 1) s (turned m s (link_vertices c s)) (degree c s + length (minus m.a s) - length (minus m.b s)) ≡ wanted d s
    after_is =
        let z = sizes_stay_lem c m h in
        let n : length labels - 1 ≡ size d = let q = count_is in let e = z.size in omega arith in
        let up = sym (links_turn_lem c m s h inside) in
        let count : degree c s + length (minus m.a s) - length (minus m.b s) ≡ degree d s = let e = degrees_turn_lem c m s h inside in omega arith in
        (λ i. wanted_by (n i) s (up i) (count i)) ∙ with_pure (is_pure d) z.pure
      where
        with_pure : (v : Bool) → v ≡ true → wanted_by (size d) s (link_vertices d s) (degree d s)
            ≡ cond (v && (ltb 0 (length s) && ltb (length s) (size d)) && (length s + length (link_vertices d s) == size d + 1) && (length s + degree d s == size d + 1)) (Some (link_vertices d s)) None
        with_pure true e = refl
        with_pure false e = absurd (true≢false (sym e))

    pub before_found : (r : Option (List ℕ)) (up : List ℕ) (k : ℕ) → up ≡ link_vertices c s → k ≡ degree c s → r ≡ wanted_by (length labels - 1) s up k → r ≡ wanted c s
    before_found r up k e f g = g ∙ (λ i. wanted_by (length labels - 1) s (e i) (f i)) ∙ before_is

    pub after_found : (r : Option (List ℕ)) (up : List ℕ) (k : ℕ) → up ≡ link_vertices c s → k ≡ degree c s → r ≡ wanted_by (length labels - 1) s (turned m s up) (k + length (minus m.a s) - length (minus m.b s)) → r ≡ wanted d s
    after_found r up k e f g = g ∙ (λ i. wanted_by (length labels - 1) s (turned m s (e i)) (f i + length (minus m.a s) - length (minus m.b s))) ∙ after_is

  -- whether there is an option, by what is wanted
  pub had_is : (s : List ℕ) → is_open (wanted c s) (is_face_beside c m m.b) ≡ has_option c s
  had_is s = by (asks c s) ∙ ap (λ f. asks c s && not f) (face_before (link_vertices c s))
    where
      by : (v : Bool) → is_open (cond v (Some (link_vertices c s)) None) (is_face_beside c m m.b) ≡ (v && not (is_face_beside c m m.b (link_vertices c s)))
      by true = refl
      by false = refl

      face_before : (b : List ℕ) → is_face_beside c m m.b b ≡ is_face c b
      face_before b = elim (lies_in_join m.a m.b b) as (λ v. lies_in_join m.a m.b b ≡ v → cond v (not (is_within m.b b)) (is_face c b) ≡ is_face c b) [
        | true ↦ λ e. sym (faces_in_join_lem c m b h e).before
        | false ↦ λ e. refl
      ] refl

  pub has_is : (s : List ℕ) → is_open (wanted (flip c m.a m.b) s) (is_face_beside c m m.a) ≡ has_option (flip c m.a m.b) s
  has_is s = by (asks (flip c m.a m.b) s) ∙ ap (λ f. asks (flip c m.a m.b) s && not f) (face_after (link_vertices (flip c m.a m.b) s))
    where
      by : (v : Bool) → is_open (cond v (Some (link_vertices (flip c m.a m.b) s)) None) (is_face_beside c m m.a) ≡ (v && not (is_face_beside c m m.a (link_vertices (flip c m.a m.b) s)))
      by true = refl
      by false = refl

      face_after : (b : List ℕ) → is_face_beside c m m.a b ≡ is_face (flip c m.a m.b) b
      face_after b = elim (lies_in_join m.a m.b b) as (λ v. lies_in_join m.a m.b b ≡ v → cond v (not (is_within m.a b)) (is_face c b) ≡ is_face (flip c m.a m.b) b) [
        | true ↦ λ e. sym (faces_in_join_lem c m b h e).after
        | false ↦ λ e. sym (outside_stays_lem c m b h e).face
      ] refl

-- ---- who ceases to ask
that_same : (a b : List ℕ) → pointwise nat_eq a b ≡ is_same a b
that_same a b = agree (pointwise nat_eq a b) (is_same a b)
    (λ e. subst (λ x. is_same a x ≡ true) ((pointwise_decides unsigned_Decides a b).0 e) (same_itself a))
    (λ e. (pointwise_decides unsigned_Decides a b).1 (same_from a b e))

is_that_asked : (d : List (List ℕ)) (s b : List ℕ) → is_that (wanted d s) b ≡ asks_for d s b
is_that_asked d s b = by (asks d s)
  where
    by : (v : Bool) → is_that (cond v (Some (link_vertices d s)) None) b ≡ (v && is_same (link_vertices d s) b)
    by true = that_same (link_vertices d s) b
    by false = refl

pub given_up_at : (from to : List (List ℕ)) (s : List ℕ) (i : ℕ) (x : Asking) → In x (given_up i (wanted from s) (wanted to s)) ↔ ((x.asker ≡ i) × (asks_for from s x.set ≡ true) × (asks_for to s x.set ≡ false))
given_up_at from to s i x = by (asks from s) refl
  where
    b : List ℕ
    b = link_vertices from s

    by : (v : Bool) → asks from s ≡ v → In x (given_up i (cond v (Some (link_vertices from s)) None) (wanted to s)) ↔ ((x.asker ≡ i) × (asks_for from s x.set ≡ true) × (asks_for to s x.set ≡ false))
    by false e = (λ j. absurd (none x j), λ r. absurd (true≢false (sym (and_left (asks from s) _ r.1) ∙ e)))
    by true e = then (is_that (wanted to s) (link_vertices from s)) refl
      where
        then : (w : Bool) → is_that (wanted to s) (link_vertices from s) ≡ w → In x (cond w [] (record { asker = i; set = link_vertices from s } ∷ [])) ↔ ((x.asker ≡ i) × (asks_for from s x.set ≡ true) × (asks_for to s x.set ≡ false))
        then true f = (
          λ j. absurd (none x j),
          λ r. let q = same_from (link_vertices from s) x.set (and_right (asks from s) _ r.1) in absurd (true≢false (sym f ∙ is_that_asked to s (link_vertices from s) ∙ ap (asks_for to s) q ∙ r.2)),
        )
        then false f = (
          λ j. elim (cases j) [
            | inl q ↦ (
              ap (λ (y : Asking). y.asker) q,
              and_both _ _ e (ap (λ (y : Asking). is_same (link_vertices from s) y.set) q ∙ same_itself (link_vertices from s)),
              ap (λ (y : Asking). asks_for to s y.set) q ∙ sym (is_that_asked to s (link_vertices from s)) ∙ f,
            )
            | inr n ↦ absurd (none x n)
          ],
          λ r.
              let q : link_vertices from s ≡ x.set = same_from (link_vertices from s) x.set (and_right (asks from s) _ r.1) in
              let a = r.0 in
              subst (λ (y : Asking). In y (record { asker = i; set = link_vertices from s } ∷ [])) (λ k. record { asker = sym a k; set = q k }) first,
        )

pub given_once : (i : ℕ) (before after : Option (List ℕ)) → IsOnce ℕ (map (λ (x : Asking). x.asker) (given_up i before after))
given_once i None after = tt
given_once i (Some b) after = elim (is_that after b) as (λ v. IsOnce ℕ (map (λ (x : Asking). x.asker) (cond v [] (record { asker = i; set = b } ∷ [])))) [ true ↦ tt | false ↦ (λ j. none i j, tt) ]

-- ---- options at the set itself
pub near_at : (c : List (List ℕ)) (m : Flip) (s : List ℕ) (n : ℕ) (had has : Bool) → n ≡ size c → had ≡ has_option c s → has ≡ has_option (flip c m.a m.b) s → (x : SetChange) → In x (near_change n s had has) ↔ IsNearChange c m s x
near_at c m s n true true e f g x = (λ i. absurd (none x i), λ r. absurd (both x.comes (f ∙ r.had) (g ∙ r.has)))
  where
    both : (v : Bool) → true ≡ not v → true ≡ v → ⊥
    both true p q = true≢false p
    both false p q = true≢false q
near_at c m s n false false e f g x = (λ i. absurd (none x i), λ r. absurd (both x.comes (f ∙ r.had) (g ∙ r.has)))
  where
    both : (v : Bool) → false ≡ not v → false ≡ v → ⊥
    both true p q = true≢false (sym q)
    both false p q = true≢false (sym p)
near_at c m s n true false e f g x = (
  λ i. elim (cases i) [
    | inl q ↦ record {
      face = ap (λ (y : SetChange). y.face) q;
      class = ap (λ (y : SetChange). y.class) q ∙ ap (λ k. k - length s) e;
      had = sym f ∙ ap (λ (y : SetChange). not y.comes) (sym q);
      has = sym g ∙ ap (λ (y : SetChange). y.comes) (sym q);
    }
    | inr k ↦ absurd (none x k)
  ],
  λ r.
      let p = r.face in
      let q = r.class ∙ ap (λ k. k - length s) (sym e) in
      let v = sym r.has ∙ sym g in
      subst (λ (y : SetChange). In y (record { class = n - length s; face = s; comes = false } ∷ [])) (λ k. record { class = sym q k; face = sym p k; comes = sym v k }) first,
)
near_at c m s n false true e f g x = (
  λ i. elim (cases i) [
    | inl q ↦ record {
      face = ap (λ (y : SetChange). y.face) q;
      class = ap (λ (y : SetChange). y.class) q ∙ ap (λ k. k - length s) e;
      had = sym f ∙ ap (λ (y : SetChange). not y.comes) (sym q);
      has = sym g ∙ ap (λ (y : SetChange). y.comes) (sym q);
    }
    | inr k ↦ absurd (none x k)
  ],
  λ r.
      let p = r.face in
      let q = r.class ∙ ap (λ k. k - length s) (sym e) in
      let v = sym r.has ∙ sym g in
      subst (λ (y : SetChange). In y (record { class = n - length s; face = s; comes = true } ∷ [])) (λ k. record { class = sym q k; face = sym p k; comes = sym v k }) first,
)

near_once : (n : ℕ) (s : List ℕ) (had has : Bool) → IsOnce (List ℕ) (map (λ (x : SetChange). x.face) (near_change n s had has))
near_once n s true true = tt
near_once n s false false = tt
near_once n s true false = (λ j. none s j, tt)
near_once n s false true = (λ j. none s j, tt)

-- those at the set, and then those far from it
pub near_and_far : (c : List (List ℕ)) (m : Flip) (s : List ℕ) (n : ℕ) (had has : Bool) (old between new : List SetChange) → lies_in_join m.a m.b s ≡ true → n ≡ size c → had ≡ has_option c s → has ≡ has_option (flip c m.a m.b) s
    → between ≡ old ++ near_change n s had has → HasMore (IsFarChange c m s) between new → HasMore (IsChangeBy c m s) old new
near_and_far c m s n had has old between new inside e f g k far = record {
  more = near_change n s had has ++ far.more;
  all = far.all ∙ ap (λ l. l ++ far.more) k ∙ append_assoc old (near_change n s had has) far.more;
  members = λ x. (
    λ i. elim (in_either x (near_change n s had has) far.more i) [
      | inl j ↦ inl ((near_at c m s n had has e f g x).0 j)
      | inr j ↦ inr ((far.members x).0 j)
    ],
    λ r. elim r [
      | inl j ↦ in_left x (near_change n s had has) far.more ((near_at c m s n had has e f g x).1 j)
      | inr j ↦ in_right x (near_change n s had has) far.more ((far.members x).1 j)
    ],
  );
  once = once_both (λ (x : SetChange). x.face) (near_change n s had has) far.more (near_once n s had has) far.once (λ x y i j q.
      let p = (near_at c m s n had has e f g x).0 i in
      let r = (far.members y).0 j in
      false_at (lies_in_join m.a m.b y.face) r.outside (ap (lies_in_join m.a m.b) (sym q ∙ p.face) ∙ inside));
}

-- ---- options far from the set
once_at : (xs : List ℕ) (j k : ℕ) → IsOnce ℕ xs → j < k → k < length xs → get_or xs j 0 ≡ get_or xs k 0 → ⊥
once_at [] j k h l n e = omega arith
once_at (x ∷ xs) j zero h l n e = omega arith
once_at (x ∷ xs) zero (suc k) h l n e = h.0 (subst (λ y. In y xs) (sym e) (here xs k (omega arith)))
  where
    here : (xs : List ℕ) (k : ℕ) → k < length xs → In (get_or xs k 0) xs
    here [] k n = absurd (omega arith)
    here (x ∷ xs) zero n = first
    here (x ∷ xs) (suc k) n = later (here xs k (omega arith))
once_at (x ∷ xs) (suc j) (suc k) h l n e = once_at xs j k h.1 (omega arith) (omega arith) e

in_at : (xs : List ℕ) (k : ℕ) → k < length xs → In (get_or xs k 0) xs
in_at [] k n = absurd (omega arith)
in_at (x ∷ xs) zero n = first
in_at (x ∷ xs) (suc k) n = later (in_at xs k (omega arith))

place_of : (xs : List ℕ) (x : ℕ) → In x xs → (k : ℕ) × (k < length xs) × (get_or xs k 0 ≡ x)
place_of [] x i = absurd (none x i)
place_of (y ∷ xs) x i = elim (cases i) [
  | inl e ↦ (0, omega arith, sym e)
  | inr j ↦ let r = place_of xs x j in (suc r.0, omega (arith, r.1), r.2)
]

pub far_none : (c : List (List ℕ)) (m : Flip) (s : List ℕ) (xs : List SetChange) → (is_within m.a s || is_within m.b s) ≡ false → HasMore (IsFarChange c m s) xs xs
far_none c m s xs p = record {
  more = [];
  all = sym (append-nil xs);
  members = λ x. (λ i. absurd (none x i), λ r. absurd (true≢false (sym r.above ∙ p)));
  once = tt;
}

-- what the asker at the place brings
abbrev pub IsFarBy : List (List ℕ) → Flip → List ℕ → (List ℕ → Option ℕ) → List ℕ → ℕ → SetChange → Type 0
IsFarBy c m s id_of askers j x = (id_of x.face ≡ Some (get_or askers j 0)) × IsFarChange c m s x

module _ (c : List (List ℕ)) (m : Flip) (s : List ℕ) (id_of : List ℕ → Option ℕ) (askers_of : List ℕ → List ℕ) (are : AreAskers c id_of askers_of) where
  abbrev IsFarAt : ℕ → SetChange → Type 0
  IsFarAt j x = IsFarBy c m s id_of (askers_of s) j x

  far_apart : (k : ℕ) → k < length (askers_of s) → (j : ℕ) (x y : SetChange) → j < k → IsFarAt j x → IsFarAt k y → x.face ≡ y.face → ⊥
  far_apart k below j x y l p q e = once_at (askers_of s) j k (are.once s) l below (ap (λ o. unwrap_or o 0) (sym p.0 ∙ ap id_of e ∙ q.0))

  module _ (k : ℕ) (face : List ℕ) (below : k < length (askers_of s)) (is : (t : List ℕ) → id_of t ≡ Some (get_or (askers_of s) k 0) → face ≡ t) where
    -- a face of the join brings none
    pub far_skip : (more : List SetChange) → lies_in_join m.a m.b face ≡ true → Gathered (λ (x : SetChange). x.face) IsFarAt k more → Gathered (λ (x : SetChange). x.face) IsFarAt (k + 1) more
    far_skip more inside g = gathered_more (λ (x : SetChange). x.face) IsFarAt k more [] more g (sym (append-nil more))
        (λ x. (λ i. absurd (none x i), λ r. absurd (false_at (lies_in_join m.a m.b x.face) r.1.outside (ap (lies_in_join m.a m.b) (sym (is x.face r.0)) ∙ inside))))
        tt (far_apart k below)

    pub far_add : (more : List SetChange) (class : ℕ) (comes : Bool) → lies_in_join m.a m.b face ≡ false → class ≡ size c - length face → comes ≡ is_within m.a s → (is_within m.a s || is_within m.b s) ≡ true
        → Gathered (λ (x : SetChange). x.face) IsFarAt k more → Gathered (λ (x : SetChange). x.face) IsFarAt (k + 1) (more ++ record { class = class; face = face; comes = comes } ∷ [])
    far_add more class comes out e f above g = gathered_more (λ (x : SetChange). x.face) IsFarAt k more (record { class = class; face = face; comes = comes } ∷ []) (more ++ record { class = class; face = face; comes = comes } ∷ []) g refl
        (λ x. (
          λ i. elim (cases i) [ inl q ↦ subst (λ y. IsFarAt k y) (sym q) mine | inr n ↦ absurd (none x n) ],
          λ r.
              let p : face ≡ x.face = is x.face r.0 in
              let q : class ≡ x.class = e ∙ ap (λ t. size c - length t) p ∙ sym r.1.class in
              let v : comes ≡ x.comes = f ∙ sym r.1.comes in
              subst (λ (y : SetChange). In y (record { class = class; face = face; comes = comes } ∷ [])) (λ z. record { class = q z; face = p z; comes = v z }) first,
        ))
        (λ j. none face j, tt) (far_apart k below)
      where
        mine : IsFarAt k (record { class = class; face = face; comes = comes })
        mine =
            let a = (are.asks (get_or (askers_of s) k 0) s).0 (in_at (askers_of s) k below) in
            let p : face ≡ a.0 = is a.0 a.2 in (
              ap id_of p ∙ a.2,
              record { simplex = ap is_simplex p ∙ a.1; outside = out; asks = ap (λ t. asks_for c t s) p ∙ a.3; class = e; comes = f; above = above },
            )

  pub far_id : (items : List ℕ) → items ≡ askers_of s → (k : ℕ) → k < length items → (t : List ℕ) × (id_of t ≡ Some (get_or items k 0))
  far_id items e k below =
      let a = (are.asks (get_or (askers_of s) k 0) s).0 (in_at (askers_of s) k (subst (λ l. k < length l) e below)) in
      (a.0, a.2 ∙ ap (λ l. Some (get_or l k 0)) (sym e))

  abbrev pub Far : ℕ → List SetChange → List SetChange → Type 0
  Far k old new = (more : List SetChange) × (new ≡ old ++ more) × Gathered (λ (x : SetChange). x.face) (IsFarBy c m s id_of (askers_of s)) k more

  pub far_start : (old : List SetChange) → Far 0 old old
  far_start old = ([], sym (append-nil old), gathered_none (λ (x : SetChange). x.face) (IsFarBy c m s id_of (askers_of s)) [] refl)

  pub far_step : (items : List ℕ) → items ≡ askers_of s → (k : ℕ) (face : List ℕ) → k < length items → ((t : List ℕ) → id_of t ≡ Some (get_or items k 0) → face ≡ t)
      → (n : ℕ) (comes : Bool) → n ≡ size c → comes ≡ is_within m.a s → (is_within m.a s || is_within m.b s) ≡ true
      → (old now new : List SetChange) → Far k old now → new ≡ now ++ far_change n m face comes → Far (k + 1) old new
  far_step items e k face below is n comes size_is comes_is above old now new f g =
      (f.0 ++ far_change n m face comes, g ∙ ap (λ l. l ++ far_change n m face comes) f.1 ∙ append_assoc old f.0 (far_change n m face comes), by (lies_in_join m.a m.b face) refl)
    where
      here : k < length (askers_of s)
      here = subst (λ l. k < length l) e below

      named : (t : List ℕ) → id_of t ≡ Some (get_or (askers_of s) k 0) → face ≡ t
      named t q = is t (q ∙ ap (λ l. Some (get_or l k 0)) (sym e))

      by : (v : Bool) → lies_in_join m.a m.b face ≡ v
          → Gathered (λ (x : SetChange). x.face) (IsFarBy c m s id_of (askers_of s)) (k + 1) (f.0 ++ cond v [] (record { class = n - length face; face = face; comes = comes } ∷ []))
      by true q = subst (λ l. Gathered (λ (x : SetChange). x.face) (IsFarBy c m s id_of (askers_of s)) (k + 1) l) (sym (append-nil f.0)) (far_skip k face here named f.0 q f.2)
      by false q = far_add k face here named f.0 (n - length face) comes q (ap (λ l. l - length face) size_is) comes_is above f.2

  pub far_all : (items : List ℕ) → items ≡ askers_of s → (k : ℕ) (old new : List SetChange) → length items ≤ k → ((a : List ℕ) → is_simplex a ≡ true → is_face c a ≡ true → IsSome (id_of a))
      → Far k old new → HasMore (IsFarChange c m s) old new
  far_all items same k old new past named far = record {
    more = far.0;
    all = far.1;
    members = λ x. (
      λ i. (((far.2).members x).0 i).2.1,
      λ r. there x r (id_of x.face) refl (named x.face r.simplex (asks_face c x.face (and_left (asks c x.face) _ r.asks))),
    );
    once = (far.2).once;
  }
    where
      there : (x : SetChange) → IsFarChange c m s x → (o : Option ℕ) → id_of x.face ≡ o → IsSome o → In x far.0
      there x r None f h = absurd (true≢false (sym h))
      there x r (Some i) f h =
          let p = place_of (askers_of s) i ((are.asks i s).1 (x.face, r.simplex, f, r.asks)) in
          let n = ap length same in
          ((far.2).members x).1 (p.0, omega (arith, p.1, past, n), (f ∙ ap Some (sym p.2), r))

-- ---- one number after another
module _ (c : List (List ℕ)) (m : Flip) (h : IsAllowed c m) (id_of : List ℕ → Option ℕ) (labels : List ℕ) (ids : List (Option ℕ)) (n : Noted m id_of labels ids) (k : ℕ) (below : k < 2 ^ length labels) where
  abbrev set_here : List ℕ
  set_here = subset_at labels k

  nothing : {X : Type 0} (o : Option X) → o ≡ None → IsSome o → ⊥
  nothing o e q = true≢false (sym q ∙ ap is_some e)

  pub none_asks : get_or ids k None ≡ None → (from to : List (List ℕ)) (xs : List Asking) → Gathered (λ (x : Asking). x.asker) (IsGivenUpBy labels ids from to) k xs
      → Gathered (λ (x : Asking). x.asker) (IsGivenUpBy labels ids from to) (k + 1) xs
  none_asks e from to xs g = gathered_more (λ (x : Asking). x.asker) (IsGivenUpBy labels ids from to) k xs [] xs g (sym (append-nil xs))
      (λ x. (λ i. absurd (none x i), λ r. absurd (true≢false (ap is_some (sym r.0 ∙ e)))))
      tt (λ j x y l p q f. true≢false (ap is_some (sym q.0 ∙ e)))

  pub none_changes : get_or ids k None ≡ None → (xs : List SetChange) → Gathered (λ (x : SetChange). x.face) (IsBroughtBy labels ids c m) k xs
      → Gathered (λ (x : SetChange). x.face) (IsBroughtBy labels ids c m) (k + 1) xs
  none_changes e xs g = gathered_more (λ (x : SetChange). x.face) (IsBroughtBy labels ids c m) k xs [] xs g (sym (append-nil xs))
      (λ x. (λ i. absurd (none x i), λ r. absurd (nothing (get_or ids k None) e r.0)))
      tt (λ j x y l p q f. nothing (get_or ids k None) e q.0)

  module _ (i : ℕ) (s : List ℕ) (e : get_or ids k None ≡ Some i) (is : (t : List ℕ) → id_of t ≡ Some i → s ≡ t) where
    here : s ≡ set_here
    here = is set_here (id_at c m h id_of labels ids n k i below e).1

    pub some_asks : (from to : List (List ℕ)) (xs new : List Asking) → Gathered (λ (x : Asking). x.asker) (IsGivenUpBy labels ids from to) k xs → new ≡ xs ++ given_up i (wanted from s) (wanted to s)
        → Gathered (λ (x : Asking). x.asker) (IsGivenUpBy labels ids from to) (k + 1) new
    some_asks from to xs new g f = gathered_more (λ (x : Asking). x.asker) (IsGivenUpBy labels ids from to) k xs (given_up i (wanted from s) (wanted to s)) new g f
        (λ x. (
          λ j. (let r = (given_up_at from to s i x).0 j in (e ∙ ap Some (sym r.0), ap (λ t. asks_for from t x.set) (sym here) ∙ r.1, ap (λ t. asks_for to t x.set) (sym here) ∙ r.2)),
          λ r. (given_up_at from to s i x).1 (ap (λ o. unwrap_or o 0) (sym r.0 ∙ e), ap (λ t. asks_for from t x.set) here ∙ r.1, ap (λ t. asks_for to t x.set) here ∙ r.2),
        ))
        (given_once i (wanted from s) (wanted to s))
        (λ j x y l p q a.
        let one = (id_at c m h id_of labels ids n j x.asker (omega (arith, l, below)) p.0).1 in
        let same : x.asker ≡ i = a ∙ ap (λ o. unwrap_or o 0) (sym q.0 ∙ e) in
        apart_at c m h id_of labels ids n j k l below (sym (is (subset_at labels j) (one ∙ ap Some same)) ∙ here))

    pub some_changes : (xs new : List SetChange) → Gathered (λ (x : SetChange). x.face) (IsBroughtBy labels ids c m) k xs → HasMore (IsChangeBy c m s) xs new
        → Gathered (λ (x : SetChange). x.face) (IsBroughtBy labels ids c m) (k + 1) new
    some_changes xs new g f = gathered_more (λ (x : SetChange). x.face) (IsBroughtBy labels ids c m) k xs f.more new g f.all
        (λ x. (
          λ j. (ap is_some e, subst (λ t. IsChangeBy c m t x) here ((f.members x).0 j)),
          λ r. (f.members x).1 (subst (λ t. IsChangeBy c m t x) (sym here) r.1),
        ))
        f.once (λ j x y l p q a. brought_apart c m h id_of labels ids n j k l below x y p.1 q.1 a)
