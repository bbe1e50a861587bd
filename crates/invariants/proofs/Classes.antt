-- When one list has at most as many classes as another.
use Rattle.std.proofs.Common.{◌≡◌, suc, ◌≤◌, Bool, List, [], ◌∷◌, ◌++◌, length, refl, sym, ap, ◌∙◌, subst, ◌⊎◌, inl, inr, arith}
use Rattle.std.specs.List.{flat_map}
use Rattle.simplex.proofs.Members.{In, first, later, cases, at_head, none, in_right, in_flat_map}
use Rattle.facet_set.specs.ClassLaws.{IsOnce}
use Rattle.facet_set.specs.Connection.{Chain, here, step, classes}
use Rattle.facet_set.proofs.ClassLaws.{from_class, in_class, chain_in, chain_stays}
use Rattle.facet_set.proofs.OnceLaws.{class_members_lem}

-- ---- chains
module _ {X : Type 0} (joined : X → X → Bool) where
  pub chain-join : (xs : List X) {x y z : X} → Chain joined xs x y → Chain joined xs y z → Chain joined xs x z
  chain-join xs here d = d
  chain-join xs (step h i c) d = step h i (chain-join xs c d)

  pub chain-back : ((x y : X) → joined x y ≡ joined y x) → (xs : List X) {x z : X} → In x xs → Chain joined xs x z → Chain joined xs z x
  chain-back even xs i here = here
  chain-back even xs {x = x} i (step {y = y} h j c) = chain-join xs (chain-back even xs j c) (step (even y x ∙ h) i here)

-- a list with one member less
removed : {X : Type 0} (k : X) (ks : List X) → In k ks → (rest : List X) × (length ks ≡ suc (length rest)) × ((l : X) → In l ks → (l ≡ k) ⊎ In l rest)
removed k [] i = absurd (none k i)
removed k (l ∷ ks) i = elim (cases i) [
  | inl e ↦ (ks, refl, λ m j. elim (cases j) [ inl f ↦ inl (f ∙ sym e) | inr n ↦ inr n ])
  | inr j ↦ let r = removed k ks j in (
    l ∷ r.0,
    ap suc r.1,
    λ m n. elim (cases n) [
      | inl f ↦ inr (at_head m l r.0 f)
      | inr o ↦ elim (r.2 m o) [ inl g ↦ inl g | inr p ↦ inr (later p) ]
    ],
  )
]

-- values that lead to members, and no two of them to one, are not more than these
module _ {X Y : Type 0} (to : X → Y → Type 0) where
  abbrev pub AreApart : List X → Type 0
  AreApart [] = Unit {0}
  AreApart (k ∷ ks) = ((m : X) → In m ks → (l : Y) → to k l → to m l → ⊥) × AreApart ks

  pub not_more : (ks : List X) (ls : List Y) → AreApart ks → ((k : X) → In k ks → (l : Y) × In l ls × to k l) → length ks ≤ length ls
  not_more [] ls h g = omega arith
  not_more (k ∷ ks) ls h g =
      let q = g k first in
      let r = removed q.0 ls q.1 in
      let rest = not_more ks r.0 h.1 (λ m i. let p = g m (later i) in elim (r.2 p.0 p.1) [
        | inl e ↦ absurd (h.0 m i q.0 q.2 (subst (to m) e p.2))
        | inr j ↦ (p.0, j, p.2)
      ]) in
      let n = r.1 in
      omega arith

once_right : {X : Type 0} (xs ys : List X) → IsOnce X (xs ++ ys) → IsOnce X ys
once_right [] ys h = h
once_right (x ∷ xs) ys h = once_right xs ys h.1

once_apart : {X : Type 0} (xs ys : List X) → IsOnce X (xs ++ ys) → (x : X) → In x xs → In x ys → ⊥
once_apart [] ys h x i j = none x i
once_apart (y ∷ xs) ys h x i j = elim (cases i) [ inl e ↦ h.0 (in_right y xs ys (subst (λ z. In z ys) e j)) | inr k ↦ once_apart xs ys h.1 x k j ]

module _ {X Y : Type 0} (joined : X → X → Bool) (even : (x y : X) → joined x y ≡ joined y x) (tied : Y → Y → Bool) (even_tied : (x y : Y) → tied x y ≡ tied y x) (xs : List X) (ys : List Y) (f : X → Y) where
  -- a member of the one class goes into the other
  abbrev goes_into : List X → List Y → Type 0
  goes_into k l = In l (classes tied ys) × ((x : X) × In x k × In (f x) l)

  apart_of : (ks : List (List X)) → IsOnce X (flat_map (λ k. k) ks) → ((k m : List X) (l : List Y) → In k ks → In m ks → goes_into k l → goes_into m l → (x : X) × In x k × In x m) → AreApart goes_into ks
  apart_of [] h meet = tt
  apart_of (k ∷ ks) h meet = (
    λ m i l r s. let x = meet k m l first (later i) r s in once_apart k (flat_map (λ k. k) ks) h x.0 x.1 (in_flat_map (λ (k : List X). k) m x.0 ks i x.2),
    apart_of ks (once_right k (flat_map (λ k. k) ks) h) (λ n m l i j r s. meet n m l (later i) (later j) r s),
  )

  pub fewer_classes : IsOnce X xs → ((x : X) → In x xs → In (f x) ys) → ((x y : X) → In x xs → In y xs → Chain tied ys (f x) (f y) → Chain joined xs x y) → length (classes joined xs) ≤ length (classes tied ys)
  fewer_classes once there back =
      not_more goes_into (classes joined xs) (classes tied ys) (apart_of (classes joined xs) ((class_members_lem joined xs).1 once) meet) each
    where
      meet : (k m : List X) (l : List Y) → In k (classes joined xs) → In m (classes joined xs) → goes_into k l → goes_into m l → (x : X) × In x k × In x m
      meet k m l i j r s =
          let x = r.1.0 in
          let y = s.1.0 in
          let way = back x y (from_class joined even xs k x i r.1.1) (from_class joined even xs m y j s.1.1) (chain_in tied even_tied ys l (f x) (f y) r.0 r.1.2 s.1.2) in
          (y, chain_stays joined even xs way k i r.1.1, s.1.1)

      each : (k : List X) → In k (classes joined xs) → (l : List Y) × In l (classes tied ys) × goes_into k l
      each k i =
          let x = (class_members_lem joined xs).0 k i in
          let l = in_class tied even_tied ys (f x.0) (there x.0 (from_class joined even xs k x.0 i x.1)) in
          (l.0, l.1, (l.1, (x.0, x.1, l.2)))
