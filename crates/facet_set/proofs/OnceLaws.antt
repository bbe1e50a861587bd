-- No class is empty, and the classes have no member twice.
use Rattle.std.proofs.Common.{Bool, true, false, not, cond, List, [], ◌∷◌, ◌++◌, sym, subst, append_assoc, inl, inr}
use Rattle.std.specs.List.{list_any, filter, flat_map}
use Rattle.simplex.proofs.Members.{In, first, later, cases, none, in_left, in_right, in_either, from_filter, in_flat_map, from_flat_map}
use Rattle.facet_set.specs.Connection.{classes}
use Rattle.facet_set.specs.ClassLaws.{ClassChains, ClassMembers, IsOnce}
use Rattle.facet_set.proofs.ClassLaws.{in_class, chain_in, chain_stays}

module _ {X : Type 0} where
  pub class_chains_lem : ClassChains X
  class_chains_lem joined even xs x y i = (
    λ t. chain_in joined even xs t.0 x y t.1 t.2 t.3,
    λ c. let r = in_class joined even xs x i in (r.0, r.1, r.2, chain_stays joined even xs c r.0 r.1 r.2),
  )

  -- two lists one after the other
  once_left : (xs ys : List X) → IsOnce X (xs ++ ys) → IsOnce X xs
  once_left [] ys h = tt
  once_left (x ∷ xs) ys h = (λ i. h.0 (in_left x xs ys i), once_left xs ys h.1)

  once_right : (xs ys : List X) → IsOnce X (xs ++ ys) → IsOnce X ys
  once_right [] ys h = h
  once_right (x ∷ xs) ys h = once_right xs ys h.1

  once_apart : (xs ys : List X) → IsOnce X (xs ++ ys) → (x : X) → In x xs → In x ys → ⊥
  once_apart [] ys h x i j = none x i
  once_apart (y ∷ xs) ys h x i j = elim (cases i) [ inl e ↦ h.0 (in_right y xs ys (subst (λ z. In z ys) e j)) | inr k ↦ once_apart xs ys h.1 x k j ]

  once_both : (xs ys : List X) → IsOnce X xs → IsOnce X ys → ((x : X) → In x xs → In x ys → ⊥) → IsOnce X (xs ++ ys)
  once_both [] ys h k f = k
  once_both (x ∷ xs) ys h k f = (λ i. elim (in_either x xs ys i) [ inl j ↦ h.0 j | inr j ↦ f x first j ], once_both xs ys h.1 k (λ y i j. f y (later i) j))

  abbrev joint : List (List X) → List X
  joint ks = flat_map (λ k. k) ks

  -- the lists that pass a test, and then the others
  abbrev parted : (List X → Bool) → List (List X) → List X
  parted p ks = joint (filter p ks) ++ joint (filter (λ k. not (p k)) ks)

  from_parted : (p : List X → Bool) (ks : List (List X)) (x : X) → In x (parted p ks) → In x (joint ks)
  from_parted p ks x i = elim (in_either x (joint (filter p ks)) (joint (filter (λ k. not (p k)) ks)) i) [
    | inl j ↦ let r = from_flat_map (λ k. k) x (filter p ks) j in in_flat_map (λ k. k) r.0 x ks (from_filter p r.0 ks r.1).0 r.2
    | inr j ↦ let r = from_flat_map (λ k. k) x (filter (λ k. not (p k)) ks) j in in_flat_map (λ k. k) r.0 x ks (from_filter (λ k. not (p k)) r.0 ks r.1).0 r.2
  ]

  once_parted : (p : List X → Bool) (ks : List (List X)) → IsOnce X (joint ks) → IsOnce X (parted p ks)
  once_parted p [] h = tt
  once_parted p (k ∷ ks) h =
      let F = joint (filter p ks) in
      let G = joint (filter (λ l. not (p l)) ks) in
      let rest : IsOnce X (F ++ G) = once_parted p ks (once_right k (joint ks) h) in
      let own : IsOnce X k = once_left k (joint ks) h in
      let away : (x : X) → In x k → In x (F ++ G) → ⊥ = λ x i j. once_apart k (joint ks) h x i (from_parted p ks x j) in
      elim (p k) as (λ v. IsOnce X (joint (cond v (k ∷ filter p ks) (filter p ks)) ++ joint (cond (not v) (k ∷ filter (λ l. not (p l)) ks) (filter (λ l. not (p l)) ks)))) [
        | true ↦ subst (λ l. IsOnce X l) (sym (append_assoc k F G)) (once_both k (F ++ G) own rest away)
        | false ↦ once_both F (k ++ G) (once_left F G rest) (once_both k G own (once_right F G rest) (λ x i j. away x i (in_right x F G j)))
            (λ x i j. elim (in_either x k G j) [ inl m ↦ away x m (in_left x F G i) | inr m ↦ once_apart F G rest x i m ])
      ]

  from_classes : (joined : X → X → Bool) (xs : List X) (x : X) → In x (joint (classes joined xs)) → In x xs
  from_classes joined [] x i = absurd (none x i)
  from_classes joined (a ∷ xs) x i =
      elim (cases i) [
        | inl e ↦ subst (λ y. In y (a ∷ xs)) (sym e) first
        | inr j ↦ later (from_classes joined xs x (from_parted (λ k. list_any (joined a) k) (classes joined xs) x j))
      ]

  members : (joined : X → X → Bool) (xs : List X) (k : List X) → In k (classes joined xs) → (x : X) × In x k
  members joined [] k i = absurd (none k i)
  members joined (a ∷ xs) k i =
      elim (cases i) [
        | inl e ↦ (a, subst (λ l. In a l) (sym e) first)
        | inr j ↦ members joined xs k (from_filter (λ l. not (list_any (joined a) l)) k (classes joined xs) j).0
      ]

  once : (joined : X → X → Bool) (xs : List X) → IsOnce X xs → IsOnce X (joint (classes joined xs))
  once joined [] h = tt
  once joined (a ∷ xs) h = (
    λ i. h.0 (from_classes joined xs a (from_parted (λ k. list_any (joined a) k) (classes joined xs) a i)),
    once_parted (λ k. list_any (joined a) k) (classes joined xs) (once joined xs h.1),
  )

  pub class_members_lem : ClassMembers X
  class_members_lem joined xs = (λ k i. members joined xs k i, λ h. once joined xs h)
