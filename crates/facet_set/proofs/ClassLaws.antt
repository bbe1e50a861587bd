-- Two members are in one class exactly where a chain joins them.
use Rattle.std.proofs.Common.{◌≡◌, Bool, true, false, not, List, [], ◌∷◌, refl, sym, ap, ◌∙◌, subst, ◌⊎◌, inl, inr}
use mathlib.Core.Bool.{true≢false}
use Rattle.std.specs.List.{list_any, filter, flat_map}
use Rattle.simplex.proofs.Members.{In, first, later, cases, at_head, none, any_from, any_at, in_filter, from_filter, in_flat_map, from_flat_map}
use Rattle.facet_set.specs.Connection.{Chain, here, step, classes}

module _ {X : Type 0} (joined : X → X → Bool) where
  mono : (xs ys : List X) {x z : X} → ((y : X) → In y xs → In y ys) → Chain joined xs x z → Chain joined ys x z
  mono xs ys f here = here
  mono xs ys f (step {y = y} h i c) = step h (f y i) (mono xs ys f c)

  join : (xs : List X) {x y z : X} → Chain joined xs x y → Chain joined xs y z → Chain joined xs x z
  join xs here d = d
  join xs (step h i c) d = step h i (join xs c d)

  near : X → List X → Bool
  near x k = list_any (joined x) k

module _ {X : Type 0} (joined : X → X → Bool) (even : (x y : X) → joined x y ≡ joined y x) where
  back : (xs : List X) {x z : X} → In x xs → Chain joined xs x z → Chain joined xs z x
  back xs i here = here
  back xs {x = x} i (step {y = y} h j c) = join joined xs (back xs j c) (step (even y x ∙ h) i here)

  -- a member of a class is a member of the list
  pub from_class : (xs : List X) (k : List X) (x : X) → In k (classes joined xs) → In x k → In x xs
  from_class [] k x i j = absurd (none k i)
  from_class (a ∷ xs) k x i j =
      elim (cases i) [
        | inl e ↦ elim (cases (subst (λ l. In x l) e j)) [
          | inl f ↦ at_head x a xs f
          | inr m ↦ let r = from_flat_map (λ l. l) x (filter (λ l. list_any (joined a) l) (classes joined xs)) m in
              later (from_class xs r.0 x (from_filter (λ l. list_any (joined a) l) r.0 (classes joined xs) r.1).0 r.2)
        ]
        | inr m ↦ later (from_class xs k x (from_filter (λ l. not (list_any (joined a) l)) k (classes joined xs) m).0 j)
      ]

  -- each member is in a class
  pub in_class : (xs : List X) (x : X) → In x xs → (k : List X) × In k (classes joined xs) × In x k
  in_class [] x i = absurd (none x i)
  in_class (a ∷ xs) x i =
      elim (cases i) [
        | inl e ↦ (_, first, at_head x a _ e)
        | inr j ↦ let r = in_class xs x j in
            elim (list_any (joined a) r.0) as (λ v. list_any (joined a) r.0 ≡ v → (k : List X) × In k (classes joined (a ∷ xs)) × In x k) [
              | true ↦ λ e. (_, first, later (in_flat_map (λ l. l) r.0 x (filter (λ l. list_any (joined a) l) (classes joined xs)) (in_filter (λ l. list_any (joined a) l) r.0 (classes joined xs) r.1 e) r.2))
              | false ↦ λ e. (r.0, later (in_filter (λ l. not (list_any (joined a) l)) r.0 (classes joined xs) r.1 (ap not e)), r.2)
            ] refl
      ]

  -- members of one class are joined by a chain
  pub chain_in : (xs : List X) (k : List X) (x y : X) → In k (classes joined xs) → In x k → In y k → Chain joined xs x y
  chain_in [] k x y i j l = absurd (none k i)
  chain_in (a ∷ xs) k x y i j l =
      elim (cases i) [
        | inl e ↦ join joined (a ∷ xs) (back (a ∷ xs) first (from_a (chain_in xs) x (subst (λ l. In x l) e j))) (from_a (chain_in xs) y (subst (λ m. In y m) e l))
        | inr m ↦ mono joined xs (a ∷ xs) (λ z n. later n) (chain_in xs k x y (from_filter (λ l. not (list_any (joined a) l)) k (classes joined xs) m).0 j l)
      ]
    where
      from_a : ((k : List X) (x y : X) → In k (classes joined xs) → In x k → In y k → Chain joined xs x y) → (u : X) → In u (a ∷ flat_map (λ l. l) (filter (λ l. list_any (joined a) l) (classes joined xs))) → Chain joined (a ∷ xs) a u
      from_a inner u i =
          elim (cases i) [
            | inl e ↦ subst (λ v. Chain joined (a ∷ xs) a v) (sym e) here
            | inr m ↦
                let r = from_flat_map (λ l. l) u (filter (λ l. list_any (joined a) l) (classes joined xs)) m in
                let q = from_filter (λ l. list_any (joined a) l) r.0 (classes joined xs) r.1 in
                let w = any_at (joined a) r.0 q.1 in
                step w.2 (later (from_class xs r.0 w.0 q.0 w.1)) (mono joined xs (a ∷ xs) (λ z n. later n) (inner r.0 w.0 u q.0 w.1 r.2))
          ]

  -- members of two classes are not joined
  pub apart : (xs : List X) (k l : List X) → In k (classes joined xs) → In l (classes joined xs) → (k ≡ l) ⊎ ((x y : X) → In x k → In y l → joined x y ≡ false)
  apart [] k l i j = absurd (none k i)
  apart (a ∷ xs) k l i j =
      elim (cases i) [
        | inl e ↦ elim (cases j) [
          | inl f ↦ inl (e ∙ sym f)
          | inr n ↦ let q = from_filter (λ m. not (list_any (joined a) m)) l (classes joined xs) n in
              inr (λ x y u v. to_far (apart xs) l y q.0 (off (list_any (joined a) l) q.1) v x (subst (λ m. In x m) e u))
        ]
        | inr m ↦ let p = from_filter (λ m. not (list_any (joined a) m)) k (classes joined xs) m in
            elim (cases j) [
              | inl f ↦ inr (λ x y u v. even x y ∙ to_far (apart xs) k x p.0 (off (list_any (joined a) k) p.1) u y (subst (λ m. In y m) f v))
              | inr n ↦ apart xs k l p.0 (from_filter (λ m. not (list_any (joined a) m)) l (classes joined xs) n).0
            ]
      ]
    where
      off : (v : Bool) → not v ≡ true → v ≡ false
      off true h = sym h
      off false h = refl

      not_joined : (l : List X) (y : X) → list_any (joined a) l ≡ false → In y l → joined a y ≡ false
      not_joined l y h i = by (joined a y) (λ t. true≢false (sym (any_from (joined a) y l i t) ∙ h))
        where
          by : (v : Bool) → (v ≡ true → ⊥) → v ≡ false
          by true f = absurd (f refl)
          by false f = refl

      to_far : ((k l : List X) → In k (classes joined xs) → In l (classes joined xs) → (k ≡ l) ⊎ ((x y : X) → In x k → In y l → joined x y ≡ false)) → (l : List X) (y : X) → In l (classes joined xs) → list_any (joined a) l ≡ false → In y l → (x : X) → In x (a ∷ flat_map (λ m. m) (filter (λ m. list_any (joined a) m) (classes joined xs))) → joined x y ≡ false
      to_far inner l y i far v x u =
          elim (cases u) [
            | inl e ↦ ap (λ z. joined z y) e ∙ not_joined l y far v
            | inr m ↦
                let r = from_flat_map (λ m. m) x (filter (λ m. list_any (joined a) m) (classes joined xs)) m in
                let q = from_filter (λ m. list_any (joined a) m) r.0 (classes joined xs) r.1 in
                elim (inner r.0 l q.0 i) [
                  | inl e ↦ absurd (true≢false (sym q.1 ∙ ap (list_any (joined a)) e ∙ far))
                  | inr f ↦ f x y r.2 v
                ]
          ]

  -- a chain does not leave a class
  pub chain_stays : (xs : List X) {x y : X} → Chain joined xs x y → (k : List X) → In k (classes joined xs) → In x k → In y k
  chain_stays xs here k i u = u
  chain_stays xs {x = x} (step {y = y} h j c) k i u =
      let r = in_class xs y j in
      chain_stays xs c k i (elim (apart xs k r.0 i r.1) [
        | inl e ↦ subst (λ l. In y l) (sym e) r.2
        | inr f ↦ absurd (true≢false (sym h ∙ f x y u r.2))
      ])
