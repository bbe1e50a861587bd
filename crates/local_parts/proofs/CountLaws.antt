-- The number of classes is that of the members that stand for their class.
use Rattle.std.proofs.Common.{◌≡◌, ℕ, ◌+◌, Bool, true, false, not, cond, ◌||◌, eqb, List, [], ◌∷◌, ◌++◌, map, length, refl, sym, ap, ◌∙◌, subst, inl, inr, arith}
use Rattle.std.specs.List.{list_any, filter, flat_map}
use Rattle.simplex.specs.Members.{In, first, later}
use Rattle.simplex.proofs.Members.{cases, none, in_left}
use Rattle.simplex.proofs.Decided.{false_from, equal_at, equal_from}
use Rattle.facet_set.specs.Connection.{Chain, here, step, classes}
use Rattle.facet_set.specs.ClassLaws.{IsOnce}
use Rattle.facet_set.proofs.ClassLaws.{from_class, chain_in, chain_stays}
use Rattle.facet_set.proofs.OnceLaws.{class_members_lem}

abbrev one_if : Bool → ℕ
one_if b = cond b 1 0

abbrev joint : List (List ℕ) → List ℕ
joint ks = flat_map (λ k. k) ks

-- ---- how many members pass the test p
module _ (p : ℕ → Bool) where
  abbrev count : List ℕ → ℕ
  count xs = length (filter p xs)

  count_more : (x : ℕ) (xs : List ℕ) → length (filter p (x ∷ xs)) ≡ one_if (p x) + length (filter p xs)
  count_more x xs = elim (p x) as (λ v. length (cond v (x ∷ filter p xs) (filter p xs)) ≡ one_if v + length (filter p xs)) [ true ↦ omega arith | false ↦ omega arith ]

  count_append : (xs ys : List ℕ) → length (filter p (xs ++ ys)) ≡ length (filter p xs) + length (filter p ys)
  count_append [] ys = omega arith
  count_append (x ∷ xs) ys = omega (arith, count_more x (xs ++ ys), count_more x xs, count_append xs ys)

  count_parted : (q : List ℕ → Bool) (ks : List (List ℕ)) → length (filter p (joint (filter q ks))) + length (filter p (joint (filter (λ k. not (q k)) ks))) ≡ length (filter p (joint ks))
  count_parted q [] = refl
  count_parted q (k ∷ ks) =
      let F = joint (filter q ks) in
      let G = joint (filter (λ l. not (q l)) ks) in
      elim (q k) as (λ v. length (filter p (joint (cond v (k ∷ filter q ks) (filter q ks)))) + length (filter p (joint (cond (not v) (k ∷ filter (λ l. not (q l)) ks) (filter (λ l. not (q l)) ks)))) ≡ length (filter p (k ++ joint ks))) [
        | true ↦ omega (arith, count_append k F, count_append k (joint ks), count_parted q ks)
        | false ↦ omega (arith, count_append k G, count_append k (joint ks), count_parted q ks)
      ]

  count_joint : (joined : ℕ → ℕ → Bool) (xs : List ℕ) → length (filter p (joint (classes joined xs))) ≡ length (filter p xs)
  count_joint joined [] = refl
  count_joint joined (a ∷ xs) =
      let F = joint (filter (λ k. list_any (joined a) k) (classes joined xs)) in
      let G = joint (filter (λ k. not (list_any (joined a) k)) (classes joined xs)) in
      omega (arith, count_more a (F ++ G), count_append F G, count_parted (λ k. list_any (joined a) k) (classes joined xs), count_joint joined xs, count_more a xs)

  none_passes : (k : List ℕ) → ((z : ℕ) → In z k → p z ≡ false) → length (filter p k) ≡ 0
  none_passes [] f = refl
  none_passes (z ∷ k) f = count_more z k ∙ ap (λ v. one_if v + length (filter p k)) (f z first) ∙ omega (arith, none_passes k (λ y i. f y (later i)))

  one_passes : (k : List ℕ) (y : ℕ) → IsOnce ℕ k → In y k → p y ≡ true → ((z : ℕ) → In z k → p z ≡ true → z ≡ y) → length (filter p k) ≡ 1
  one_passes [] y h i e f = absurd (none y i)
  one_passes (z ∷ k) y h i e f = elim (cases i) [
    | inl g ↦
        let rest = none_passes k (λ x j. false_from (p x) (λ t. h.0 (subst (λ w. In w k) (f x (later j) t ∙ g) j))) in
        count_more z k ∙ ap (λ v. one_if v + length (filter p k)) (ap p (sym g) ∙ e) ∙ omega (arith, rest)
    | inr j ↦
        let rest = one_passes k y h.1 j e (λ x m t. f x (later m) t) in
        count_more z k ∙ ap (λ v. one_if v + length (filter p k)) (false_from (p z) (λ t. h.0 (subst (λ w. In w k) (sym (f z first t)) j))) ∙ omega (arith, rest)
  ]

  count_ones : (ks : List (List ℕ)) → ((k : List ℕ) → In k ks → length (filter p k) ≡ 1) → length (filter p (joint ks)) ≡ length ks
  count_ones [] f = refl
  count_ones (k ∷ ks) f = omega (arith, count_append k (joint ks), f k first, count_ones ks (λ l i. f l (later i)))

once_left : (xs ys : List ℕ) → IsOnce ℕ (xs ++ ys) → IsOnce ℕ xs
once_left [] ys h = tt
once_left (x ∷ xs) ys h = (λ i. h.0 (in_left x xs ys i), once_left xs ys h.1)

once_right : (xs ys : List ℕ) → IsOnce ℕ (xs ++ ys) → IsOnce ℕ ys
once_right [] ys h = h
once_right (x ∷ xs) ys h = once_right xs ys h.1

once_class : (ks : List (List ℕ)) (k : List ℕ) → In k ks → IsOnce ℕ (joint ks) → IsOnce ℕ k
once_class [] k i h = absurd (none k i)
once_class (l ∷ ks) k i h = elim (cases i) [
  | inl e ↦ subst (λ m. IsOnce ℕ m) (sym e) (once_left l (joint ks) h)
  | inr j ↦ once_class ks k j (once_right l (joint ks) h)
]

-- f gives each member one of its class that stands for the class
pub record StandsFor (joined : ℕ → ℕ → Bool) (xs : List ℕ) (f : ℕ → ℕ) : Type 0 where
  pub chained : (x : ℕ) → In x xs → Chain joined xs x (f x)
  pub same : (x y : ℕ) → In x xs → In y xs → joined x y ≡ true → f x ≡ f y
  pub fixed : (x : ℕ) → In x xs → f (f x) ≡ f x

same_along : (joined : ℕ → ℕ → Bool) (xs : List ℕ) (f : ℕ → ℕ) → ((x y : ℕ) → In x xs → In y xs → joined x y ≡ true → f x ≡ f y) → {x z : ℕ} → Chain joined xs x z → In x xs → f x ≡ f z
same_along joined xs f h here i = refl
same_along joined xs f h {x = x} (step {y = y} e j c) i = h x y i j e ∙ same_along joined xs f h c j

pub classes_are : (joined : ℕ → ℕ → Bool) → ((x y : ℕ) → joined x y ≡ joined y x) → (xs : List ℕ) (f : ℕ → ℕ) → IsOnce ℕ xs → StandsFor joined xs f → length (classes joined xs) ≡ length (filter (λ x. eqb (f x) x) xs)
classes_are joined even xs f once s =
    let members = class_members_lem joined xs in
    sym (count_ones (λ x. eqb (f x) x) (classes joined xs) (λ k i.
    let m = members.0 k i in
    let within = from_class joined even xs k m.0 i m.1 in
    one_passes (λ x. eqb (f x) x) k (f m.0) (once_class (classes joined xs) k i (members.1 once))
    (chain_stays joined even xs (s.chained m.0 within) k i m.1)
    (equal_from (f (f m.0)) (f m.0) (s.fixed m.0 within))
    (λ z j t. sym (equal_at (f z) z t) ∙ sym (same_along joined xs f s.same (chain_in joined even xs k m.0 z i m.1 j) within))))
    ∙ count_joint (λ x. eqb (f x) x) joined xs

-- ---- classes of what stands at the places of a list

module _ {X Y : Type 0} (g : X → Y) where
  any_map : (p : Y → Bool) (k : List X) → list_any p (map g k) ≡ list_any (λ x. p (g x)) k
  any_map p [] = refl
  any_map p (x ∷ k) = λ i. p (g x) || any_map p k i

  filter_map : (q : List Y → Bool) (r : List X → Bool) → ((k : List X) → q (map g k) ≡ r k) → (ks : List (List X)) → filter q (map (map g) ks) ≡ map (map g) (filter r ks)
  filter_map q r h [] = refl
  filter_map q r h (k ∷ ks) =
      ap (λ v. cond v (map g k ∷ filter q (map (map g) ks)) (filter q (map (map g) ks))) (h k)
      ∙ ap (λ l. cond (r k) (map g k ∷ l) l) (filter_map q r h ks)
      ∙ elim (r k) as (λ v. cond v (map g k ∷ map (map g) (filter r ks)) (map (map g) (filter r ks)) ≡ map (map g) (cond v (k ∷ filter r ks) (filter r ks))) [ true ↦ refl | false ↦ refl ]

  map_append : (xs ys : List X) → map g (xs ++ ys) ≡ map g xs ++ map g ys
  map_append [] ys = refl
  map_append (x ∷ xs) ys = ap (λ l. g x ∷ l) (map_append xs ys)

  joint_map : (ks : List (List X)) → flat_map (λ k. k) (map (map g) ks) ≡ map g (flat_map (λ k. k) ks)
  joint_map [] = refl
  joint_map (k ∷ ks) = ap (λ l. map g k ++ l) (joint_map ks) ∙ sym (map_append k (flat_map (λ k. k) ks))

  classes_map : (joined : Y → Y → Bool) (xs : List X) → classes joined (map g xs) ≡ map (map g) (classes (λ a b. joined (g a) (g b)) xs)
  classes_map joined [] = refl
  classes_map joined (a ∷ xs) =
      let ks = classes (λ a b. joined (g a) (g b)) xs in
      let near : filter (λ k. list_any (joined (g a)) k) (map (map g) ks) ≡ map (map g) (filter (λ k. list_any (λ b. joined (g a) (g b)) k) ks) =
      filter_map (λ k. list_any (joined (g a)) k) (λ k. list_any (λ b. joined (g a) (g b)) k) (λ k. any_map (joined (g a)) k) ks in
      let far : filter (λ k. not (list_any (joined (g a)) k)) (map (map g) ks) ≡ map (map g) (filter (λ k. not (list_any (λ b. joined (g a) (g b)) k)) ks) =
      filter_map (λ k. not (list_any (joined (g a)) k)) (λ k. not (list_any (λ b. joined (g a) (g b)) k)) (λ k. ap not (any_map (joined (g a)) k)) ks in
      ap (λ l. (g a ∷ flat_map (λ k. k) (filter (λ k. list_any (joined (g a)) k) l)) ∷ filter (λ k. not (list_any (joined (g a)) k)) l) (classes_map joined xs)
      ∙ ap (λ l. (g a ∷ flat_map (λ k. k) l) ∷ filter (λ k. not (list_any (joined (g a)) k)) (map (map g) ks)) near
      ∙ ap (λ l. (g a ∷ l) ∷ filter (λ k. not (list_any (joined (g a)) k)) (map (map g) ks)) (joint_map (filter (λ k. list_any (λ b. joined (g a) (g b)) k) ks))
      ∙ ap (λ l. (g a ∷ map g (flat_map (λ k. k) (filter (λ k. list_any (λ b. joined (g a) (g b)) k) ks))) ∷ l) far

  length_map : {Z W : Type 0} (f : Z → W) (xs : List Z) → length (map f xs) ≡ length xs
  length_map f [] = refl
  length_map f (x ∷ xs) = omega (arith, length_map f xs)

  pub classes_at : (joined : Y → Y → Bool) (xs : List X) → length (classes joined (map g xs)) ≡ length (classes (λ a b. joined (g a) (g b)) xs)
  classes_at joined xs = ap length (classes_map joined xs) ∙ length_map (map g) (classes (λ a b. joined (g a) (g b)) xs)
