-- Membership in a list, as a fact to recur on.
use Rattle.std.proofs.Common.{◌≡◌, ℕ, zero, suc, ◌<◌, length, get_or, arith, Bool, true, false, cond, ◌||◌, List, [], ◌∷◌, ◌++◌, map, refl, sym, ap, ◌∙◌, subst, ◌⊎◌, inl, inr}
use mathlib.Core.Bool.{true≢false}
use Rattle.std.specs.Ordering.{is_eq, eq_by_cmp}
use Rattle.std.specs.declared.cmp.Ordering.{Ordering}
use Rattle.std.specs.declared.cmp.Ordering.TheVariants.{Less, Equal, Greater}
use Rattle.std.specs.Cmp.{IsTotalOrder}
use Rattle.std.specs.List.{list_any, list_all, filter, flat_map, Contains}
use Rattle.std.specs.FinMap.{IsAntisymmetric}
use Rattle.simplex.specs.InOrder.{is_member, is_increasing, in_order}
use Rattle.simplex.proofs.InOrderLaws.{and_left, and_right, and_both, is_member-in_order, itself, same_members, is_increasing-in_order}
pub use Rattle.simplex.specs.Members.{In, first, later}

module _ {X : Type 0} where
  pub cases : {x y : X} {ys : List X} → In x (y ∷ ys) → (x ≡ y) ⊎ In x ys
  cases first = inl refl
  cases (later i) = inr i

  pub at_head : (x y : X) (ys : List X) → x ≡ y → In x (y ∷ ys)
  at_head x y ys e = subst (λ z. In x (z ∷ ys)) e first

  pub none : (x : X) → In x [] → ⊥
  none x i = elim i [ ]

  pub any_from : (p : X → Bool) (x : X) (xs : List X) → In x xs → p x ≡ true → list_any p xs ≡ true
  any_from p x [] i h = absurd (none x i)
  any_from p x (y ∷ xs) i h = elim (cases i) [ inl e ↦ ap (λ b. b || list_any p xs) (ap p (sym e) ∙ h) | inr j ↦ or_right (p y) (list_any p xs) (any_from p x xs j h) ]
    where
      or_right : (a b : Bool) → b ≡ true → (a || b) ≡ true
      or_right true b h = refl
      or_right false b h = h

  pub any_at : (p : X → Bool) (xs : List X) → list_any p xs ≡ true → (x : X) × In x xs × (p x ≡ true)
  any_at p [] h = cc
  any_at p (x ∷ xs) h =
      elim (p x) as (λ v. p x ≡ v → (v || list_any p xs) ≡ true → (y : X) × In y (x ∷ xs) × (p y ≡ true)) [
        | true ↦ λ e k. (x, first, e)
        | false ↦ λ e k. let r = any_at p xs k in (r.0, later r.1, r.2)
      ] refl h

  pub all_at : (p : X → Bool) (x : X) (xs : List X) → list_all p xs ≡ true → In x xs → p x ≡ true
  all_at p x [] h i = absurd (none x i)
  all_at p x (y ∷ xs) h i = elim (cases i) [ inl e ↦ ap p e ∙ and_left _ _ h | inr j ↦ all_at p x xs (and_right (p y) _ h) j ]

  pub all_from : (p : X → Bool) (xs : List X) → ((x : X) → In x xs → p x ≡ true) → list_all p xs ≡ true
  all_from p [] f = refl
  all_from p (x ∷ xs) f = and_both _ _ (f x first) (all_from p xs (λ y i. f y (later i)))

  pub in_filter : (p : X → Bool) (x : X) (xs : List X) → In x xs → p x ≡ true → In x (filter p xs)
  in_filter p x [] i h = i
  in_filter p x (y ∷ xs) i h =
      elim (p y) as (λ v. p y ≡ v → In x (cond v (y ∷ filter p xs) (filter p xs))) [
        | true ↦ λ e. elim (cases i) [ inl f ↦ at_head x y _ f | inr j ↦ later (in_filter p x xs j h) ]
        | false ↦ λ e. elim (cases i) [ inl f ↦ absurd (true≢false (sym h ∙ ap p f ∙ e)) | inr j ↦ in_filter p x xs j h ]
      ] refl

  pub from_filter : (p : X → Bool) (x : X) (xs : List X) → In x (filter p xs) → In x xs × (p x ≡ true)
  from_filter p x [] i = absurd (none x i)
  from_filter p x (y ∷ xs) i =
      elim (p y) as (λ v. p y ≡ v → In x (cond v (y ∷ filter p xs) (filter p xs)) → In x (y ∷ xs) × (p x ≡ true)) [
        | true ↦ λ e i. elim (cases i) [ inl f ↦ (at_head x y xs f, ap p f ∙ e) | inr j ↦ let r = from_filter p x xs j in (later r.0, r.1) ]
        | false ↦ λ e i. let r = from_filter p x xs i in (later r.0, r.1)
      ] refl i

  pub in_left : (x : X) (xs ys : List X) → In x xs → In x (xs ++ ys)
  in_left x [] ys i = absurd (none x i)
  in_left x (y ∷ xs) ys i = elim (cases i) [ inl e ↦ at_head x y _ e | inr j ↦ later (in_left x xs ys j) ]

  pub in_right : (x : X) (xs ys : List X) → In x ys → In x (xs ++ ys)
  in_right x [] ys i = i
  in_right x (y ∷ xs) ys i = later (in_right x xs ys i)

  pub in_either : (x : X) (xs ys : List X) → In x (xs ++ ys) → In x xs ⊎ In x ys
  in_either x [] ys i = inr i
  in_either x (y ∷ xs) ys i = elim (cases i) [ inl e ↦ inl (at_head x y xs e) | inr j ↦ elim (in_either x xs ys j) [ inl k ↦ inl (later k) | inr k ↦ inr k ] ]

  -- std's word for membership
  in_at : (xs : List X) (k : ℕ) (x : X) → k < length xs → get_or xs k x ≡ x → In x xs
  in_at [] k x h e = absurd (omega arith)
  in_at (y ∷ xs) zero x h e = at_head x y xs (sym e)
  in_at (y ∷ xs) (suc k) x h e = later (in_at xs k x (omega arith) e)

  pub contains_in : (xs : List X) (x : X) → Contains xs x → In x xs
  contains_in xs x h = in_at xs h.0 x h.1 h.2

  pub in_contains : (xs : List X) (x : X) → In x xs → Contains xs x
  in_contains [] x i = absurd (none x i)
  in_contains (y ∷ xs) x i = elim (cases i) [ inl e ↦ (0, omega arith, sym e) | inr j ↦ let r = in_contains xs x j in (suc r.0, omega (arith, r.1), r.2) ]

module _ {X Y : Type 0} where
  pub in_map : (f : X → Y) (x : X) (xs : List X) → In x xs → In (f x) (map f xs)
  in_map f x [] i = absurd (none x i)
  in_map f x (y ∷ xs) i = elim (cases i) [ inl e ↦ at_head (f x) (f y) _ (ap f e) | inr j ↦ later (in_map f x xs j) ]

  pub from_map : (f : X → Y) (y : Y) (xs : List X) → In y (map f xs) → (x : X) × In x xs × (y ≡ f x)
  from_map f y [] i = absurd (none y i)
  from_map f y (x ∷ xs) i = elim (cases i) [ inl e ↦ (x, first, e) | inr j ↦ let r = from_map f y xs j in (r.0, later r.1, r.2) ]

  pub in_flat_map : (f : X → List Y) (x : X) (y : Y) (xs : List X) → In x xs → In y (f x) → In y (flat_map f xs)
  in_flat_map f x y [] i j = absurd (none x i)
  in_flat_map f x y (z ∷ xs) i j = elim (cases i) [ inl e ↦ in_left y (f z) _ (subst (λ w. In y (f w)) e j) | inr k ↦ in_right y (f z) _ (in_flat_map f x y xs k j) ]

  pub from_flat_map : (f : X → List Y) (y : Y) (xs : List X) → In y (flat_map f xs) → (x : X) × In x xs × In y (f x)
  from_flat_map f y [] i = absurd (none y i)
  from_flat_map f y (x ∷ xs) i = elim (in_either y (f x) (flat_map f xs) i) [ inl j ↦ (x, first, j) | inr j ↦ let r = from_flat_map f y xs j in (r.0, later r.1, r.2) ]

-- under an order that tells all values apart
module _ {X : Type 0} {cmp : X → X → Ordering} (o : IsTotalOrder cmp) (exact : IsAntisymmetric cmp) where
  pub is_member_from : (x : X) (xs : List X) → In x xs → is_member cmp x xs ≡ true
  is_member_from x xs i = any_from (eq_by_cmp cmp x) x xs i (itself o x)

  tie : (r : Ordering) → is_eq r ≡ true → r ≡ Equal
  tie Less h = cc
  tie Equal h = refl
  tie Greater h = cc

  pub is_member_at : (x : X) (xs : List X) → is_member cmp x xs ≡ true → In x xs
  is_member_at x xs h = let r = any_at (eq_by_cmp cmp x) xs h in subst (λ z. In z xs) (sym (exact x r.0 (tie _ r.2))) r.1

  pub in_order_in : (x : X) (xs : List X) → In x xs → In x (in_order cmp xs)
  in_order_in x xs i = is_member_at x _ (is_member-in_order o x xs ∙ is_member_from x xs i)

  pub from_in_order : (x : X) (xs : List X) → In x (in_order cmp xs) → In x xs
  from_in_order x xs i = is_member_at x xs (sym (is_member-in_order o x xs) ∙ is_member_from x _ i)

  agree : (v w : Bool) → (v ≡ true → w ≡ true) → (w ≡ true → v ≡ true) → v ≡ w
  agree true w f g = sym (f refl)
  agree false true f g = g refl
  agree false false f g = refl

  -- increasing lists with the same members are one
  pub same_sets : (xs ys : List X) → is_increasing cmp xs ≡ true → is_increasing cmp ys ≡ true → ((x : X) → In x xs → In x ys) → ((x : X) → In x ys → In x xs) → xs ≡ ys
  same_sets xs ys h k f g = same_members o exact xs ys h k (λ q. agree _ _ (λ a. is_member_from q ys (f q (is_member_at q xs a))) (λ a. is_member_from q xs (g q (is_member_at q ys a))))

  pub same_in_order : (xs ys : List X) → ((x : X) → In x xs → In x ys) → ((x : X) → In x ys → In x xs) → in_order cmp xs ≡ in_order cmp ys
  same_in_order xs ys f g = same_sets _ _ (is_increasing-in_order o xs) (is_increasing-in_order o ys) (λ x i. in_order_in x ys (f x (from_in_order x xs i))) (λ x i. in_order_in x xs (g x (from_in_order x ys i)))
