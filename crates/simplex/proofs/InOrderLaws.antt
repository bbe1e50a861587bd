-- Laws of sets in increasing order.
use Rattle.std.proofs.Common.{◌≡◌, Bool, true, false, ◌&&◌, ◌||◌, List, [], ◌∷◌, refl, sym, ap, ◌∙◌, ◌⊎◌, inl, inr}
use mathlib.Core.Bool.{true≢false}
use Rattle.std.specs.Ordering.{is_lt, is_eq, eq_by_cmp, match_ordering, ordering_reverse}
use Rattle.std.specs.declared.cmp.Ordering.{Ordering}
use Rattle.std.specs.declared.cmp.Ordering.TheVariants.{Less, Equal, Greater}
use Rattle.std.specs.Cmp.{IsTotalOrder}
use Rattle.std.specs.List.{list_all}
use Rattle.std.specs.FinMap.{IsAntisymmetric}
use Rattle.std.proofs.lemmas.Cmp.{tied_itself, alike_right}
use Rattle.simplex.specs.InOrder.{is_member, is_increasing, put, in_order}

pub or_swap : (a b c : Bool) → (a || (b || c)) ≡ (b || (a || c))
or_swap true true c = refl
or_swap true false c = refl
or_swap false b c = refl

or_twice : (a b : Bool) → (a || (a || b)) ≡ (a || b)
or_twice true b = refl
or_twice false b = refl

pub and_left : (a b : Bool) → (a && b) ≡ true → a ≡ true
and_left true b h = refl
and_left false b h = h

pub and_right : (a b : Bool) → (a && b) ≡ true → b ≡ true
and_right true b h = h
and_right false b h = cc

pub and_both : (a b : Bool) → a ≡ true → b ≡ true → (a && b) ≡ true
and_both a b h k = rw (h, k) refl

pub less_is : (r : Ordering) → is_lt r ≡ true → r ≡ Less
less_is Less h = refl
less_is Equal h = cc
less_is Greater h = cc

pub equal_is : (r : Ordering) → is_eq r ≡ true → r ≡ Equal
equal_is Less h = cc
equal_is Equal h = refl
equal_is Greater h = cc

module _ {X : Type 0} (cmp : X → X → Ordering) where
  pub list_all-put : (p : X → Bool) (x : X) (ys : List X) → p x ≡ true → list_all p ys ≡ true → list_all p (put cmp x ys) ≡ true
  list_all-put p x [] h k = rw h refl
  list_all-put p x (y ∷ ys) h k =
      elim (cmp x y) as (λ r. list_all p (match_ordering r (x ∷ y ∷ ys) (y ∷ ys) (y ∷ put cmp x ys)) ≡ true) [
        | Less ↦ and_both _ _ h k
        | Equal ↦ k
        | Greater ↦ and_both _ _ (and_left _ _ k) (list_all-put p x ys h (and_right (p y) _ k))
      ]

-- what stands behind equal heads agrees
tails : (a b c : Bool) → (c ≡ true → a ≡ false) → (c ≡ true → b ≡ false) → (c || a) ≡ (c || b) → a ≡ b
tails a b true f g h = f refl ∙ sym (g refl)
tails a b false f g h = h

module _ {X : Type 0} {cmp : X → X → Ordering} (o : IsTotalOrder cmp) where
  below_all : (x y : X) (ys : List X) → cmp x y ≡ Less → list_all (λ z. is_lt (cmp y z)) ys ≡ true → list_all (λ z. is_lt (cmp x z)) ys ≡ true
  below_all x y [] h k = refl
  below_all x y (z ∷ ys) h k =
      and_both _ _ (ap is_lt (o.trans x y z h (less_is _ (and_left _ _ k)))) (below_all x y ys h (and_right (is_lt (cmp y z)) _ k))

  greater_less : (x y : X) → cmp x y ≡ Greater → cmp y x ≡ Less
  greater_less x y h = o.antisymm y x ∙ ap ordering_reverse h

  pub is_increasing-put : (x : X) (ys : List X) → is_increasing cmp ys ≡ true → is_increasing cmp (put cmp x ys) ≡ true
  is_increasing-put x [] h = refl
  is_increasing-put x (y ∷ ys) h =
      elim (cmp x y) as (λ r. cmp x y ≡ r → is_increasing cmp (match_ordering r (x ∷ y ∷ ys) (y ∷ ys) (y ∷ put cmp x ys)) ≡ true) [
        | Less ↦ λ e. and_both _ _ (and_both _ _ (ap is_lt e) (below_all x y ys e (and_left _ _ h))) h
        | Equal ↦ λ e. h
        | Greater ↦ λ e. and_both _ _ (list_all-put cmp (λ z. is_lt (cmp y z)) x ys (ap is_lt (greater_less x y e)) (and_left _ _ h)) (is_increasing-put x ys (and_right (list_all (λ z. is_lt (cmp y z)) ys) _ h))
      ] refl

  pub is_member-put : (q x : X) (ys : List X) → is_member cmp q (put cmp x ys) ≡ (eq_by_cmp cmp q x || is_member cmp q ys)
  is_member-put q x [] = refl
  is_member-put q x (y ∷ ys) =
      elim (cmp x y) as (λ r. cmp x y ≡ r → is_member cmp q (match_ordering r (x ∷ y ∷ ys) (y ∷ ys) (y ∷ put cmp x ys)) ≡ (eq_by_cmp cmp q x || (eq_by_cmp cmp q y || is_member cmp q ys))) [
        | Less ↦ λ e. refl
        | Equal ↦ λ e. sym (ap (λ b. is_eq b || (eq_by_cmp cmp q y || is_member cmp q ys)) (alike_right o x y q e) ∙ or_twice (eq_by_cmp cmp q y) (is_member cmp q ys))
        | Greater ↦ λ e. ap (λ b. eq_by_cmp cmp q y || b) (is_member-put q x ys) ∙ or_swap (eq_by_cmp cmp q y) (eq_by_cmp cmp q x) (is_member cmp q ys)
      ] refl

  -- a list in order is increasing, and keeps its members
  pub is_increasing-in_order : (xs : List X) → is_increasing cmp (in_order cmp xs) ≡ true
  is_increasing-in_order [] = refl
  is_increasing-in_order (x ∷ xs) = is_increasing-put x _ (is_increasing-in_order xs)

  pub is_member-in_order : (q : X) (xs : List X) → is_member cmp q (in_order cmp xs) ≡ is_member cmp q xs
  is_member-in_order q [] = refl
  is_member-in_order q (x ∷ xs) = is_member-put q x _ ∙ ap (λ b. eq_by_cmp cmp q x || b) (is_member-in_order q xs)

  pub itself : (x : X) → eq_by_cmp cmp x x ≡ true
  itself x = ap is_eq (tied_itself o x)

  -- what is below each member, or ties with something below each, is none
  below_none : (q x : X) (xs : List X) → list_all (λ y. is_lt (cmp x y)) xs ≡ true → (cmp q x ≡ Less) ⊎ (cmp q x ≡ Equal) → is_member cmp q xs ≡ false
  below_none q x [] h k = refl
  below_none q x (y ∷ xs) h k =
      let less : cmp q y ≡ Less = elim k [ inl e ↦ o.trans q x y e (less_is _ (and_left _ _ h)) | inr e ↦ o.congr q x y e ∙ less_is _ (and_left _ _ h) ] in
      ap (λ r. is_eq r || is_member cmp q xs) less ∙ below_none q x xs (and_right (is_lt (cmp x y)) _ h) k

  -- two increasing lists with the same members are one
  pub same_members : IsAntisymmetric cmp → (xs ys : List X) → is_increasing cmp xs ≡ true → is_increasing cmp ys ≡ true → ((q : X) → is_member cmp q xs ≡ is_member cmp q ys) → xs ≡ ys
  same_members same [] [] h k m = refl
  same_members same [] (y ∷ ys) h k m = absurd (true≢false (sym (m y ∙ ap (λ b. b || is_member cmp y ys) (itself y))))
  same_members same (x ∷ xs) [] h k m = absurd (true≢false (sym (sym (m x) ∙ ap (λ b. b || is_member cmp x xs) (itself x))))
  same_members same (x ∷ xs) (y ∷ ys) h k m =
      let xs_above : list_all (λ z. is_lt (cmp x z)) xs ≡ true = and_left _ _ h in
      let ys_above : list_all (λ z. is_lt (cmp y z)) ys ≡ true = and_left _ _ k in
      elim (cmp x y) as (λ r. cmp x y ≡ r → x ∷ xs ≡ y ∷ ys) [
        | Less ↦ λ e. absurd (true≢false (sym (ap (λ b. b || is_member cmp x xs) (itself x)) ∙ m x ∙ ap (λ r. is_eq r || is_member cmp x ys) e ∙ below_none x y ys ys_above (inl e)))
        | Equal ↦ λ e. λ i. same x y e i ∷ same_members same xs ys (and_right (list_all (λ z. is_lt (cmp x z)) xs) _ h) (and_right (list_all (λ z. is_lt (cmp y z)) ys) _ k) (λ q.
            tails _ _ (eq_by_cmp cmp q x)
            (λ t. below_none q x xs xs_above (inr (equal_is _ t)))
            (λ t. below_none q y ys ys_above (inr (equal_is _ (sym (ap is_eq (alike_right o x y q e)) ∙ t))))
            (m q ∙ sym (ap (λ r. is_eq r || is_member cmp q ys) (alike_right o x y q e)))) i
        | Greater ↦ λ e. let less = greater_less x y e in
            absurd (true≢false (sym (ap (λ b. b || is_member cmp y ys) (itself y)) ∙ sym (m y) ∙ ap (λ r. is_eq r || is_member cmp y xs) less ∙ below_none y x xs xs_above (inl less)))
      ] refl

  -- a list that is in order stays as it is
  pub in_order_again : IsAntisymmetric cmp → (xs : List X) → is_increasing cmp xs ≡ true → in_order cmp xs ≡ xs
  in_order_again same xs h = same_members same _ xs (is_increasing-in_order xs) h (λ q. is_member-in_order q xs)

  -- lists with the same members are one set
  pub in_order_same : IsAntisymmetric cmp → (xs ys : List X) → ((q : X) → is_member cmp q xs ≡ is_member cmp q ys) → in_order cmp xs ≡ in_order cmp ys
  in_order_same same xs ys m = same_members same _ _ (is_increasing-in_order xs) (is_increasing-in_order ys) (λ q. is_member-in_order q xs ∙ m q ∙ sym (is_member-in_order q ys))
