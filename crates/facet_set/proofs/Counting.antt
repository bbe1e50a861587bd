-- How many members increasing lists have.
use Rattle.std.proofs.Common.{◌≡◌, ℕ, suc, ◌+◌, ◌≤◌, ◌++◌, length-append, true, List, [], ◌∷◌, length, refl, sym, ap, ◌∙◌, subst, inl, inr, arith}
use Rattle.std.specs.Ordering.{is_lt, match_ordering, nat_cmp}
use Rattle.simplex.specs.Simplex.{union}
use Rattle.std.specs.declared.cmp.Ordering.{Ordering}
use Rattle.std.specs.declared.cmp.Ordering.TheVariants.{Less, Equal, Greater}
use Rattle.std.specs.Cmp.{IsTotalOrder}
use Rattle.std.specs.List.{list_all}
use Rattle.std.specs.FinMap.{IsAntisymmetric}
use Rattle.std.proofs.lemmas.Cmp.{tied_itself}
use Rattle.simplex.specs.InOrder.{is_increasing, put, in_order}
use Rattle.simplex.proofs.InOrderLaws.{and_left, and_right, less_is}
use Rattle.simplex.proofs.Members.{In, first, later, cases, at_head, all_at}

module _ {X : Type 0} {cmp : X → X → Ordering} (o : IsTotalOrder cmp) (exact : IsAntisymmetric cmp) where
  rest_up : (x : X) (xs : List X) → is_increasing cmp (x ∷ xs) ≡ true → is_increasing cmp xs ≡ true
  rest_up x xs h = and_right (list_all (λ z. is_lt (cmp x z)) xs) _ h

  above : (x : X) (xs : List X) (y : X) → is_increasing cmp (x ∷ xs) ≡ true → In y xs → cmp x y ≡ Less
  above x xs y h i = less_is _ (all_at (λ z. is_lt (cmp x z)) y xs (and_left _ _ h) i)

  not_below : (x : X) → cmp x x ≡ Less → ⊥
  not_below x h = let e : cmp x x ≡ Equal = tied_itself o x in cc

  -- an increasing list within another with as many members is that one
  pub same_count : (xs ys : List X) → is_increasing cmp xs ≡ true → is_increasing cmp ys ≡ true → ((x : X) → In x xs → In x ys) → length xs ≡ length ys → xs ≡ ys
  same_count [] [] h k f n = refl
  same_count [] (y ∷ ys) h k f n = absurd (omega arith)
  same_count (x ∷ xs) [] h k f n = absurd (omega arith)
  same_count (x ∷ xs) (y ∷ ys) h k f n =
      let rest : xs ≡ ys = same_count xs ys (rest_up x xs h) (rest_up y ys k) (λ z i. elim (cases (f z (later i))) [ inl e ↦ absurd (low z i e) | inr j ↦ j ]) (omega arith) in
      elim (cases (f x first)) [
        | inl e ↦ λ i. e i ∷ rest i
        | inr j ↦ absurd (not_below x (above x xs x h (subst (λ l. In x l) (sym rest) j)))
      ]
    where
      low : (z : X) → In z xs → z ≡ y → ⊥
      low z i e = elim (cases (f x first)) [
        | inl g ↦ not_below x (subst (λ w. cmp x w ≡ Less) (e ∙ sym g) (above x xs z h i))
        | inr j ↦ not_below x (o.trans x z x (above x xs z h i) (subst (λ w. cmp w x ≡ Less) (sym e) (above y ys x k j)))
      ]

  -- what is new makes a list in order longer by one
  pub count-put : (x : X) (ys : List X) → (In x ys → ⊥) → length (put cmp x ys) ≡ suc (length ys)
  count-put x [] f = refl
  count-put x (y ∷ ys) f =
      elim (cmp x y) as (λ r. cmp x y ≡ r → length (match_ordering r (x ∷ y ∷ ys) (y ∷ ys) (y ∷ put cmp x ys)) ≡ suc (suc (length ys))) [
        | Less ↦ λ e. refl
        | Equal ↦ λ e. absurd (f (at_head x y ys (exact x y e)))
        | Greater ↦ λ e. ap suc (count-put x ys (λ i. f (later i)))
      ] refl

-- putting a list in order makes it no longer
module _ {X : Type 0} (cmp : X → X → Ordering) where
  most-put : (x : X) (ys : List X) → length (put cmp x ys) ≤ suc (length ys)
  most-put x [] = omega arith
  most-put x (y ∷ ys) =
      elim (cmp x y) as (λ r. length (match_ordering r (x ∷ y ∷ ys) (y ∷ ys) (y ∷ put cmp x ys)) ≤ suc (suc (length ys))) [
        | Less ↦ omega arith
        | Equal ↦ omega arith
        | Greater ↦ let m = most-put x ys in omega arith
      ]

  pub most-in_order : (xs : List X) → length (in_order cmp xs) ≤ length xs
  most-in_order [] = omega arith
  most-in_order (x ∷ xs) = let m = most-in_order xs in let n = most-put x (in_order cmp xs) in omega arith

-- a union has no more labels than both sets together
pub most-union : (s t : List ℕ) → length (union s t) ≤ length s + length t
most-union s t = let m = most-in_order nat_cmp (s ++ t) in omega (arith, length-append s t)
