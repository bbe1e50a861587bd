-- Laws of symmetric differences, spans and ranks.
use Rattle.std.specs.Prelude.{not}
use Rattle.std.proofs.Common.{◌≡◌, ℕ, ◌+◌, Bool, true, false, ◌&&◌, ◌||◌, cond, List, [], ◌∷◌, ◌++◌, map, refl, sym, ap, ◌∙◌, ◌⊎◌, inl, inr}
use Rattle.std.specs.Ordering.{nat_cmp, eq_by_cmp}
use Rattle.std.specs.declared.cmp.Ordering.{Ordering}
use Rattle.std.specs.Cmp.{IsTotalOrder}
use Rattle.std.specs.FinMap.{IsAntisymmetric, nat_cmp-IsAntisymmetric}
use Rattle.std.proofs.lemmas.Cmp.{nat_cmp_total}
use Rattle.std.specs.List.{filter}
use Rattle.simplex.specs.InOrder.{is_member}
use Rattle.simplex.proofs.InOrderLaws.{is_increasing-in_order, is_member-in_order, itself, same_members, equal_is}
use Rattle.gf2_rank.specs.Span.{is_empty, difference, is_in_span, rank}
use Rattle.gf2_rank.specs.Elimination.{cleared}

-- exactly one of the two
abbrev pub odd : Bool → Bool → Bool
odd true b = not b
odd false b = b

odd_is : (a b : Bool) → ((not b && a) || (not a && b)) ≡ odd a b
odd_is true true = refl
odd_is true false = refl
odd_is false true = refl
odd_is false false = refl

odd_turn : (a b c : Bool) → odd (odd a b) c ≡ odd (odd a c) b
odd_turn true true true = refl
odd_turn true true false = refl
odd_turn true false true = refl
odd_turn true false false = refl
odd_turn false true true = refl
odd_turn false true false = refl
odd_turn false false true = refl
odd_turn false false false = refl

odd_assoc : (a b c : Bool) → odd (odd a b) c ≡ odd a (odd b c)
odd_assoc true true true = refl
odd_assoc true true false = refl
odd_assoc true false true = refl
odd_assoc true false false = refl
odd_assoc false b c = refl

odd_both : (a b c : Bool) → odd a b ≡ odd (odd a c) (odd b c)
odd_both true true true = refl
odd_both true true false = refl
odd_both true false true = refl
odd_both true false false = refl
odd_both false true true = refl
odd_both false true false = refl
odd_both false false true = refl
odd_both false false false = refl

or_assoc : (a b c : Bool) → (a || (b || c)) ≡ ((a || b) || c)
or_assoc true b c = refl
or_assoc false b c = refl

or_false : (a : Bool) → (a || false) ≡ a
or_false true = refl
or_false false = refl

and_false : (a : Bool) → (a && false) ≡ false
and_false true = refl
and_false false = refl

kept : (a e m f : Bool) → f ≡ (a && m) → (e ≡ true → a ≡ true) → (e || f) ≡ (a && (e || m))
kept a true m f h k = sym (ap (λ v. v && true) (k refl))
kept a false m f h k = h

gone : (a e m f : Bool) → f ≡ (a && m) → (e ≡ true → a ≡ false) → f ≡ (a && (e || m))
gone a true m f h k = h ∙ ap (λ v. v && m) (k refl) ∙ sym (ap (λ v. v && true) (k refl))
gone a false m f h k = h

one_more : (v : Bool) (n : ℕ) → cond v (n + 1) (n + 1 + 1) ≡ cond v n (n + 1) + 1
one_more true n = refl
one_more false n = refl

module _ {X : Type 0} {cmp : X → X → Ordering} (o : IsTotalOrder cmp) (exact : IsAntisymmetric cmp) where
  pub is_member-append : (q : X) (xs ys : List X) → is_member cmp q (xs ++ ys) ≡ (is_member cmp q xs || is_member cmp q ys)
  is_member-append q [] ys = refl
  is_member-append q (x ∷ xs) ys = ap (λ b. eq_by_cmp cmp q x || b) (is_member-append q xs ys) ∙ or_assoc (eq_by_cmp cmp q x) (is_member cmp q xs) (is_member cmp q ys)

  pub is_member-filter : (p : X → Bool) (q : X) (xs : List X) → is_member cmp q (filter p xs) ≡ (p q && is_member cmp q xs)
  is_member-filter p q [] = sym (and_false (p q))
  is_member-filter p q (x ∷ xs) =
      elim (p x) as (λ v. p x ≡ v → is_member cmp q (cond v (x ∷ filter p xs) (filter p xs)) ≡ (p q && (eq_by_cmp cmp q x || is_member cmp q xs))) [
        | true ↦ λ e. kept (p q) (eq_by_cmp cmp q x) (is_member cmp q xs) (is_member cmp q (filter p xs)) (is_member-filter p q xs) (λ t. ap p (exact q x (equal_is (cmp q x) t)) ∙ e)
        | false ↦ λ e. gone (p q) (eq_by_cmp cmp q x) (is_member cmp q xs) (is_member cmp q (filter p xs)) (is_member-filter p q xs) (λ t. ap p (exact q x (equal_is (cmp q x) t)) ∙ e)
      ] refl

  pub is_member-difference : (q : X) (s t : List X) → is_member cmp q (difference cmp s t) ≡ odd (is_member cmp q s) (is_member cmp q t)
  is_member-difference q s t =
      let p : X → Bool = λ x. not (is_member cmp x t) in
      let r : X → Bool = λ x. not (is_member cmp x s) in
      is_member-in_order o q (filter p s ++ filter r t)
      ∙ is_member-append q (filter p s) (filter r t)
      ∙ ap (λ v. v || is_member cmp q (filter r t)) (is_member-filter p q s)
      ∙ ap (λ v. (p q && is_member cmp q s) || v) (is_member-filter r q t)
      ∙ odd_is (is_member cmp q s) (is_member cmp q t)

  pub same_differences : (s t u v : List X) → ((q : X) → is_member cmp q (difference cmp s t) ≡ is_member cmp q (difference cmp u v)) → difference cmp s t ≡ difference cmp u v
  same_differences s t u v h =
      same_members o exact (difference cmp s t) (difference cmp u v)
      (is_increasing-in_order o (filter (λ x. not (is_member cmp x t)) s ++ filter (λ x. not (is_member cmp x s)) t))
      (is_increasing-in_order o (filter (λ x. not (is_member cmp x v)) u ++ filter (λ x. not (is_member cmp x u)) v)) h

  of_left : (q : X) (s t u : List X) → is_member cmp q (difference cmp (difference cmp s t) u) ≡ odd (odd (is_member cmp q s) (is_member cmp q t)) (is_member cmp q u)
  of_left q s t u = is_member-difference q (difference cmp s t) u ∙ ap (λ v. odd v (is_member cmp q u)) (is_member-difference q s t)

  of_right : (q : X) (s t u : List X) → is_member cmp q (difference cmp s (difference cmp t u)) ≡ odd (is_member cmp q s) (odd (is_member cmp q t) (is_member cmp q u))
  of_right q s t u = is_member-difference q s (difference cmp t u) ∙ ap (λ v. odd (is_member cmp q s) v) (is_member-difference q t u)

  pub difference_turn : (s t u : List X) → difference cmp (difference cmp s t) u ≡ difference cmp (difference cmp s u) t
  difference_turn s t u =
      same_differences (difference cmp s t) u (difference cmp s u) t
      (λ q. of_left q s t u ∙ odd_turn (is_member cmp q s) (is_member cmp q t) (is_member cmp q u) ∙ sym (of_left q s u t))

  pub difference_assoc : (s t u : List X) → difference cmp (difference cmp s t) u ≡ difference cmp s (difference cmp t u)
  difference_assoc s t u =
      same_differences (difference cmp s t) u s (difference cmp t u)
      (λ q. of_left q s t u ∙ odd_assoc (is_member cmp q s) (is_member cmp q t) (is_member cmp q u) ∙ sym (of_right q s t u))

  pub difference_both : (s t u : List X) → difference cmp s t ≡ difference cmp (difference cmp s u) (difference cmp t u)
  difference_both s t u =
      same_differences s t (difference cmp s u) (difference cmp t u)
      (λ q. is_member-difference q s t ∙ odd_both (is_member cmp q s) (is_member cmp q t) (is_member cmp q u)
      ∙ sym (of_right q (difference cmp s u) t u ∙ ap (λ v. odd v (odd (is_member cmp q t) (is_member cmp q u))) (is_member-difference q s u)))

  -- to clear a place is linear
  cleared-difference : (p : X) (u t f : List X) → cleared cmp p u (difference cmp t f) ≡ difference cmp (cleared cmp p u t) (cleared cmp p u f)
  cleared-difference p u t f =
      ap (λ v. cond v (difference cmp (difference cmp t f) u) (difference cmp t f)) (is_member-difference p t f) ∙ by_cases (is_member cmp p t) (is_member cmp p f)
    where
      by_cases : (a b : Bool) → cond (odd a b) (difference cmp (difference cmp t f) u) (difference cmp t f) ≡ difference cmp (cond a (difference cmp t u) t) (cond b (difference cmp f u) f)
      by_cases true true = difference_both t f u
      by_cases true false = difference_turn t f u
      by_cases false true = difference_assoc t f u
      by_cases false false = refl

  pub filled : (p : X) (t : List X) → is_member cmp p t ≡ true → is_empty t ≡ false
  filled p [] h = cc
  filled p (x ∷ t) h = refl

  -- the span of sets of which the last has the place, with the place cleared
  span-pivot : (p : X) (u : List X) → is_member cmp p u ≡ true → (front : List (List X)) (t : List X)
      → is_in_span cmp (front ++ u ∷ []) t ≡ is_in_span cmp (map (cleared cmp p u) front) (cleared cmp p u t)
  span-pivot p u h [] t =
      elim (is_member cmp p t) as (λ v. is_member cmp p t ≡ v → (is_empty t || is_empty (difference cmp t u)) ≡ is_empty (cond v (difference cmp t u) t)) [
        | true ↦ λ e. ap (λ v. v || is_empty (difference cmp t u)) (filled p t e)
        | false ↦ λ e. ap (λ v. is_empty t || v) (filled p (difference cmp t u) (is_member-difference p t u ∙ ap (λ v. odd v (is_member cmp p u)) e ∙ h)) ∙ or_false (is_empty t)
      ] refl
  span-pivot p u h (f ∷ front) t =
      ap (λ v. v || is_in_span cmp (front ++ u ∷ []) (difference cmp t f)) (span-pivot p u h front t)
      ∙ ap (λ v. is_in_span cmp (map (cleared cmp p u) front) (cleared cmp p u t) || v)
      (span-pivot p u h front (difference cmp t f) ∙ ap (is_in_span cmp (map (cleared cmp p u) front)) (cleared-difference p u t f))

  -- a last set that has the place counts one, and the others count with the place cleared
  pub rank-pivot : (p : X) (u : List X) → is_member cmp p u ≡ true → (front : List (List X)) → rank cmp (front ++ u ∷ []) ≡ rank cmp (map (cleared cmp p u) front) + 1
  rank-pivot p u h [] = ap (λ v. cond v 0 (0 + 1)) (filled p u h)
  rank-pivot p u h (f ∷ front) =
      let n : ℕ = rank cmp (map (cleared cmp p u) front) in
      ap (λ v. cond v (rank cmp (front ++ u ∷ [])) (rank cmp (front ++ u ∷ []) + 1)) (span-pivot p u h front f)
      ∙ ap (λ m. cond (is_in_span cmp (map (cleared cmp p u) front) (cleared cmp p u f)) m (m + 1)) (rank-pivot p u h front)
      ∙ one_more (is_in_span cmp (map (cleared cmp p u) front) (cleared cmp p u f)) n

  -- an empty set at the end counts none
  span-empty : (front : List (List X)) (t : List X) → is_in_span cmp (front ++ [] ∷ []) t ≡ is_in_span cmp front t
  span-empty [] [] = refl
  span-empty [] (x ∷ t) = filled x (difference cmp (x ∷ t) []) (is_member-difference x (x ∷ t) [] ∙ ap (λ v. odd (v || is_member cmp x t) false) (itself o x))
  span-empty (f ∷ front) t =
      ap (λ v. v || is_in_span cmp (front ++ [] ∷ []) (difference cmp t f)) (span-empty front t) ∙ ap (λ v. is_in_span cmp front t || v) (span-empty front (difference cmp t f))

  pub rank-empty : (front : List (List X)) → rank cmp (front ++ [] ∷ []) ≡ rank cmp front
  rank-empty [] = refl
  rank-empty (f ∷ front) =
      ap (λ v. cond v (rank cmp (front ++ [] ∷ [])) (rank cmp (front ++ [] ∷ []) + 1)) (span-empty front f) ∙ ap (λ m. cond (is_in_span cmp front f) m (m + 1)) (rank-empty front)

pub odd_comm : (a b : Bool) → odd a b ≡ odd b a
odd_comm true true = refl
odd_comm true false = refl
odd_comm false true = refl
odd_comm false false = refl

pub odd_some : (a b : Bool) → odd a b ≡ true → (a ≡ true) ⊎ (b ≡ true)
odd_some true b h = inl refl
odd_some false b h = inr h

pub number_difference : (q : ℕ) (s t : List ℕ) → is_member nat_cmp q (difference nat_cmp s t) ≡ odd (is_member nat_cmp q s) (is_member nat_cmp q t)
number_difference q s t = is_member-difference nat_cmp_total nat_cmp-IsAntisymmetric q s t
