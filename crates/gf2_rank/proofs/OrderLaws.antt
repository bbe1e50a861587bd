-- The rank does not depend on the order of the sets.
use Rattle.std.proofs.Common.{◌≡◌, ℕ, zero, suc, ◌+◌, ◌<◌, ◌≤◌, Bool, true, false, ◌||◌, cond, List, [], ◌∷◌, length, get_or, set, refl, sym, ap, ◌∙◌, arith, inl, inr}
use Rattle.std.specs.Ordering.{nat_cmp}
use Rattle.std.specs.declared.cmp.Ordering.{Ordering}
use Rattle.std.specs.Cmp.{IsTotalOrder}
use Rattle.std.specs.FinMap.{IsAntisymmetric, nat_cmp-IsAntisymmetric}
use Rattle.std.specs.List.Sorted.{IsPermutation}
use Rattle.std.proofs.lemmas.Cmp.{nat_cmp_total}
use Rattle.std.proofs.lemmas.List.Edits.{swap_is}
use Rattle.std.proofs.lemmas.List.Sorted.{IsPermutation-keeps}
use Rattle.simplex.specs.InOrder.{is_member}
use Rattle.simplex.proofs.InOrderLaws.{itself}
use Rattle.simplex.proofs.Decided.{or_left, or_right, or_cases}
use Rattle.gf2_rank.specs.Span.{is_empty, difference, is_in_span, rank}
use Rattle.gf2_rank.proofs.SpanLaws.{odd, is_member-difference, same_differences, difference_turn, difference_assoc, difference_both, odd_comm}

middle_or : (a b c d : Bool) → ((a || b) || (c || d)) ≡ ((a || c) || (b || d))
middle_or true b c d = or_true c (b || d)
  where
    or_true : (v w : Bool) → true ≡ ((true || v) || w)
    or_true v w = refl
middle_or false true true d = refl
middle_or false true false d = refl
middle_or false false c d = sym (or_again c d)
  where
    or_again : (v w : Bool) → (v || (false || w)) ≡ (v || w)
    or_again v w = refl

odd_back : (a b : Bool) → odd a (odd a b) ≡ b
odd_back true true = refl
odd_back true false = refl
odd_back false b = refl

-- where any two of three facts give the third
counts : (a b c : Bool) (n : ℕ) → (a ≡ true → c ≡ true → b ≡ true) → (b ≡ true → c ≡ true → a ≡ true)
    → cond (a || c) (cond b n (n + 1)) (cond b n (n + 1) + 1) ≡ cond (b || c) (cond a n (n + 1)) (cond a n (n + 1) + 1)
counts true true c n f g = refl
counts true false true n f g = cc (f refl refl)
counts true false false n f g = refl
counts false true true n f g = cc (g refl refl)
counts false true false n f g = refl
counts false false true n f g = refl
counts false false false n f g = refl

module _ {X : Type 0} {cmp : X → X → Ordering} (o : IsTotalOrder cmp) (exact : IsAntisymmetric cmp) where
  difference_comm : (s t : List X) → difference cmp s t ≡ difference cmp t s
  difference_comm s t = same_differences o exact s t t s (λ q. is_member-difference o exact q s t ∙ odd_comm (is_member cmp q s) (is_member cmp q t) ∙ sym (is_member-difference o exact q t s))

  -- a span sees no more of a set than its members
  empty_same : (s t : List X) → ((q : X) → is_member cmp q s ≡ is_member cmp q t) → is_empty s ≡ is_empty t
  empty_same [] [] h = refl
  empty_same [] (y ∷ t) h = cc (h y, ap (λ v. v || is_member cmp y t) (itself o y))
  empty_same (x ∷ s) [] h = cc (h x, ap (λ v. v || is_member cmp x s) (itself o x))
  empty_same (x ∷ s) (y ∷ t) h = refl

  pub span_same : (ts : List (List X)) (s t : List X) → ((q : X) → is_member cmp q s ≡ is_member cmp q t) → is_in_span cmp ts s ≡ is_in_span cmp ts t
  span_same [] s t h = empty_same s t h
  span_same (u ∷ ts) s t h =
      ap (λ v. v || is_in_span cmp ts (difference cmp s u)) (span_same ts s t h)
      ∙ ap (λ d. is_in_span cmp ts t || is_in_span cmp ts d)
      (same_differences o exact s u t u (λ q. is_member-difference o exact q s u ∙ ap (λ v. odd v (is_member cmp q u)) (h q) ∙ sym (is_member-difference o exact q t u)))

  -- the sum of two sets of a span is in it
  span_closed : (ts : List (List X)) (u v : List X) → is_in_span cmp ts u ≡ true → is_in_span cmp ts v ≡ true → is_in_span cmp ts (difference cmp u v) ≡ true
  span_closed [] [] [] h k = refl
  span_closed [] [] (y ∷ v) h k = cc
  span_closed [] (x ∷ u) v h k = cc
  span_closed (t ∷ ts) u v h k =
      let S : List X → Bool = is_in_span cmp ts in
      let d : List X → List X → List X = difference cmp in
      elim (or_cases (S u) (S (d u t)) h) [
        | inl a ↦ elim (or_cases (S v) (S (d v t)) k) [
          | inl b ↦ or_left (S (d u v)) (S (d (d u v) t)) (span_closed ts u v a b)
          | inr b ↦ or_right (S (d u v)) (S (d (d u v) t)) (ap S (difference_assoc o exact u v t) ∙ span_closed ts u (d v t) a b)
        ]
        | inr a ↦ elim (or_cases (S v) (S (d v t)) k) [
          | inl b ↦ or_right (S (d u v)) (S (d (d u v) t)) (ap S (difference_turn o exact u v t) ∙ span_closed ts (d u t) v a b)
          | inr b ↦ or_left (S (d u v)) (S (d (d u v) t)) (ap S (difference_both o exact u v t) ∙ span_closed ts (d u t) (d v t) a b)
        ]
      ]

  -- what is left of a sum in the span without one of its parts
  span_other : (ts : List (List X)) (u v : List X) → is_in_span cmp ts u ≡ true → is_in_span cmp ts (difference cmp u v) ≡ true → is_in_span cmp ts v ≡ true
  span_other ts u v h k =
      span_same ts v (difference cmp u (difference cmp u v))
      (λ q. sym (is_member-difference o exact q u (difference cmp u v) ∙ ap (odd (is_member cmp q u)) (is_member-difference o exact q u v) ∙ odd_back (is_member cmp q u) (is_member cmp q v)))
      ∙ span_closed ts u (difference cmp u v) h k

  -- lists of one span and one rank
  record IsAlike (ts us : List (List X)) : Type 0 where
    span : (s : List X) → is_in_span cmp ts s ≡ is_in_span cmp us s
    count : rank cmp ts ≡ rank cmp us

  alike_itself : (ts : List (List X)) → IsAlike ts ts
  alike_itself ts = record { span = λ s. refl; count = refl }

  alike_trans : (ts us vs : List (List X)) → IsAlike ts us → IsAlike us vs → IsAlike ts vs
  alike_trans ts us vs h k = record { span = λ s. h.span s ∙ k.span s; count = h.count ∙ k.count }

  alike_cons : (t : List X) (ts us : List (List X)) → IsAlike ts us → IsAlike (t ∷ ts) (t ∷ us)
  alike_cons t ts us h =
      record {
        span = λ s. ap (λ v. v || is_in_span cmp ts (difference cmp s t)) (h.span s) ∙ ap (λ v. is_in_span cmp us s || v) (h.span (difference cmp s t));
        count = ap (λ v. cond v (rank cmp ts) (rank cmp ts + 1)) (h.span t) ∙ ap (λ n. cond (is_in_span cmp us t) n (n + 1)) h.count;
      }

  alike_turned : (x y : List X) (ts : List (List X)) → IsAlike (x ∷ y ∷ ts) (y ∷ x ∷ ts)
  alike_turned x y ts =
      let S : List X → Bool = is_in_span cmp ts in
      let d : List X → List X → List X = difference cmp in
      let n : ℕ = rank cmp ts in
      record {
        span = λ s. middle_or (S s) (S (d s y)) (S (d s x)) (S (d (d s x) y)) ∙ ap (λ e. (S s || S (d s x)) || (S (d s y) || S e)) (difference_turn o exact s x y);
        count =
            counts (S x) (S y) (S (d x y)) n (λ a c. span_other ts x y a c) (λ b c. span_other ts y x b (ap S (difference_comm y x) ∙ c))
            ∙ ap (λ e. cond (S y || S e) (cond (S x) n (n + 1)) (cond (S x) n (n + 1) + 1)) (difference_comm x y);
      }

  alike_first : (x e : List X) (xs : List (List X)) (k : ℕ) → k < length xs → IsAlike (x ∷ xs) (get_or xs k e ∷ set xs k x)
  alike_first x e [] k h = absurd (omega arith)
  alike_first x e (y ∷ ys) zero h = alike_turned x y ys
  alike_first x e (y ∷ ys) (suc k) h =
      let g : List X = get_or ys k e in
      alike_trans (x ∷ y ∷ ys) (y ∷ x ∷ ys) (g ∷ y ∷ set ys k x) (alike_turned x y ys)
      (alike_trans (y ∷ x ∷ ys) (y ∷ g ∷ set ys k x) (g ∷ y ∷ set ys k x) (alike_cons y (x ∷ ys) (g ∷ set ys k x) (alike_first x e ys k (omega arith))) (alike_turned y g (set ys k x)))

  alike_set : (e : List X) (xs : List (List X)) (i j : ℕ) → i < length xs → j < length xs → IsAlike xs (set (set xs i (get_or xs j e)) j (get_or xs i e))
  alike_set e [] i j h k = absurd (omega arith)
  alike_set e (x ∷ xs) zero zero h k = alike_itself (x ∷ xs)
  alike_set e (x ∷ xs) zero (suc j) h k = alike_first x e xs j (omega arith)
  alike_set e (x ∷ xs) (suc i) zero h k = alike_first x e xs i (omega arith)
  alike_set e (x ∷ xs) (suc i) (suc j) h k = alike_cons x xs (set (set xs i (get_or xs j e)) j (get_or xs i e)) (alike_set e xs i j (omega arith) (omega arith))

  pub rank-permutation : (ts us : List (List X)) → IsPermutation ts us → rank cmp us ≡ rank cmp ts
  rank-permutation ts us p =
      IsPermutation-keeps ts (λ vs. rank cmp vs ≡ rank cmp ts) refl
      (λ l i j h k e. sym ((alike_set [] l i j h k).count ∙ ap (rank cmp) (swap_is l i j [] h k)) ∙ e) us p

pub order_lem : (ts us : List (List ℕ)) → IsPermutation ts us → rank nat_cmp us ≡ rank nat_cmp ts
order_lem ts us p = rank-permutation nat_cmp_total nat_cmp-IsAntisymmetric ts us p

pub columns_lem : (ts : List (List ℕ)) → rank nat_cmp ts ≤ length ts
columns_lem [] = omega arith
columns_lem (t ∷ ts) =
    let rest = columns_lem ts in
    elim (is_in_span nat_cmp ts t) as (λ v. cond v (rank nat_cmp ts) (rank nat_cmp ts + 1) ≤ length (t ∷ ts)) [ true ↦ omega arith | false ↦ omega arith ]
