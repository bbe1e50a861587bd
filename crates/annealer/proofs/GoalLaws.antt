-- The fewest facets on a walk, and the first place that has them.
use Rattle.std.proofs.Common.{◌≡◌, ℕ, suc, ◌+◌, ◌≤◌, ◌<◌, Bool, true, false, not, cond, List, [], ◌∷◌, ◌++◌, length, min, refl, sym, ap, ◌∙◌, subst, inl, inr, arith, ltb, eqb}
use mathlib.Core.Bool.{true≢false}
use Rattle.std.specs.Prelude.{◌==◌}
use Rattle.std.specs.List.{position_or_len}
use Rattle.std.proofs.Math.Nat.{min-eq_left, min-eq_right}
use Rattle.std.proofs.lemmas.Bool.Decides.{nat_tests}
use Rattle.std.proofs.lemmas.List.Folds.{position_or_len_push}
use Rattle.simplex.specs.declared.flip.Flip.{Flip}
use Rattle.simplex.proofs.Members.{In, first, later, cases, none}
use Rattle.simplex.proofs.Decided.{equal_itself}
use Rattle.facet_set.specs.Flips.{flip, after}
use Rattle.annealer.specs.Walk.{facet_counts, least, place_of_least}

pub counts_more : (c : List (List ℕ)) (ms : List Flip) (m : Flip) → facet_counts c (ms ++ m ∷ []) ≡ facet_counts c ms ++ length (after c (ms ++ m ∷ [])) ∷ []
counts_more c [] m = refl
counts_more c (k ∷ ms) m = ap (λ l. length c ∷ l) (counts_more (flip c k.a k.b) ms m)

pub length-counts : (c : List (List ℕ)) (ms : List Flip) → length (facet_counts c ms) ≡ suc (length ms)
length-counts c [] = refl
length-counts c (m ∷ ms) = ap suc (length-counts (flip c m.a m.b) ms)

-- ---- the least number

min_is : (a b : ℕ) → min a b ≡ cond (ltb b a) b a
min_is a b = by (ltb b a) refl
  where
    by : (v : Bool) → ltb b a ≡ v → min a b ≡ cond v b a
    by true e = min-eq_right (less e)
      where
        less : ltb b a ≡ true → b ≤ a
        less e = grind (arith, nat_tests)
    by false e = min-eq_left (more e)
      where
        more : ltb b a ≡ false → a ≤ b
        more e = grind (arith, nat_tests)

min_below : (a b n : ℕ) → n ≤ a → n ≤ b → n ≤ min a b
min_below a b n h k = subst (λ m. n ≤ m) (sym (min_is a b)) (by (ltb b a))
  where
    by : (v : Bool) → n ≤ cond v b a
    by true = k
    by false = h

min_least : (a b c : ℕ) → min a (min b c) ≡ min (min a b) c
min_least a b c =
    min_is a (min b c) ∙ ap (λ m. cond (ltb m a) m a) (min_is b c) ∙ sym (min_is (min a b) c ∙ ap (λ m. cond (ltb c m) c m) (min_is a b) ∙ sym same)
  where
    same : cond (ltb (cond (ltb c b) c b) a) (cond (ltb c b) c b) a ≡ cond (ltb c (cond (ltb b a) b a)) c (cond (ltb b a) b a)
    same = grind (arith, nat_tests)

least_more : (n : ℕ) (ns : List ℕ) (k : ℕ) → least ((n ∷ ns) ++ k ∷ []) ≡ min (least (n ∷ ns)) k
least_more n [] k = refl
least_more n (m ∷ ns) k = ap (min n) (least_more m ns k) ∙ min_least n (least (m ∷ ns)) k

least_below : (x : ℕ) (ns : List ℕ) → In x ns → least ns ≤ x
least_below x [] i = absurd (none x i)
least_below x (n ∷ []) i = elim (cases i) [ inl e ↦ (let f : n ≡ x = sym e in omega arith) | inr j ↦ absurd (none x j) ]
least_below x (n ∷ m ∷ ns) i =
    elim (cases i) [
      | inl e ↦ (let f : n ≡ x = sym e in let g = left n (least (m ∷ ns)) in omega (arith, f, g))
      | inr j ↦ (let r = least_below x (m ∷ ns) j in let g = right n (least (m ∷ ns)) in omega (arith, r, g))
    ]
  where
    left : (a b : ℕ) → min a b ≤ a
    left a b = omega arith

    right : (a b : ℕ) → min a b ≤ b
    right a b = omega arith

least_in : (n : ℕ) (ns : List ℕ) → In (least (n ∷ ns)) (n ∷ ns)
least_in n [] = first
least_in n (m ∷ ns) =
    subst (λ x. In x (n ∷ m ∷ ns)) (sym (min_is n (least (m ∷ ns))))
    (elim (ltb (least (m ∷ ns)) n) as (λ v. In (cond v (least (m ∷ ns)) n) (n ∷ m ∷ ns)) [ true ↦ later (least_in m ns) | false ↦ first ])

-- ---- its first place

module _ (p : ℕ → Bool) where
  position_none : (xs : List ℕ) → ((x : ℕ) → In x xs → p x ≡ false) → position_or_len p xs ≡ length xs
  position_none [] f = refl
  position_none (x ∷ xs) f =
      ap (λ v. cond (not v) (1 + position_or_len p xs) 0) (f x first) ∙ more (position_none xs (λ y i. f y (later i)))
    where
      more : position_or_len p xs ≡ length xs → 1 + position_or_len p xs ≡ suc (length xs)
      more e = omega (arith, e)

  position_some : (x : ℕ) (xs : List ℕ) → In x xs → p x ≡ true → position_or_len p xs < length xs
  position_some x [] i h = absurd (none x i)
  position_some x (y ∷ xs) i h =
      elim (p y) as (λ v. p y ≡ v → cond (not v) (1 + position_or_len p xs) 0 < suc (length xs)) [
        | true ↦ λ e. zero_below (length xs)
        | false ↦ λ e. elim (cases i) [
          | inl f ↦ absurd (true≢false (sym h ∙ ap p f ∙ e))
          | inr j ↦ more (position_some x xs j h)
        ]
      ] refl
    where
      zero_below : (n : ℕ) → 0 < suc n
      zero_below n = omega arith

      more : position_or_len p xs < length xs → 1 + position_or_len p xs < suc (length xs)
      more h = omega (arith, h)

place_more : (n : ℕ) (ns : List ℕ) (k : ℕ) → place_of_least ((n ∷ ns) ++ k ∷ []) ≡ cond (ltb k (least (n ∷ ns))) (length (n ∷ ns)) (place_of_least (n ∷ ns))
place_more n ns k =
    let all = n ∷ ns in
    ap (λ m. position_or_len (λ x. x == m) (all ++ k ∷ [])) (least_more n ns k ∙ min_is (least all) k)
    ∙ by (ltb k (least all)) refl
  where
    found : (m : ℕ) → In m (n ∷ ns) → position_or_len (λ x. x == m) ((n ∷ ns) ++ k ∷ []) ≡ position_or_len (λ x. x == m) (n ∷ ns)
    found m i =
        position_or_len_push (λ x. x == m) (n ∷ ns) k
        ∙ ap (λ v. cond v (length (n ∷ ns) + cond (k == m) 0 1) (position_or_len (λ x. x == m) (n ∷ ns))) (differ (position_some (λ x. x == m) m (n ∷ ns) i (equal_itself m)))
      where
        differ : position_or_len (λ x. x == m) (n ∷ ns) < length (n ∷ ns) → eqb (position_or_len (λ x. x == m) (n ∷ ns)) (length (n ∷ ns)) ≡ false
        differ h = grind (arith, nat_tests)

    late : ((x : ℕ) → In x (n ∷ ns) → (x == k) ≡ false) → position_or_len (λ x. x == k) ((n ∷ ns) ++ k ∷ []) ≡ length (n ∷ ns)
    late f =
        position_or_len_push (λ x. x == k) (n ∷ ns) k
        ∙ ap (λ v. cond v (length (n ∷ ns) + cond (k == k) 0 1) (position_or_len (λ x. x == k) (n ∷ ns))) (same (position_none (λ x. x == k) (n ∷ ns) f))
        ∙ ap (λ v. length (n ∷ ns) + cond v 0 1) (equal_itself k) ∙ nothing (length (n ∷ ns))
      where
        same : position_or_len (λ x. x == k) (n ∷ ns) ≡ length (n ∷ ns) → eqb (position_or_len (λ x. x == k) (n ∷ ns)) (length (n ∷ ns)) ≡ true
        same h = grind (arith, nat_tests)

        nothing : (m : ℕ) → m + 0 ≡ m
        nothing m = omega arith

    by : (v : Bool) → ltb k (least (n ∷ ns)) ≡ v → position_or_len (λ x. x == cond v k (least (n ∷ ns))) ((n ∷ ns) ++ k ∷ []) ≡ cond v (length (n ∷ ns)) (place_of_least (n ∷ ns))
    by true e = late (λ x i. apart x (least_below x (n ∷ ns) i))
      where
        apart : (x : ℕ) → least (n ∷ ns) ≤ x → (x == k) ≡ false
        apart x h = grind (arith, nat_tests)
    by false e = found (least (n ∷ ns)) (least_in n ns)

-- ---- one more complex

module _ (c : List (List ℕ)) (ms : List Flip) (m : Flip) where
  pub fewest_more : least (facet_counts c (ms ++ m ∷ [])) ≡ cond (ltb (length (after c (ms ++ m ∷ []))) (least (facet_counts c ms))) (length (after c (ms ++ m ∷ []))) (least (facet_counts c ms))
  fewest_more = ap least (counts_more c ms m) ∙ by (facet_counts c ms) (length-counts c ms)
    where
      by : (ns : List ℕ) → length ns ≡ suc (length ms) → least (ns ++ length (after c (ms ++ m ∷ [])) ∷ []) ≡ cond (ltb (length (after c (ms ++ m ∷ []))) (least ns)) (length (after c (ms ++ m ∷ []))) (least ns)
      by [] e = absurd (omega arith)
      by (n ∷ ns) e = least_more n ns (length (after c (ms ++ m ∷ []))) ∙ min_is (least (n ∷ ns)) (length (after c (ms ++ m ∷ [])))

  pub first_more : place_of_least (facet_counts c (ms ++ m ∷ [])) ≡ cond (ltb (length (after c (ms ++ m ∷ []))) (least (facet_counts c ms))) (suc (length ms)) (place_of_least (facet_counts c ms))
  first_more = ap place_of_least (counts_more c ms m) ∙ by (facet_counts c ms) (length-counts c ms)
    where
      by : (ns : List ℕ) → length ns ≡ suc (length ms) → place_of_least (ns ++ length (after c (ms ++ m ∷ [])) ∷ []) ≡ cond (ltb (length (after c (ms ++ m ∷ []))) (least ns)) (suc (length ms)) (place_of_least ns)
      by [] e = absurd (omega arith)
      by (n ∷ ns) e = place_more n ns (length (after c (ms ++ m ∷ []))) ∙ ap (λ l. cond (ltb (length (after c (ms ++ m ∷ []))) (least (n ∷ ns))) l (place_of_least (n ∷ ns))) e
