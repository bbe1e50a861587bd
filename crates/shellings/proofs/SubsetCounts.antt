-- How many subsets of a set with i labels contain given labels of it.
use Rattle.std.proofs.Common.{◌≡◌, ℕ, zero, suc, ◌+◌, ◌≤◌, Bool, true, false, cond, ◌&&◌, List, [], ◌∷◌, map, length, length-append, refl, sym, ap, ◌∙◌, inl, inr, arith}
use Rattle.std.specs.Prelude.{◌==◌}
use Rattle.std.specs.Ordering.{nat_cmp}
use Rattle.std.specs.List.{filter}
use Rattle.std.proofs.lemmas.Bool.Decides.{nat_tests}
use Rattle.std.proofs.lemmas.List.Elements.{filter-append}
use Rattle.simplex.specs.Binomials.{choose}
use Rattle.simplex.specs.InOrder.{is_increasing}
use Rattle.simplex.specs.Simplex.{has, is_within, subsets}
use Rattle.simplex.proofs.Decided.{agree, false_from}
use Rattle.simplex.proofs.Members.{In, first, later, cases, from_filter}
use Rattle.simplex.proofs.SimplexLaws.{has_at, has_from, within_in, in_within, above_at, rest_increasing}
use Rattle.facet_set.proofs.ComplexLaws.{from_subsets}
use Rattle.shellings.proofs.RidgeLaws.{filter-same, filter-none}

-- of the sets of i of n things, those that contain r given ones
abbrev pub above_count : ℕ → ℕ → ℕ → ℕ
above_count n zero i = choose n i
above_count zero (suc r) i = 0
above_count (suc n) (suc r) zero = 0
above_count (suc n) (suc r) (suc i) = above_count n r i

same_none : (n r : ℕ) → r ≤ n → above_count (suc n) r zero ≡ above_count n r zero
same_none n zero h = refl
same_none zero (suc r) h = absurd (omega arith)
same_none (suc n) (suc r) h = refl

-- Pascal's rule
pascal : (n r i : ℕ) → r ≤ n → above_count (suc n) r (suc i) ≡ above_count n r i + above_count n r (suc i)
pascal n zero i h = refl
pascal zero (suc r) i h = absurd (omega arith)
pascal (suc n) (suc r) zero h = let e = same_none n r (omega arith) in omega (arith, e)
pascal (suc n) (suc r) (suc i) h = pascal n r i (omega arith)

length-filter-map : {X Y : Type 0} (h : X → Y) (p : Y → Bool) (xs : List X) → length (filter p (map h xs)) ≡ length (filter (λ x. p (h x)) xs)
length-filter-map h p [] = refl
length-filter-map h p (x ∷ xs) = by (p (h x)) (length-filter-map h p xs)
  where
    by : (v : Bool) → length (filter p (map h xs)) ≡ length (filter (λ x. p (h x)) xs)
        → length (cond v (h x ∷ filter p (map h xs)) (filter p (map h xs))) ≡ length (cond v (x ∷ filter (λ x. p (h x)) xs) (filter (λ x. p (h x)) xs))
    by true e = ap suc e
    by false e = e

-- whether the set has i labels, and those of r
abbrev pub fits : ℕ → List ℕ → List ℕ → Bool
fits i r t = (length t == i) && is_within r t

none_empty : (a i : ℕ) → (suc a == zero) ≡ false
none_empty a i = grind (arith, nat_tests)

both_more : (a i : ℕ) → (suc a == suc i) ≡ (a == i)
both_more a i = grind (arith, nat_tests)

and_never : (v : Bool) → (v && false) ≡ false
and_never true = refl
and_never false = refl

-- a label below all of the others
module _ (a : ℕ) (f : List ℕ) (h : is_increasing nat_cmp (a ∷ f) ≡ true) where
  beside : (t : List ℕ) → In t (subsets f) → has t a ≡ false
  beside t i =
      let w = (from_subsets f t (rest_increasing a f h) i).1 in
      false_from (has t a) (λ k. let l = above_at a f a h (within_in t f a w (has_at t a k)) in absurd (omega arith))

  within_more : (r t : List ℕ) → is_within r f ≡ true → is_within r (a ∷ t) ≡ is_within r t
  within_more r t w = agree _ _
      (λ k. in_within r t (λ b i. elim (cases (within_in r (a ∷ t) b k i)) [ inl e ↦ (let l = above_at a f b h (within_in r f b w i) in absurd (omega arith)) | inr j ↦ j ]))
      (λ k. in_within r (a ∷ t) (λ b i. later (within_in r t b k i)))

  with_it : (r t : List ℕ) → is_within r f ≡ true → is_within (a ∷ r) (a ∷ t) ≡ is_within r t
  with_it r t w = ap (λ v. v && is_within r (a ∷ t)) (has_from (a ∷ t) a first) ∙ within_more r t w

  without_it : (r t : List ℕ) → In t (subsets f) → is_within (a ∷ r) t ≡ false
  without_it r t i = ap (λ v. v && is_within r t) (beside t i)

  split : (p : List ℕ → Bool) → length (filter p (subsets (a ∷ f))) ≡ length (filter (λ t. p (a ∷ t)) (subsets f)) + length (filter p (subsets f))
  split p =
      ap length (filter-append p (map (λ t. a ∷ t) (subsets f)) (subsets f))
      ∙ length-append (filter p (map (λ t. a ∷ t) (subsets f))) (filter p (subsets f))
      ∙ ap (λ n. n + length (filter p (subsets f))) (length-filter-map (λ t. a ∷ t) p (subsets f))

  more_given : (r : List ℕ) (i : ℕ) → is_within r f ≡ true → length (filter (fits (suc i) (a ∷ r)) (subsets (a ∷ f))) ≡ length (filter (fits i r) (subsets f))
  more_given r i w =
      let s = split (fits (suc i) (a ∷ r)) in
      let with_a = ap length (filter-same (λ t. fits (suc i) (a ∷ r) (a ∷ t)) (fits i r) (subsets f) (λ t j. ap (λ v. v && is_within (a ∷ r) (a ∷ t)) (both_more (length t) i) ∙ ap (λ v. (length t == i) && v) (with_it r t w))) in
      let out = ap length (filter-none (fits (suc i) (a ∷ r)) (subsets f) (λ t j. ap (λ v. (length t == suc i) && v) (without_it r t j) ∙ and_never (length t == suc i))) in
      omega (arith, s, with_a, out)

  none_given : (r : List ℕ) → length (filter (fits zero (a ∷ r)) (subsets (a ∷ f))) ≡ 0
  none_given r =
      let s = split (fits zero (a ∷ r)) in
      let with_a = ap length (filter-none (λ t. fits zero (a ∷ r) (a ∷ t)) (subsets f) (λ t j. ap (λ v. v && is_within (a ∷ r) (a ∷ t)) (none_empty (length t) 0))) in
      let out = ap length (filter-none (fits zero (a ∷ r)) (subsets f) (λ t j. ap (λ v. (length t == zero) && v) (without_it r t j) ∙ and_never (length t == zero))) in
      omega (arith, s, with_a, out)

  more_free : (r : List ℕ) (i : ℕ) → is_within r f ≡ true
      → length (filter (fits (suc i) r) (subsets (a ∷ f))) ≡ length (filter (fits i r) (subsets f)) + length (filter (fits (suc i) r) (subsets f))
  more_free r i w =
      let s = split (fits (suc i) r) in
      let with_a = ap length (filter-same (λ t. fits (suc i) r (a ∷ t)) (fits i r) (subsets f) (λ t j. ap (λ v. v && is_within r (a ∷ t)) (both_more (length t) i) ∙ ap (λ v. (length t == i) && v) (within_more r t w))) in
      omega (arith, s, with_a)

  none_free : (r : List ℕ) → length (filter (fits zero r) (subsets (a ∷ f))) ≡ length (filter (fits zero r) (subsets f))
  none_free r =
      let s = split (fits zero r) in
      let with_a = ap length (filter-none (λ t. fits zero r (a ∷ t)) (subsets f) (λ t j. ap (λ v. v && is_within r (a ∷ t)) (none_empty (length t) 0))) in
      omega (arith, s, with_a)

filtered_within : (p : ℕ → Bool) (f : List ℕ) → is_within (filter p f) f ≡ true
filtered_within p f = in_within (filter p f) f (λ a i. (from_filter p a f i).0)

most : (p : ℕ → Bool) (f : List ℕ) → length (filter p f) ≤ length f
most p [] = omega arith
most p (a ∷ f) = by (p a) (most p f)
  where
    by : (v : Bool) → length (filter p f) ≤ length f → length (cond v (a ∷ filter p f) (filter p f)) ≤ suc (length f)
    by true e = omega arith
    by false e = omega arith

pub subsets_above : (p : ℕ → Bool) (f : List ℕ) (i : ℕ) → is_increasing nat_cmp f ≡ true
    → length (filter (fits i (filter p f)) (subsets f)) ≡ above_count (length f) (length (filter p f)) i
subsets_above p [] zero h = refl
subsets_above p [] (suc i) h = let e : (0 == suc i) ≡ false = grind (arith, nat_tests) in ap (λ v. length {A = List ℕ} (cond (v && true) ([] ∷ []) [])) e
subsets_above p (a ∷ f) zero h = by (p a) (subsets_above p f zero (rest_increasing a f h))
  where
    by : (v : Bool) → length (filter (fits zero (filter p f)) (subsets f)) ≡ above_count (length f) (length (filter p f)) zero
        → length (filter (fits zero (cond v (a ∷ filter p f) (filter p f))) (subsets (a ∷ f))) ≡ above_count (suc (length f)) (length (cond v (a ∷ filter p f) (filter p f))) zero
    by true e = none_given a f h (filter p f)
    by false e = none_free a f h (filter p f) ∙ e ∙ sym (same_none (length f) (length (filter p f)) (most p f))
subsets_above p (a ∷ f) (suc i) h = by (p a) (subsets_above p f i (rest_increasing a f h)) (subsets_above p f (suc i) (rest_increasing a f h))
  where
    by : (v : Bool) → length (filter (fits i (filter p f)) (subsets f)) ≡ above_count (length f) (length (filter p f)) i
        → length (filter (fits (suc i) (filter p f)) (subsets f)) ≡ above_count (length f) (length (filter p f)) (suc i)
        → length (filter (fits (suc i) (cond v (a ∷ filter p f) (filter p f))) (subsets (a ∷ f))) ≡ above_count (suc (length f)) (length (cond v (a ∷ filter p f) (filter p f))) (suc i)
    by true d e = more_given a f h (filter p f) i (filtered_within p f) ∙ d
    by false d e =
        more_free a f h (filter p f) i (filtered_within p f) ∙ ap (λ n. n + length (filter (fits (suc i) (filter p f)) (subsets f))) d ∙ ap (λ n. above_count (length f) (length (filter p f)) i + n) e
        ∙ sym (pascal (length f) (length (filter p f)) i (most p f))
