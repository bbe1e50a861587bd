-- Gale's evenness condition, number by number.
use Rattle.std.proofs.Common.{◌≡◌, ℕ, zero, suc, ◌+◌, ◌%◌, ◌<◌, ◌≤◌, Bool, true, false, not, cond, ◌&&◌, ltb, eqb, List, [], ◌∷◌, map, length, refl, sym, ap, ◌∙◌, subst, inl, inr, arith, zero-add, suc-add}
use mathlib.Core.Bool.{true≢false}
use Rattle.std.specs.Prelude.{◌==◌}
use Rattle.std.specs.List.{list_all, filter, count_by, range_with_len}
use Rattle.std.specs.Ordering.{nat_cmp, is_lt, ordering_then}
use Rattle.std.specs.declared.cmp.Ordering.TheVariants.{Less}
use Rattle.std.proofs.lemmas.Cmp.{nat_cmp_total, nat_list_cmp_total, tied_itself}
use Rattle.std.proofs.lemmas.Bool.{cases_lt}
use Rattle.std.proofs.lemmas.List.Sums.{sum_by-cons}
use Rattle.std.proofs.lemmas.Bool.Decides.{nat_tests}
use Rattle.simplex.specs.InOrder.{is_increasing}
use Rattle.simplex.specs.Simplex.{has, simplex_cmp, subsets, minus}
use Rattle.simplex.proofs.InOrderLaws.{and_left, and_right, and_both, in_order_again}
use Rattle.simplex.proofs.Members.{In, first, later, cases, at_head, none, all_at, all_from, in_map, from_map, in_left, in_right, in_either, in_filter, from_filter, same_in_order}
use Rattle.simplex.proofs.SimplexLaws.{above_at, rest_increasing, front_increasing, has_at, has_from, within_in, in_within}
use Rattle.simplex.proofs.Ranges.{in_range, from_range, range_rising}
use Rattle.facet_set.proofs.ComplexLaws.{exact, is_set, from_subsets, in_subsets}
use Rattle.facet_set.proofs.FacetLaws.{rising_join}
use Rattle.constructions.specs.Runs.{runs, starts}
use Rattle.constructions.specs.Cyclic.{is_even_between, subsets_of_size, cyclic}
use Rattle.constructions.proofs.FrontLaws.{true_below}
use Rattle.constructions.proofs.LevelLaws.{IsLevel}

-- ---- parity
abbrev pub is_odd : ℕ → Bool
is_odd zero = false
is_odd (suc n) = not (is_odd n)

not_not : (v : Bool) → not (not v) ≡ v
not_not true = refl
not_not false = refl

odd_rest : (n : ℕ) → n % 2 ≡ cond (is_odd n) 1 0
odd_rest zero = refl
odd_rest (suc n) =
    let r = odd_rest n in
    elim (is_odd n) as (λ v. n % 2 ≡ cond v 1 0 → suc n % 2 ≡ cond (not v) 1 0) [
      | true ↦ λ e. omega arith
      | false ↦ λ e. omega arith
    ] r

even_test : (n : ℕ) → (n % 2 == 0) ≡ not (is_odd n)
even_test n =
    let r = odd_rest n in
    elim (is_odd n) as (λ v. n % 2 ≡ cond v 1 0 → (n % 2 == 0) ≡ not v) [
      | true ↦ λ e. ap (λ k. eqb k 0) e
      | false ↦ λ e. ap (λ k. eqb k 0) e
    ] r

odd_add : (m n : ℕ) → is_odd (m + n) ≡ cond (is_odd m) (not (is_odd n)) (is_odd n)
odd_add zero n = ap is_odd (zero-add n)
odd_add (suc m) n = ap is_odd (suc-add m n) ∙ ap not (odd_add m n) ∙ turn (is_odd m) (is_odd n)
  where
    turn : (v w : Bool) → not (cond v (not w) w) ≡ cond (not v) (not w) w
    turn true w = not_not w
    turn false w = refl

is_not : (v w : Bool) → not v ≡ w → v ≡ not w
is_not v w e = sym (not_not v) ∙ ap not e

-- ---- counting members
abbrev pub below : ℕ → List ℕ → ℕ
below b s = count_by (λ x. ltb x b) s

abbrev pub between : ℕ → ℕ → List ℕ → ℕ
between b c s = count_by (λ x. ltb b x && ltb x c) s

false_below : (x b : ℕ) → b ≤ x → ltb x b ≡ false
false_below x b h = grind (arith, nat_tests)

count_more : (p : ℕ → Bool) (x : ℕ) (s : List ℕ) → p x ≡ true → count_by p (x ∷ s) ≡ suc (count_by p s)
count_more p x s e = sum_by-cons (λ x. cond (p x) 1 0) x s ∙ ap (λ v. cond v 1 0 + count_by p s) e ∙ plus (count_by p s)
  where
    plus : (n : ℕ) → 1 + n ≡ suc n
    plus n = omega arith

count_same : (p : ℕ → Bool) (x : ℕ) (s : List ℕ) → p x ≡ false → count_by p (x ∷ s) ≡ count_by p s
count_same p x s e = sum_by-cons (λ x. cond (p x) 1 0) x s ∙ ap (λ v. cond v 1 0 + count_by p s) e ∙ plus (count_by p s)
  where
    plus : (n : ℕ) → 0 + n ≡ n
    plus n = omega arith

below_none : (b : ℕ) (s : List ℕ) → ((x : ℕ) → In x s → b ≤ x) → below b s ≡ 0
below_none b [] f = refl
below_none b (x ∷ s) f = count_same (λ y. ltb y b) x s (false_below x b (f x first)) ∙ below_none b s (λ y i. f y (later i))

-- what lies below c lies below b or between b and c
below_split : (b c : ℕ) (s : List ℕ) → b < c → (In b s → ⊥) → below c s ≡ below b s + between b c s
below_split b c [] h f = refl
below_split b c (x ∷ s) h f =
    let r = below_split b c s h (λ i. f (later i)) in
    elim (cases_lt x b) [
      | inl l ↦
          let p = count_more (λ y. ltb y c) x s (true_below x c (omega arith)) in
          let q = count_more (λ y. ltb y b) x s (true_below x b l) in
          let k = count_same (λ y. ltb b y && ltb y c) x s (ap (λ v. v && ltb x c) (false_below b x (omega arith))) in
          omega arith
      | inr l ↦ elim (cases_lt b x) [
        | inl m ↦ elim (cases_lt x c) [
          | inl n ↦
              let p = count_more (λ y. ltb y c) x s (true_below x c n) in
              let q = count_same (λ y. ltb y b) x s (false_below x b l) in
              let k = count_more (λ y. ltb b y && ltb y c) x s (and_both _ _ (true_below b x m) (true_below x c n)) in
              omega arith
          | inr n ↦
              let p = count_same (λ y. ltb y c) x s (false_below x c n) in
              let q = count_same (λ y. ltb y b) x s (false_below x b l) in
              let k = count_same (λ y. ltb b y && ltb y c) x s (ap (λ v. v && ltb x c) (true_below b x m) ∙ false_below x c n) in
              omega arith
        ]
        | inr m ↦ absurd (f (at_head b x s (omega arith)))
      ]
    ]

-- ---- runs
pub record IsRun (odd : Bool) (a r k : ℕ) (s : List ℕ) : Type 0 where
  pub set : is_set s ≡ true
  pub bounds : (x : ℕ) → In x s → (a ≤ x) × (x < a + r)
  pub size : length s ≡ k
  pub even : (b : ℕ) → a ≤ b → b < a + r → (In b s → ⊥) → is_odd (below b s) ≡ odd

when_even : {X : Type 0} (odd : Bool) (x : X) (xs : List X) → odd ≡ false → In x xs → In x (cond odd [] xs)
when_even true x xs e i = absurd (true≢false e)
when_even false x xs e i = i

from_even : {X : Type 0} (odd : Bool) (x : X) (xs : List X) → In x (cond odd [] xs) → (odd ≡ false) × In x xs
from_even true x xs i = absurd (none x i)
from_even false x xs i = (refl, i)

run_skip : (a r k : ℕ) (s : List ℕ) → IsRun false (a + 1) r k s → IsRun false a (suc r) k s
run_skip a r k s p = record {
  set = p.set;
  bounds = λ x i. let b = p.bounds x i in (omega (arith, b.0), omega (arith, b.1));
  size = p.size;
  even = λ b h l f. elim (cases_lt a b) [
    | inl m ↦ p.even b (omega arith) (omega arith) f
    | inr m ↦ ap is_odd (below_none b s (λ x i. let q = (p.bounds x i).0 in omega arith))
  ];
}

run_take : (odd : Bool) (a r k : ℕ) (t : List ℕ) → IsRun (not odd) (a + 1) r k t → IsRun odd a (suc r) (suc k) (a ∷ t)
run_take odd a r k t p = record {
  set = front_increasing a t (λ x i. let q = (p.bounds x i).0 in omega arith) p.set;
  bounds = λ x i. elim (cases i) [ inl e ↦ (omega arith, omega arith) | inr j ↦ let b = p.bounds x j in (omega (arith, b.0), omega (arith, b.1)) ];
  size = ap suc p.size;
  even = λ b h l f. elim (cases_lt a b) [
    | inl m ↦ ap is_odd (count_more (λ y. ltb y b) a t (true_below a b m)) ∙ ap not (p.even b (omega arith) (omega arith) (λ i. f (later i))) ∙ not_not odd
    | inr m ↦ absurd (f (at_head b a t (omega arith)))
  ];
}

run_unskip : (odd : Bool) (a r k : ℕ) (s : List ℕ) → ((x : ℕ) → In x s → a < x) → IsRun odd a (suc r) k s → (odd ≡ false) × IsRun odd (a + 1) r k s
run_unskip odd a r k s f p = (
  sym (p.even a (omega arith) (omega arith) (λ i. let q = f a i in absurd (omega arith))) ∙ ap is_odd (below_none a s (λ x i. let q = f x i in omega arith)),
  record {
    set = p.set;
    bounds = λ x i. let b = (p.bounds x i).1 in let q = f x i in (omega arith, omega arith);
    size = p.size;
    even = λ b h l g. p.even b (omega arith) (omega arith) g;
  },
)

run_untake : (odd : Bool) (a r k : ℕ) (t : List ℕ) → IsRun odd a (suc r) (suc k) (a ∷ t) → IsRun (not odd) (a + 1) r k t
run_untake odd a r k t p = record {
  set = rest_increasing a t p.set;
  bounds = λ x i. let b = (p.bounds x (later i)).1 in let q = above_at a t x p.set i in (omega arith, omega arith);
  size = let n = p.size in same (length t) k n;
  even = λ b h l f.
      is_not (is_odd (below b t)) odd (sym (ap is_odd (count_more (λ y. ltb y b) a t (true_below a b (omega arith))))
      ∙ p.even b (omega arith) (omega arith) (λ i. elim (cases i) [ inl e ↦ absurd (omega arith) | inr j ↦ f j ]));
}
  where
    same : (n k : ℕ) → suc n ≡ suc k → n ≡ k
    same n k e = omega arith

pub run_from : (odd : Bool) (a r k : ℕ) (s : List ℕ) → In s (runs odd a r k) → IsRun odd a r k s
run_from odd a zero zero s i = elim (cases i) [
  | inl e ↦ record {
    set = ap is_set e;
    bounds = λ x j. absurd (none x (subst (λ u. In x u) e j));
    size = ap length e;
    even = λ b h l f. absurd (omega arith);
  }
  | inr n ↦ absurd (none s n)
]
run_from odd a zero (suc k) s i = absurd (none s i)
run_from odd a (suc r) zero s i =
    let e = from_even odd s (runs false (a + 1) r zero) i in
    subst (λ v. IsRun v a (suc r) zero s) (sym e.0) (run_skip a r zero s (run_from false (a + 1) r zero s e.1))
run_from odd a (suc r) (suc k) s i = elim (in_either s (map (λ s. a ∷ s) (runs (not odd) (a + 1) r k)) (cond odd [] (runs false (a + 1) r (suc k))) i) [
  | inl j ↦ let t = from_map (λ s. a ∷ s) s (runs (not odd) (a + 1) r k) j in subst (λ u. IsRun odd a (suc r) (suc k) u) (sym t.2) (run_take odd a r k t.0 (run_from (not odd) (a + 1) r k t.0 t.1))
  | inr j ↦ let e = from_even odd s (runs false (a + 1) r (suc k)) j in subst (λ v. IsRun v a (suc r) (suc k) s) (sym e.0) (run_skip a r (suc k) s (run_from false (a + 1) r (suc k) s e.1))
]

above_all : (a x : ℕ) (t : List ℕ) → is_set (x ∷ t) ≡ true → a < x → (y : ℕ) → In y (x ∷ t) → a < y
above_all a x t h l y i = elim (cases i) [ inl e ↦ omega arith | inr j ↦ let q = above_at x t y h j in omega arith ]

pub run_in : (odd : Bool) (a r k : ℕ) (s : List ℕ) → IsRun odd a r k s → In s (runs odd a r k)
run_in odd a zero zero [] p = first
run_in odd a zero zero (x ∷ s) p = let n = p.size in absurd (omega arith)
run_in odd a zero (suc k) [] p = let n = p.size in absurd (omega arith)
run_in odd a zero (suc k) (x ∷ s) p = let b = p.bounds x first in absurd (omega (arith, b.0, b.1))
run_in odd a (suc r) zero [] p =
    let u = run_unskip odd a r zero [] (λ x i. absurd (none x i)) p in
    when_even odd [] (runs false (a + 1) r zero) u.0 (run_in false (a + 1) r zero [] (subst (λ v. IsRun v (a + 1) r zero []) u.0 u.1))
run_in odd a (suc r) zero (x ∷ s) p = let n = p.size in absurd (omega arith)
run_in odd a (suc r) (suc k) [] p = let n = p.size in absurd (omega arith)
run_in odd a (suc r) (suc k) (x ∷ t) p = elim (cases_lt a x) [
  | inl l ↦
      let u = run_unskip odd a r (suc k) (x ∷ t) (above_all a x t p.set l) p in
      in_right (x ∷ t) (map (λ s. a ∷ s) (runs (not odd) (a + 1) r k)) (cond odd [] (runs false (a + 1) r (suc k)))
      (when_even odd (x ∷ t) (runs false (a + 1) r (suc k)) u.0 (run_in false (a + 1) r (suc k) (x ∷ t) (subst (λ v. IsRun v (a + 1) r (suc k) (x ∷ t)) u.0 u.1)))
  | inr l ↦
      let b = (p.bounds x first).0 in
      let e : x ≡ a = omega arith in
      let q = run_in (not odd) (a + 1) r k t (run_untake odd a r k t (subst (λ y. IsRun odd a (suc r) (suc k) (y ∷ t)) e p)) in
      subst (λ y. In (y ∷ t) (runs odd a (suc r) (suc k))) (sym e) (in_left (a ∷ t) (map (λ s. a ∷ s) (runs (not odd) (a + 1) r k)) (cond odd [] (runs false (a + 1) r (suc k))) (in_map (λ s. a ∷ s) t (runs (not odd) (a + 1) r k) q))
]

-- ---- starts
pub record IsStart (a r k : ℕ) (s : List ℕ) : Type 0 where
  pub set : is_set s ≡ true
  pub bounds : (x : ℕ) → In x s → (a ≤ x) × (x < a + r)
  pub size : length s ≡ k
  pub even : (b c : ℕ) → a ≤ b → b < c → c < a + r → (In b s → ⊥) → (In c s → ⊥) → is_odd (between b c s) ≡ false

start_skip : (a r k : ℕ) (s : List ℕ) → IsRun false (a + 1) r k s → IsStart a (suc r) k s
start_skip a r k s p =
    let q = run_skip a r k s p in
    record {
      set = q.set;
      bounds = q.bounds;
      size = q.size;
      even = λ b c h l m f g.
          let both = sym (ap is_odd (below_split b c s l f)) ∙ q.even c (omega arith) m g in
          let left = q.even b h (omega arith) f in
          sym (ap (λ v. cond v (not (is_odd (between b c s))) (is_odd (between b c s))) left) ∙ sym (odd_add (below b s) (between b c s)) ∙ both;
    }

start_take : (a r k : ℕ) (t : List ℕ) → IsStart (a + 1) r k t → IsStart a (suc r) (suc k) (a ∷ t)
start_take a r k t p = record {
  set = front_increasing a t (λ x i. let q = (p.bounds x i).0 in omega arith) p.set;
  bounds = λ x i. elim (cases i) [ inl e ↦ (omega arith, omega arith) | inr j ↦ let b = p.bounds x j in (omega (arith, b.0), omega (arith, b.1)) ];
  size = ap suc p.size;
  even = λ b c h l m f g. elim (cases_lt a b) [
    | inl n ↦ ap is_odd (count_same (λ y. ltb b y && ltb y c) a t (ap (λ v. v && ltb a c) (false_below b a (omega arith)))) ∙ p.even b c (omega arith) l (omega arith) (λ i. f (later i)) (λ i. g (later i))
    | inr n ↦ absurd (f (at_head b a t (omega arith)))
  ];
}

start_untake : (a r k : ℕ) (t : List ℕ) → IsStart a (suc r) (suc k) (a ∷ t) → IsStart (a + 1) r k t
start_untake a r k t p = record {
  set = rest_increasing a t p.set;
  bounds = λ x i. let b = (p.bounds x (later i)).1 in let q = above_at a t x p.set i in (omega arith, omega arith);
  size = same (length t) k p.size;
  even = λ b c h l m f g.
      sym (ap is_odd (count_same (λ y. ltb b y && ltb y c) a t (ap (λ v. v && ltb a c) (false_below b a (omega arith)))))
      ∙ p.even b c (omega arith) l (omega arith) (λ i. elim (cases i) [ inl e ↦ absurd (omega arith) | inr j ↦ f j ]) (λ i. elim (cases i) [ inl e ↦ absurd (omega arith) | inr j ↦ g j ]);
}
  where
    same : (n k : ℕ) → suc n ≡ suc k → n ≡ k
    same n k e = omega arith

-- where a is no member, what lies between a and b is what lies below b
between_below : (a b : ℕ) (s : List ℕ) → ((x : ℕ) → In x s → a < x) → between a b s ≡ below b s
between_below a b [] f = refl
between_below a b (x ∷ s) f =
    sum_by-cons (λ x. cond (ltb a x && ltb x b) 1 0) x s ∙ ap (λ v. cond (v && ltb x b) 1 0 + between a b s) (true_below a x (f x first))
    ∙ ap (λ n. cond (ltb x b) 1 0 + n) (between_below a b s (λ y i. f y (later i))) ∙ sym (sum_by-cons (λ x. cond (ltb x b) 1 0) x s)

start_unskip : (a r k : ℕ) (s : List ℕ) → ((x : ℕ) → In x s → a < x) → IsStart a (suc r) k s → IsRun false (a + 1) r k s
start_unskip a r k s f p = record {
  set = p.set;
  bounds = λ x i. let b = (p.bounds x i).1 in let q = f x i in (omega arith, omega arith);
  size = p.size;
  even = λ b h l g. sym (ap is_odd (between_below a b s f)) ∙ p.even a b (omega arith) (omega arith) (omega arith) (λ i. let q = f a i in absurd (omega arith)) g;
}

pub start_from : (a r k : ℕ) (s : List ℕ) → In s (starts a r k) → IsStart a r k s
start_from a zero zero s i = elim (cases i) [
  | inl e ↦ record {
    set = ap is_set e;
    bounds = λ x j. absurd (none x (subst (λ u. In x u) e j));
    size = ap length e;
    even = λ b c h l m f g. absurd (omega arith);
  }
  | inr n ↦ absurd (none s n)
]
start_from a zero (suc k) s i = absurd (none s i)
start_from a (suc r) zero s i = start_skip a r zero s (run_from false (a + 1) r zero s i)
start_from a (suc r) (suc k) s i = elim (in_either s (map (λ s. a ∷ s) (starts (a + 1) r k)) (runs false (a + 1) r (suc k)) i) [
  | inl j ↦ let t = from_map (λ s. a ∷ s) s (starts (a + 1) r k) j in subst (λ u. IsStart a (suc r) (suc k) u) (sym t.2) (start_take a r k t.0 (start_from (a + 1) r k t.0 t.1))
  | inr j ↦ start_skip a r (suc k) s (run_from false (a + 1) r (suc k) s j)
]

pub start_in : (a r k : ℕ) (s : List ℕ) → IsStart a r k s → In s (starts a r k)
start_in a zero zero [] p = first
start_in a zero zero (x ∷ s) p = let n = p.size in absurd (omega arith)
start_in a zero (suc k) [] p = let n = p.size in absurd (omega arith)
start_in a zero (suc k) (x ∷ s) p = let b = p.bounds x first in absurd (omega (arith, b.0, b.1))
start_in a (suc r) zero [] p = run_in false (a + 1) r zero [] (start_unskip a r zero [] (λ x i. absurd (none x i)) p)
start_in a (suc r) zero (x ∷ s) p = let n = p.size in absurd (omega arith)
start_in a (suc r) (suc k) [] p = let n = p.size in absurd (omega arith)
start_in a (suc r) (suc k) (x ∷ t) p = elim (cases_lt a x) [
  | inl l ↦ in_right (x ∷ t) (map (λ s. a ∷ s) (starts (a + 1) r k)) (runs false (a + 1) r (suc k)) (run_in false (a + 1) r (suc k) (x ∷ t) (start_unskip a r (suc k) (x ∷ t) (above_all a x t p.set l) p))
  | inr l ↦
      let b = (p.bounds x first).0 in
      let e : x ≡ a = omega arith in
      let q = start_in (a + 1) r k t (start_untake a r k t (subst (λ y. IsStart a (suc r) (suc k) (y ∷ t)) e p)) in
      subst (λ y. In (y ∷ t) (starts a (suc r) (suc k))) (sym e) (in_left (a ∷ t) (map (λ s. a ∷ s) (starts (a + 1) r k)) (runs false (a + 1) r (suc k)) (in_map (λ s. a ∷ s) t (starts (a + 1) r k) q))
]

-- ---- Gale's condition
outside : (n : ℕ) (s : List ℕ) (b : ℕ) → 1 ≤ b → b < 1 + n → (In b s → ⊥) → In b (minus (range_with_len 1 n) s)
outside n s b h l f = in_filter (λ a. not (has s a)) b (range_with_len 1 n) (in_range 1 n b h l) (lacks (has s b) (λ e. f (has_at s b e)))
  where
    lacks : (v : Bool) → (v ≡ true → ⊥) → not v ≡ true
    lacks true g = absurd (g refl)
    lacks false g = refl

odd_off : (n : ℕ) → (n % 2 == 0) ≡ true → is_odd n ≡ false
odd_off n e = is_not (is_odd n) true (sym (even_test n) ∙ e)

pub gale_from : (k n : ℕ) (s : List ℕ) → In s (filter (is_even_between n) (subsets_of_size k n)) → IsStart 1 n k s
gale_from k n s i =
    let p = from_filter (is_even_between n) s (subsets_of_size k n) i in
    let q = from_filter (λ s. length s == k) s (subsets (range_with_len 1 n)) p.0 in
    let r = from_subsets (range_with_len 1 n) s (range_rising 1 n) q.0 in
    let out = minus (range_with_len 1 n) s in
    record {
      set = r.0;
      bounds = λ x j. from_range 1 n x (within_in s (range_with_len 1 n) x r.1 j);
      size = same (length s) k q.1;
      even = λ b c h l m f g.
          odd_off (between b c s) (all_at (λ d. between b d s % 2 == 0) c (minus (range_with_len 1 n) s)
          (all_at (λ e. list_all (λ d. between e d s % 2 == 0) (minus (range_with_len 1 n) s)) b (minus (range_with_len 1 n) s) p.1 (outside n s b h (omega arith) f))
          (outside n s c (omega arith) m g));
    }
  where
    same : (m k : ℕ) → (m == k) ≡ true → m ≡ k
    same m k e = grind (arith, nat_tests)

pub gale_in : (k n : ℕ) (s : List ℕ) → IsStart 1 n k s → In s (filter (is_even_between n) (subsets_of_size k n))
gale_in k n s p =
    in_filter (is_even_between n) s (subsets_of_size k n)
    (in_filter (λ s. length s == k) s (subsets (range_with_len 1 n)) (in_subsets (range_with_len 1 n) s (range_rising 1 n) p.set (in_within s (range_with_len 1 n) (λ x i. let b = p.bounds x i in in_range 1 n x b.0 b.1))) (same (length s) k p.size))
    (all_from (λ b. list_all (λ c. between b c s % 2 == 0) (minus (range_with_len 1 n) s)) (minus (range_with_len 1 n) s) (λ b i. all_from (λ c. between b c s % 2 == 0) (minus (range_with_len 1 n) s) (λ c j.
    let x = from_filter (λ a. not (has s a)) b (range_with_len 1 n) i in
    let y = from_filter (λ a. not (has s a)) c (range_with_len 1 n) j in
    let l = from_range 1 n b x.0 in
    let m = from_range 1 n c y.0 in
    even_test (between b c s) ∙ ap not (elim (cases_lt b c) [
      | inl h ↦ p.even b c l.0 h m.1 (λ o. no (has s b) x.1 (has_from s b o)) (λ o. no (has s c) y.1 (has_from s c o))
      | inr h ↦ ap is_odd (empty b c s h)
    ]))))
  where
    same : (m k : ℕ) → m ≡ k → (m == k) ≡ true
    same m k e = grind (arith, nat_tests)

    no : (v : Bool) → not v ≡ true → v ≡ true → ⊥
    no true h k = true≢false (sym h)
    no false h k = true≢false (sym k)

    neither : (b c x : ℕ) → c ≤ b → (ltb b x && ltb x c) ≡ false
    neither b c x h = elim (cases_lt b x) [
      | inl l ↦ ap (λ v. v && ltb x c) (true_below b x l) ∙ false_below x c (omega arith)
      | inr l ↦ ap (λ v. v && ltb x c) (false_below b x l)
    ]

    empty : (b c : ℕ) (s : List ℕ) → c ≤ b → between b c s ≡ 0
    empty b c [] h = refl
    empty b c (x ∷ s) h = count_same (λ y. ltb b y && ltb y c) x s (neither b c x h) ∙ empty b c s h

-- ---- the order
head_less : (a b : ℕ) (s t : List ℕ) → a < b → is_lt (simplex_cmp (a ∷ s) (b ∷ t)) ≡ true
head_less a b s t h = ap (λ r. is_lt (ordering_then r (simplex_cmp s t))) (less a b h)
  where
    less : (a b : ℕ) → a < b → nat_cmp a b ≡ Less
    less a b h = grind (arith, nat_tests)

rising_map : (a : ℕ) (xs : List (List ℕ)) → is_increasing simplex_cmp xs ≡ true → is_increasing simplex_cmp (map (λ s. a ∷ s) xs) ≡ true
rising_map a [] h = refl
rising_map a (x ∷ xs) h =
    and_both _ _ (all_from (λ y. is_lt (simplex_cmp (a ∷ x) y)) (map (λ s. a ∷ s) xs) (λ y i.
    let r = from_map (λ s. a ∷ s) y xs i in
    ap (λ u. is_lt (simplex_cmp (a ∷ x) u)) r.2 ∙ ap (λ o. is_lt (ordering_then o (simplex_cmp x r.0))) (tied_itself nat_cmp_total a) ∙ all_at (λ y. is_lt (simplex_cmp x y)) r.0 xs (and_left _ _ h) r.1))
    (rising_map a xs (and_right (list_all (λ y. is_lt (simplex_cmp x y)) xs) _ h))

-- lists that begin with a, and then lists of later numbers
later_less : (a r k : ℕ) (xs : List (List ℕ)) (x y : List ℕ) → In x (map (λ s. a ∷ s) xs) → In y (runs false (a + 1) r (suc k)) → is_lt (simplex_cmp x y) ≡ true
later_less a r k xs x y i j =
    let t = from_map (λ s. a ∷ s) x xs i in
    let p = run_from false (a + 1) r (suc k) y j in
    ap (λ u. is_lt (simplex_cmp u y)) t.2 ∙ first_less y p.size p.bounds
  where
    first_less : (y : List ℕ) → length y ≡ suc k → ((z : ℕ) → In z y → (a + 1 ≤ z) × (z < a + 1 + r)) → is_lt (simplex_cmp (a ∷ (from_map (λ s. a ∷ s) x xs i).0) y) ≡ true
    first_less [] n f = absurd (omega arith)
    first_less (b ∷ t) n f = let q = (f b first).0 in head_less a b _ t (omega arith)

pub runs_rising : (odd : Bool) (a r k : ℕ) → is_increasing simplex_cmp (runs odd a r k) ≡ true
runs_rising odd a zero zero = refl
runs_rising odd a zero (suc k) = refl
runs_rising true a (suc r) zero = refl
runs_rising false a (suc r) zero = runs_rising false (a + 1) r zero
runs_rising true a (suc r) (suc k) = rising_join (map (λ s. a ∷ s) (runs false (a + 1) r k)) [] (rising_map a (runs false (a + 1) r k) (runs_rising false (a + 1) r k)) refl (λ x y i j. absurd (none y j))
runs_rising false a (suc r) (suc k) =
    rising_join (map (λ s. a ∷ s) (runs true (a + 1) r k)) (runs false (a + 1) r (suc k)) (rising_map a (runs true (a + 1) r k) (runs_rising true (a + 1) r k)) (runs_rising false (a + 1) r (suc k))
    (λ x y i j. later_less a r k (runs true (a + 1) r k) x y i j)

pub starts_rising : (a r k : ℕ) → is_increasing simplex_cmp (starts a r k) ≡ true
starts_rising a zero zero = refl
starts_rising a zero (suc k) = refl
starts_rising a (suc r) zero = runs_rising false (a + 1) r zero
starts_rising a (suc r) (suc k) =
    rising_join (map (λ s. a ∷ s) (starts (a + 1) r k)) (runs false (a + 1) r (suc k)) (rising_map a (starts (a + 1) r k) (starts_rising (a + 1) r k)) (runs_rising false (a + 1) r (suc k))
    (λ x y i j. later_less a r k (starts (a + 1) r k) x y i j)

-- the sets that are even between are the lists of starts
pub cyclic_is : (k n : ℕ) → cyclic k n ≡ starts 1 n k
unfolding cyclic
cyclic_is k n =
    same_in_order nat_list_cmp_total exact (filter (is_even_between n) (subsets_of_size k n)) (starts 1 n k) (λ s i. start_in 1 n k s (gale_from k n s i)) (λ s i. gale_in k n s (start_from 1 n k s i))
    ∙ in_order_again nat_list_cmp_total exact (starts 1 n k) (starts_rising 1 n k)

pub starts_level : (n k : ℕ) → IsLevel k (starts 1 n k)
starts_level n k = record {
  rising = starts_rising 1 n k;
  sets = λ s i. (start_from 1 n k s i).set;
  lengths = λ s i. (start_from 1 n k s i).size;
}
