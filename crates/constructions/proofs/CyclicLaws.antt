-- What the code that makes cyclic polytopes comes to.
use Rattle.std.proofs.Common.{◌≡◌, ℕ, zero, suc, ◌+◌, ◌-◌, ◌*◌, ◌/◌, ◌^◌, ◌<◌, ◌≤◌, true, false, cond, leb, ltb, ◌&&◌, List, [], ◌∷◌, ◌++◌, map, length, Some, None, refl, sym, ap, ◌∙◌, subst, arith, append-nil, append_assoc, length-append, le-div_iff_mul-le}
use Rattle.std.specs.Bool.{IsTrue}
use Rattle.std.specs.List.{list_all}
use Rattle.std.proofs.Math.Nat.{one-le-pow}
use Rattle.std.proofs.lemmas.List.{map-append}
use Rattle.std.proofs.lemmas.Bool.{le-leb, lt-ltb}
use Rattle.std.proofs.lemmas.Bool.Decides.{nat_tests}
use Rattle.simplex.proofs.InOrderLaws.{and_left, and_right, and_both}
use Rattle.simplex.specs.FirstFailing.{first_failing}
use Rattle.simplex.specs.Simplex.{is_simplex, label_limit, len_limit}
use Rattle.facet_set.specs.Complex.{generated}
use Rattle.facet_set.specs.Numbers.{weight}
use Rattle.constructions.specs.declared.make_fault.MakeFault.TheVariants.{Range, DimLimit, LabelRange, Size}
use Rattle.constructions.specs.Runs.{runs, starts}
use Rattle.constructions.specs.Cyclic.{cyclic, cyclic_tests}
use Rattle.constructions.proofs.CountLaws.{runs_none, runs_single, runs_short, runs_pair, starts_none}
use Rattle.constructions.proofs.FrontLaws.{simplex_push, below_push}
use Rattle.constructions.proofs.LevelLaws.{level_weight, level_generated}
use Rattle.constructions.proofs.RunLaws.{cyclic_is, starts_level}

-- ---- lists that continue a front
pub nothing_more : (front : List ℕ) → map (λ s. front ++ s) ([] ∷ []) ≡ front ∷ []
nothing_more front = ap (λ x. x ∷ []) (append-nil front)

front_one : (front : List ℕ) (f : ℕ) (xs : List (List ℕ)) → map (λ s. (front ++ f ∷ []) ++ s) xs ≡ map (λ s. front ++ s) (map (λ s. f ∷ s) xs)
front_one front f [] = refl
front_one front f (x ∷ xs) = λ i. append_assoc front (f ∷ []) x i ∷ front_one front f xs i

front_two : (front : List ℕ) (f g : ℕ) (xs : List (List ℕ)) → map (λ s. ((front ++ f ∷ []) ++ g ∷ []) ++ s) xs ≡ map (λ s. front ++ s) (map (λ s. f ∷ g ∷ s) xs)
front_two front f g [] = refl
front_two front f g (x ∷ xs) = λ i. (append_assoc (front ++ f ∷ []) (g ∷ []) x ∙ append_assoc front (f ∷ []) (g ∷ x)) i ∷ front_two front f g xs i

-- ---- starts
pub start_end : (front : List ℕ) (list new : List (List ℕ)) (first count : ℕ) → new ≡ list ++ front ∷ [] → new ≡ list ++ map (λ s. front ++ s) (starts first count zero)
start_end front list new first count e = e ∙ ap (λ x. list ++ x) (sym (ap (map (λ s. front ++ s)) (starts_none first count) ∙ nothing_more front))

pub start_more : (front next : List ℕ) (list middle new : List (List ℕ)) (first count k : ℕ) → 1 ≤ k → k < count → next ≡ front ++ first ∷ []
    → middle ≡ list ++ map (λ s. next ++ s) (starts (first + 1) (count - 1) (k - 1)) → new ≡ middle ++ map (λ s. front ++ s) (runs false (first + 1) (count - 1) k) → new ≡ list ++ map (λ s. front ++ s) (starts first count k)
start_more front next list middle new first zero k h l e f g = absurd (omega arith)
start_more front next list middle new first (suc count) zero h l e f g = absurd (omega arith)
start_more front next list middle new first (suc count) (suc k) h l e f g =
    let c : suc count - 1 ≡ count = omega arith in
    let j : suc k - 1 ≡ k = omega arith in
    let here = starts (first + 1) count k in
    let rest = runs false (first + 1) count (suc k) in
    let left : middle ≡ list ++ map (λ s. front ++ s) (map (λ s. first ∷ s) here) =
    f ∙ ap (λ m. list ++ map (λ s. next ++ s) (starts (first + 1) m (suc k - 1))) c ∙ ap (λ m. list ++ map (λ s. next ++ s) (starts (first + 1) count m)) j
    ∙ ap (λ u. list ++ map (λ s. u ++ s) here) e ∙ ap (λ u. list ++ u) (front_one front first here) in
    g ∙ ap (λ m. middle ++ map (λ s. front ++ s) (runs false (first + 1) m (suc k))) c ∙ ap (λ u. u ++ map (λ s. front ++ s) rest) left
    ∙ append_assoc list (map (λ s. front ++ s) (map (λ s. first ∷ s) here)) (map (λ s. front ++ s) rest)
    ∙ ap (λ u. list ++ u) (sym (map-append (λ s. front ++ s) (map (λ s. first ∷ s) here) rest))

-- ---- runs
pub run_end : (front : List ℕ) (list new : List (List ℕ)) (first count : ℕ) → new ≡ list ++ front ∷ [] → new ≡ list ++ map (λ s. front ++ s) (runs false first count zero)
run_end front list new first count e = e ∙ ap (λ x. list ++ x) (sym (ap (map (λ s. front ++ s)) (runs_none first count) ∙ nothing_more front))

pub run_last : (front last : List ℕ) (list new : List (List ℕ)) (first count label : ℕ) → 1 ≤ count → label ≡ first + count - 1 → last ≡ front ++ label ∷ [] → new ≡ list ++ last ∷ [] → new ≡ list ++ map (λ s. front ++ s) (runs false first count 1)
run_last front last list new first zero label h e f g = absurd (omega arith)
run_last front last list new first (suc count) label h e f g =
    let same : label ≡ first + count = omega arith in
    g ∙ ap (λ x. list ++ x ∷ []) (f ∙ ap (λ l. front ++ l ∷ []) same) ∙ ap (λ x. list ++ x) (sym (ap (map (λ s. front ++ s)) (runs_single first count)))

pub run_start : (front : List ℕ) (list : List (List ℕ)) (first count k : ℕ) → list ++ map (λ s. front ++ s) (runs false (first + 0) (count - 0) k) ≡ list ++ map (λ s. front ++ s) (runs false first count k)
run_start front list first count k =
    let a : first + 0 ≡ first = omega arith in
    let b : count - 0 ≡ count = omega arith in
    ap (λ x. list ++ map (λ s. front ++ s) (runs false x (count - 0) k)) a ∙ ap (λ x. list ++ map (λ s. front ++ s) (runs false first x k)) b

pub run_more : (front one pair : List ℕ) (list new total : List (List ℕ)) (first count i k : ℕ) → 2 ≤ k → k ≤ count → i < count - k + 1 → one ≡ front ++ (first + i) ∷ [] → pair ≡ one ++ (first + i + 1) ∷ []
    → new ≡ list ++ map (λ s. pair ++ s) (runs false (first + i + 2) (count - i - 2) (k - 2))
    → list ++ map (λ s. front ++ s) (runs false (first + i) (count - i) k) ≡ total → new ++ map (λ s. front ++ s) (runs false (first + (i + 1)) (count - (i + 1)) k) ≡ total
run_more front one pair list new total first count i zero h l m e f g t = absurd (omega arith)
run_more front one pair list new total first count i (suc zero) h l m e f g t = absurd (omega arith)
run_more front one pair list new total first count i (suc (suc k)) h l m e f g t =
    let r = count - i - 2 in
    let a = first + i in
    let whole : count - i ≡ suc (suc (count - i - 2)) = omega arith in
    let left : count - (i + 1) ≡ suc (count - i - 2) = omega arith in
    let two : first + i + 2 ≡ first + i + 1 + 1 = omega arith in
    let next : first + (i + 1) ≡ first + i + 1 = omega arith in
    let less : suc (suc k) - 2 ≡ k = omega arith in
    let here = runs false (a + 1 + 1) r k in
    let rest = runs false (a + 1) (suc r) (suc (suc k)) in
    let both : pair ≡ (front ++ a ∷ []) ++ (a + 1) ∷ [] = f ∙ ap (λ u. u ++ (a + 1) ∷ []) e in
    let made : new ≡ list ++ map (λ s. front ++ s) (map (λ s. a ∷ (a + 1) ∷ s) here) =
    g ∙ ap (λ b. list ++ map (λ s. pair ++ s) (runs false b r (suc (suc k) - 2))) two ∙ ap (λ j. list ++ map (λ s. pair ++ s) (runs false (a + 1 + 1) r j)) less
    ∙ ap (λ u. list ++ map (λ s. u ++ s) here) both ∙ ap (λ u. list ++ u) (front_two front a (a + 1) here) in
    ap (λ b. new ++ map (λ s. front ++ s) (runs false b (count - (i + 1)) (suc (suc k)))) next
    ∙ ap (λ j. new ++ map (λ s. front ++ s) (runs false (a + 1) j (suc (suc k)))) left
    ∙ ap (λ u. u ++ map (λ s. front ++ s) rest) made
    ∙ append_assoc list (map (λ s. front ++ s) (map (λ s. a ∷ (a + 1) ∷ s) here)) (map (λ s. front ++ s) rest)
    ∙ ap (λ u. list ++ u) (sym (map-append (λ s. front ++ s) (map (λ s. a ∷ (a + 1) ∷ s) here) rest) ∙ ap (map (λ s. front ++ s)) (sym (runs_pair a r k)))
    ∙ ap (λ j. list ++ map (λ s. front ++ s) (runs false a j (suc (suc k)))) (sym whole)
    ∙ t

pub run_done : (front : List ℕ) (list total : List (List ℕ)) (first count i k : ℕ) → count - k + 1 ≤ i → k ≤ count → 2 ≤ k → list ++ map (λ s. front ++ s) (runs false (first + i) (count - i) k) ≡ total → list ≡ total
run_done front list total first count i k h l m t =
    let short = runs_short false (first + i) (count - i) k (omega arith) in
    sym (append-nil list) ∙ ap (λ x. list ++ map (λ s. front ++ s) x) (sym short) ∙ t

-- ---- the whole
pub cyclic_value : (k n : ℕ) (list seen empty : List (List ℕ)) → empty ≡ [] → list ≡ empty ++ map (λ s. [] ++ s) (starts 1 n k) → seen ≡ list → generated seen ≡ cyclic k n
cyclic_value k n list seen empty e f g =
    let same : seen ≡ starts 1 n k = g ∙ f ∙ ap (λ x. x ++ map (λ s. [] ++ s) (starts 1 n k)) e ∙ whole (starts 1 n k) in
    ap generated same ∙ level_generated k (starts 1 n k) (starts_level n k) ∙ sym (cyclic_is k n)
  where
    whole : (xs : List (List ℕ)) → map (λ s. [] ++ s) xs ≡ xs
    whole [] = refl
    whole (x ∷ xs) = ap (λ u. x ∷ u) (whole xs)

-- ---- the conditions
module _ (k n room : ℕ) (some : 1 ≤ k) (more : k < n) (short : k ≤ len_limit) (fits : n ≤ label_limit) where
  range_passes : (leb 1 k && ltb k n) ≡ true
  range_passes = ap (λ v. v && ltb k n) (le-leb 1 k some) ∙ lt-ltb k n more

  tests_are : first_failing (cyclic_tests k n room) ≡ cond (leb (weight (cyclic k n)) room) None (Some Size)
  tests_are =
      let last = cond (leb (weight (cyclic k n)) room) None (Some Size) in
      ap (λ v. cond v (cond (leb k len_limit) (cond (leb n label_limit) last (Some LabelRange)) (Some DimLimit)) (Some Range)) range_passes
      ∙ ap (λ v. cond v (cond (leb n label_limit) last (Some LabelRange)) (Some DimLimit)) (le-leb k len_limit short)
      ∙ ap (λ v. cond v last (Some LabelRange)) (le-leb n label_limit fits)

  weight_is : weight (cyclic k n) ≡ length (cyclic k n) * 2 ^ k
  weight_is = ap weight (cyclic_is k n) ∙ level_weight k (starts 1 n k) (starts_level n k) ∙ ap (λ c. length c * 2 ^ k) (sym (cyclic_is k n))

  power : 0 < 2 ^ k
  power = one-le-pow k 2 (omega arith)

  pub size_fails : (count : ℕ) → count ≡ length (cyclic k n) → room / 2 ^ k < count → Some Size ≡ first_failing (cyclic_tests k n room)
  size_fails count e h = sym (tests_are ∙ ap (λ v. cond v None (Some Size)) (ap (λ w. leb w room) (weight_is ∙ ap (λ c. c * 2 ^ k) (sym e)) ∙ above (count * 2 ^ k) room (λ l. over ((le-div_iff_mul-le power).1 l))))
    where
      over : count ≤ room / 2 ^ k → ⊥
      over l = absurd (omega (arith, l, h))

      above : (w room : ℕ) → (w ≤ room → ⊥) → leb w room ≡ false
      above w room f = grind (arith, nat_tests)

  pub size_passes : (count : ℕ) → count ≡ length (cyclic k n) → count ≤ room / 2 ^ k → None ≡ first_failing (cyclic_tests k n room)
  size_passes count e h = sym (tests_are ∙ ap (λ v. cond v None (Some Size)) (ap (λ w. leb w room) (weight_is ∙ ap (λ c. c * 2 ^ k) (sym e)) ∙ le-leb (count * 2 ^ k) room ((le-div_iff_mul-le power).0 h)))

-- ---- fronts that grow
-- a front and what is known of it where k labels from the first on follow
pub record IsFront (front : List ℕ) (first count k : ℕ) : Type 0 where
  pub short : length front + k ≤ 12
  pub simplex : IsTrue (is_simplex front)
  pub below : list_all (λ x. ltb x first) front ≡ true
  pub label : 1 ≤ first
  pub limit : first + count ≤ 1000001

wider : (x first l : ℕ) → ltb x first ≡ true → first ≤ l → ltb x l ≡ true
wider x first l h a = grind (arith, nat_tests)

pub below_more : (front : List ℕ) (first l : ℕ) → list_all (λ x. ltb x first) front ≡ true → first ≤ l → list_all (λ x. ltb x l) front ≡ true
below_more [] first l h a = refl
below_more (x ∷ front) first l h a = and_both _ _ (wider x first l (and_left _ _ h) a) (below_more front first l (and_right (ltb x first) _ h) a)

-- any label of the rest may follow
pub front_push : (front : List ℕ) (first count k l : ℕ) → IsFront front first count k → 1 ≤ k → first ≤ l → l < first + count → IsTrue (is_simplex (front ++ l ∷ []))
front_push front first count k l p h a b =
    let s = p.short in
    let m = p.limit in
    let o = p.label in
    simplex_push front l p.simplex (omega arith) (below_more front first l p.below a) (omega arith) (omega arith)

pub front_next : (front next : List ℕ) (first count k l : ℕ) → IsFront front first count k → 1 ≤ k → first ≤ l → l < first + count → next ≡ front ++ l ∷ [] → IsFront next (l + 1) (first + count - l - 1) (k - 1)
front_next front next first count k l p h a b e =
    let s = p.short in
    let m = p.limit in
    let n = ap length e ∙ length-append front (l ∷ []) in
    record {
      short = omega arith;
      simplex = subst (λ u. IsTrue (is_simplex u)) (sym e) (front_push front first count k l p h a b);
      below = ap (list_all (λ x. ltb x (l + 1))) e ∙ below_push front l (l + 1) (below_more front first l p.below a) (omega arith);
      label = omega arith;
      limit = omega arith;
    }

pub front_pair : (front one pair : List ℕ) (first count k i : ℕ) → IsFront front first count k → 2 ≤ k → k ≤ count → i < count - k + 1 → one ≡ front ++ (first + i) ∷ [] → pair ≡ one ++ (first + i + 1) ∷ [] → IsFront pair (first + i + 2) (count - i - 2) (k - 2)
front_pair front one pair first count k i p h l m e f =
    let q = front_next front one first count k (first + i) p (omega arith) (omega arith) (omega arith) e in
    let r = front_next one pair (first + i + 1) (first + count - (first + i) - 1) (k - 1) (first + i + 1) q (omega arith) (omega arith) (omega arith) f in
    let s = r.short in
    let t = p.limit in
    let o = p.label in
    let same : first + i + 1 + 1 ≡ first + i + 2 = omega arith in
    record {
      short = omega arith;
      simplex = r.simplex;
      below = subst (λ j. list_all (λ x. ltb x j) pair ≡ true) same r.below;
      label = omega arith;
      limit = omega arith;
    }

pub front_one_more : (front next : List ℕ) (first count k : ℕ) → IsFront front first count k → 1 ≤ k → k < count → next ≡ front ++ first ∷ [] → IsFront next (first + 1) (count - 1) (k - 1)
front_one_more front next first count k p h l e =
    let q = front_next front next first count k first p h (omega arith) (omega arith) e in
    let s = q.short in
    let t = p.limit in
    record {
      short = s;
      simplex = q.simplex;
      below = q.below;
      label = omega arith;
      limit = omega arith;
    }

-- the same front, with the next label left out
pub front_skip : (front : List ℕ) (first count k : ℕ) → IsFront front first count k → 1 ≤ count → IsFront front (first + 1) (count - 1) k
front_skip front first count k p h =
    let t = p.limit in
    record {
      short = p.short;
      simplex = p.simplex;
      below = below_more front first (first + 1) p.below (omega arith);
      label = omega arith;
      limit = omega arith;
    }
