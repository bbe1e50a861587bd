-- What Morse lists tell of the numbers of faces and the ranks, from the end of the list back.
use Rattle.std.proofs.Common.{◌≡◌, ℕ, zero, suc, ◌+◌, ◌<◌, ◌≤◌, Bool, true, false, not, cond, ◌&&◌, ltb, List, drop, take, [], ◌∷◌, length, ◌+ℤ◌, refl, sym, ap, ◌∙◌, subst, inl, inr, arith}
use mathlib.Core.Bool.{true≢false}
use Rattle.std.specs.Prelude.{◌==◌, Some, None}
use Rattle.std.specs.List.{filter, list_all}
use Rattle.std.proofs.lemmas.Bool.Decides.{nat_tests}
use Rattle.std.proofs.lemmas.Int.{ints}
use Rattle.std.proofs.lemmas.List.{take_all}
use Rattle.simplex.specs.FirstFailing.{first_failing}
use Rattle.simplex.specs.Simplex.{is_simplex, without}
use Rattle.simplex.proofs.Filled.{rising_of}
use Rattle.simplex.proofs.InOrderLaws.{and_left, and_right}
use Rattle.simplex.proofs.Members.{In, first, later, none, all_at, from_filter, in_map, in_left, in_right, in_either}
use Rattle.simplex.proofs.SimplexLaws.{within_length}
use Rattle.simplex.proofs.Decided.{equal_at, not_true}
use Rattle.facet_set.specs.Complex.{faces, stands_in}
use Rattle.facet_set.specs.Facets.{IsFacets}
use Rattle.facet_set.specs.Numbers.{face_count, faces_of_size, size}
use Rattle.facet_set.proofs.ComplexLaws.{is_set, face_at, from_faces, sets_of}
use Rattle.face_vectors.specs.Vectors.{alternating}
use Rattle.betti_tables.specs.Ranks.{column, rank_at}
use Rattle.betti_tables.proofs.FaceLaws.{no_faces, in_size}
use Rattle.collapse_moves.specs.Collapses.{partner, is_free, collapse, drop_face}
use Rattle.morse_lists.specs.declared.morse_fault.MorseFault.TheVariants.{Step, Rest}
use Rattle.morse_lists.specs.declared.morse_step.MorseStep.{MorseStep}
use Rattle.morse_lists.specs.Laws.{IsMorseListOf, MorseInequalities, MorseEuler, FaultlessIsMorseList}
use Rattle.morse_lists.specs.Morse.{is_critical, is_critical_of, is_bare, is_possible, is_morse_list, after_step, morse_tests, critical_count}
use Rattle.morse_lists.proofs.DropLaws.{partner_cover, partner_facet, left_facet, collapse_drops, drop_facets, dropped, facet_in_faces}
use Rattle.morse_lists.proofs.EulerLaws.{signed_sum, signed_same, signed_add, signed_zero, pair_at, pair_zero, places_shift}
use Rattle.morse_lists.proofs.RankLaws.{one_if, count_drop, rank_drop, rank_falls}
use Rattle.morse_lists.proofs.StepLaws.{critical_at, collapse_at, step_facets}

-- ---- what a step does to the numbers
-- a critical facet
pub record IsCriticalStep (c : List (List ℕ)) (f : List ℕ) (d : List (List ℕ)) : Type 0 where
  pub counts : (n : ℕ) → face_count c n ≡ face_count d n + one_if (length f == n)
  pub ranks : (k : ℕ) → rank_at d k ≤ rank_at c k
  pub fewer : (s : List ℕ) → In s (faces d) → In s (faces c)
  pub member : In f (faces c)

pub drop_fewer : (c : List (List ℕ)) (f s : List ℕ) → IsFacets c → stands_in c f ≡ true → In s (faces (drop_face c f)) → In s (faces c)
drop_fewer c f s h m i =
    let q = dropped c f h m in
    elim (in_either s q.front q.back (subst (λ l. In s l) q.after i)) [
      | inl j ↦ subst (λ l. In s l) (sym q.before) (in_left s q.front (f ∷ q.back) j)
      | inr j ↦ subst (λ l. In s l) (sym q.before) (in_right s q.front (f ∷ q.back) (later j))
    ]

critical_step : (c : List (List ℕ)) (f : List ℕ) → IsFacets c → stands_in c f ≡ true → IsCriticalStep c f (drop_face c f)
critical_step c f h m = record { counts = count_drop c f h m; ranks = rank_drop c f h m; fewer = λ s. drop_fewer c f s h m; member = facet_in_faces c f h m }

-- a collapse
pub record IsCollapseStep (c : List (List ℕ)) (s : List ℕ) (d : List (List ℕ)) : Type 0 where
  pub some : 0 < length s
  pub counts : (n : ℕ) → face_count c n ≡ face_count d n + (one_if (length s + 1 == n) + one_if (length s == n))
  pub ranks : (k : ℕ) → rank_at d k ≤ rank_at c k
  pub falls : rank_at d (length s) + 1 ≤ rank_at c (length s)
  pub fewer : (t : List ℕ) → In t (faces d) → In t (faces c)
  pub high : List ℕ
  pub member : In high (faces c)
  pub long : length high ≡ length s + 1

collapse_step : (c : List (List ℕ)) (s t : List ℕ) → IsFacets c → is_set s ≡ true → is_free c s ≡ true → partner c s ≡ Some t → (x : ℕ) × In x t × (without t x ≡ s) → length s + 1 ≡ length t → IsCollapseStep c s (collapse c s)
collapse_step c s t h u free p x n = subst (λ e. IsCollapseStep c s e) (sym (collapse_drops c s t h u p)) (record {
  some = some;
  counts = λ k. omega (arith, count_drop c t h top k, count_drop d s g left k, ap (λ l. one_if (l == k)) n);
  ranks = λ k. omega (arith, rank_drop c t h top k, rank_drop d s g left k);
  falls = omega (arith, rank_falls c t h top s (length s) u some (sym n) (subst (λ y. In y (column t)) x.2 (in_map (without t) x.0 t x.1)) p, rank_drop d s g left (length s));
  fewer = λ b i. drop_fewer c t b h top (drop_fewer d s b g left i);
  high = t;
  member = facet_in_faces c t h top;
  long = sym n;
})
  where
    d : List (List ℕ)
    d = drop_face c t

    top : stands_in c t ≡ true
    top = partner_facet c s t h u p

    g : IsFacets d
    g = drop_facets c t h

    left : stands_in d s ≡ true
    left = left_facet c s t h u p

    some : 0 < length s
    some = positive s (not_true (length s == 0) (and_left _ _ free))
      where
        positive : (y : List ℕ) → (length y == 0) ≡ false → 0 < length y
        positive [] e = absurd (true≢false e)
        positive (a ∷ y) e = omega arith

-- ---- the counts of critical steps
count_critical : (m : MorseStep) (ms : List MorseStep) (k : ℕ) → critical_count (m ∷ ms) k ≡ critical_count ms k + one_if (is_critical_of k m)
count_critical m ms k = by (is_critical_of k m)
  where
    by : (b : Bool) → length (cond b (m ∷ filter (is_critical_of k) ms) (filter (is_critical_of k) ms)) ≡ critical_count ms k + one_if b
    by true = omega arith
    by false = omega arith

-- ---- the end of a list
pub bare_face : (c : List (List ℕ)) (s : List ℕ) → IsFacets c → is_bare c ≡ true → In s (faces c) → length s ≡ 0
bare_face c s h b i =
    let p = from_faces c s (sets_of c h.simplices) i in
    let r = face_at c s p.1 in
    let empty = equal_at (length r.0) 0 (all_at (λ t. length t == 0) r.0 c b r.1) in
    let short = within_length s r.0 p.0 (all_at is_set r.0 c (sets_of c h.simplices) r.1) r.2 in
    omega (arith, empty, short)

bare_count : (c : List (List ℕ)) (k : ℕ) → IsFacets c → is_bare c ≡ true → face_count c (k + 1) ≡ 0
bare_count c k h b = by (faces_of_size c (k + 1)) refl
  where
    by : (l : List (List ℕ)) → faces_of_size c (k + 1) ≡ l → length l ≡ 0
    by [] e = refl
    by (s ∷ l) e =
        let r = from_filter (λ t. length t == k + 1) s (faces c) (subst (λ x. In s x) (sym e) first) in
        absurd (omega (arith, equal_at (length s) (k + 1) r.1, bare_face c s h b r.0))

-- ---- from the end back
pub record IsWalk (c : List (List ℕ)) (ms : List MorseStep) : Type 0 where
  pub facets : IsFacets c
  pub faces : list_all (λ m. is_simplex m.low) ms ≡ true
  pub list : is_morse_list c ms ≡ true

module _ (c : List (List ℕ)) (m : MorseStep) (ms : List MorseStep) (w : IsWalk c (m ∷ ms)) where
  possible : is_possible c m ≡ true
  possible = and_left _ _ w.list

  pub walk_on : IsWalk (after_step c m) ms
  walk_on = record { facets = step_facets c m w.facets; faces = and_right (is_simplex m.low) _ w.faces; list = and_right (is_possible c m) _ w.list }

  pub walk_critical : is_critical m ≡ true → IsCriticalStep c m.low (after_step c m)
  walk_critical e =
      subst (λ d. IsCriticalStep c m.low d) (ap (λ v. cond v (drop_face c m.low) (collapse c m.low)) (sym e))
      (critical_step c m.low w.facets (and_right (not (length m.low == 0)) _ (critical_at c m possible e)))

  pub walk_collapse : is_critical m ≡ false → IsCollapseStep c m.low (after_step c m)
  walk_collapse e =
      let q = collapse_at c m possible e in
      let u = rising_of m.low (and_left _ _ w.faces) in
      let x = partner_cover c m.low m.high w.facets u q.partner_is in
      subst (λ d. IsCollapseStep c m.low d) (ap (λ v. cond v (drop_face c m.low) (collapse c m.low)) (sym e))
      (collapse_step c m.low m.high w.facets u q.free q.partner_is (x.label, x.has, x.rest) x.long)

-- as many faces as critical steps and ranks
pub bounded : (ms : List MorseStep) (c : List (List ℕ)) (k : ℕ) → IsWalk c ms → face_count c (k + 1) ≤ critical_count ms k + rank_at c k + rank_at c (k + 1)
bounded [] c k w = omega (arith, bare_count c k w.facets w.list)
bounded (m ∷ ms) c k w = by (is_critical m) refl (bounded ms (after_step c m) k (walk_on c m ms w))
  where
    d : List (List ℕ)
    d = after_step c m

    by : (v : Bool) → is_critical m ≡ v → face_count d (k + 1) ≤ critical_count ms k + rank_at d k + rank_at d (k + 1) → face_count c (k + 1) ≤ critical_count (m ∷ ms) k + rank_at c k + rank_at c (k + 1)
    by true e rest =
        let q = walk_critical c m ms w e in
        let more : critical_count (m ∷ ms) k ≡ critical_count ms k + one_if (length m.low == k + 1) = count_critical m ms k ∙ ap (λ b. critical_count ms k + one_if (b && (length m.low == k + 1))) e in
        omega (arith, rest, more, q.counts (k + 1), q.ranks k, q.ranks (k + 1))
    by false e rest =
        let q = walk_collapse c m ms w e in
        let more : critical_count (m ∷ ms) k ≡ critical_count ms k = count_critical m ms k ∙ ap (λ b. critical_count ms k + one_if (b && (length m.low == k + 1))) e ∙ omega arith in
        on_size q more rest (length m.low + 1 == k + 1) (length m.low == k + 1) refl refl
      where
        on_size : IsCollapseStep c m.low d → critical_count (m ∷ ms) k ≡ critical_count ms k → face_count d (k + 1) ≤ critical_count ms k + rank_at d k + rank_at d (k + 1)
            → (x y : Bool) → (length m.low + 1 == k + 1) ≡ x → (length m.low == k + 1) ≡ y → face_count c (k + 1) ≤ critical_count (m ∷ ms) k + rank_at c k + rank_at c (k + 1)
        on_size q more rest true true f g = absurd (omega (arith, equal_at (length m.low + 1) (k + 1) f, equal_at (length m.low) (k + 1) g))
        on_size q more rest true false f g =
            let at : length m.low ≡ k = omega (arith, equal_at (length m.low + 1) (k + 1) f) in
            let falls : rank_at d k + 1 ≤ rank_at c k = subst (λ n. rank_at d n + 1 ≤ rank_at c n) at q.falls in
            omega (arith, rest, more, q.counts (k + 1), ap one_if f, ap one_if g, falls, q.ranks (k + 1))
        on_size q more rest false true f g =
            let at : length m.low ≡ k + 1 = equal_at (length m.low) (k + 1) g in
            let falls : rank_at d (k + 1) + 1 ≤ rank_at c (k + 1) = subst (λ n. rank_at d n + 1 ≤ rank_at c n) at q.falls in
            omega (arith, rest, more, q.counts (k + 1), ap one_if f, ap one_if g, falls, q.ranks k)
        on_size q more rest false false f g = omega (arith, rest, more, q.counts (k + 1), ap one_if f, ap one_if g, q.ranks k, q.ranks (k + 1))

walk_of : (c : List (List ℕ)) (ms : List MorseStep) → IsMorseListOf c ms → IsWalk c ms
walk_of c ms h = record { facets = record { simplices = h.simplices; complex = h.complex }; faces = h.faces; list = h.list }

pub inequalities_lem : MorseInequalities
inequalities_lem c ms k h = omega (arith, ints, bounded ms c k (walk_of c ms h))

-- ---- the Euler characteristic
abbrev counted : List (List ℕ) → ℕ → ℕ
counted c k = face_count c (k + 1)

pub balanced : (ms : List MorseStep) (c : List (List ℕ)) (n : ℕ) → IsWalk c ms → ((s : List ℕ) → In s (faces c) → length s ≤ n) → signed_sum (critical_count ms) 0 n ≡ signed_sum (counted c) 0 n
balanced [] c n w f =
    signed_zero (critical_count []) 0 n (λ k l. refl) ∙ sym (signed_zero (counted c) 0 n (λ k l. bare_count c k w.facets w.list))
balanced (m ∷ ms) c n w f = by (is_critical m) refl (λ g. balanced ms (after_step c m) n (walk_on c m ms w) g)
  where
    d : List (List ℕ)
    d = after_step c m

    by : (v : Bool) → is_critical m ≡ v → (((s : List ℕ) → In s (faces d) → length s ≤ n) → signed_sum (critical_count ms) 0 n ≡ signed_sum (counted d) 0 n)
        → signed_sum (critical_count (m ∷ ms)) 0 n ≡ signed_sum (counted c) 0 n
    by true e rest =
        let q = walk_critical c m ms w e in
        let here : ℕ → ℕ = λ k. one_if (length m.low == k + 1) in
        signed_add (critical_count (m ∷ ms)) (critical_count ms) here 0 n (λ k. count_critical m ms k ∙ ap (λ b. critical_count ms k + one_if (b && (length m.low == k + 1))) e)
        ∙ ap (λ z. z +ℤ signed_sum here 0 n) (rest (λ s i. f s (q.fewer s i)))
        ∙ sym (signed_add (counted c) (counted d) here 0 n (λ k. q.counts (k + 1)))
    by false e rest =
        let q = walk_collapse c m ms w e in
        signed_same (critical_count (m ∷ ms)) (critical_count ms) 0 n (λ k. count_critical m ms k ∙ ap (λ b. critical_count ms k + one_if (b && (length m.low == k + 1))) e ∙ omega arith)
        ∙ rest (λ s i. f s (q.fewer s i))
        ∙ omega (arith, ints, pair_zero (length m.low) 0 n (omega (arith, q.some)) (omega (arith, f q.high q.member, q.long)), signed_add (counted c) (counted d) (pair_at (length m.low)) 0 n (λ k. q.counts (k + 1)))

within_size : (c : List (List ℕ)) (s : List ℕ) → In s (faces c) → length s ≤ size c
within_size c s i = by (ltb (size c) (length s)) refl
  where
    by : (b : Bool) → ltb (size c) (length s) ≡ b → length s ≤ size c
    by true e = absurd (none s (subst (λ l. In s l) (no_faces c (length s) (below (size c) (length s) e)) (in_size c (length s) s i refl)))
      where
        below : (x y : ℕ) → ltb x y ≡ true → x < y
        below x y g = grind (arith, nat_tests)
    by false e = not_below (size c) (length s) e
      where
        not_below : (x y : ℕ) → ltb x y ≡ false → y ≤ x
        not_below x y g = grind (arith, nat_tests)

pub euler_lem : MorseEuler
euler_lem c ms h = balanced ms c (size c) (walk_of c ms h) (λ s i. within_size c s i) ∙ ap alternating (sym (places_shift (face_count c) 0 (size c)))

-- ---- faults
no_fault : (at : ℕ) (c : List (List ℕ)) (ms : List MorseStep) → first_failing (morse_tests at c ms) ≡ None → is_morse_list c ms ≡ true
no_fault at c [] h = by (is_bare c) h
  where
    by : (b : Bool) → first_failing ((b, Rest) ∷ []) ≡ None → b ≡ true
    by true g = refl
    by false g = cc
no_fault at c (m ∷ ms) h = by (is_possible c m) h (no_fault (at + 1) (after_step c m) ms)
  where
    by : (b : Bool) → first_failing ((b, Step at) ∷ morse_tests (at + 1) (after_step c m) ms) ≡ None
        → (first_failing (morse_tests (at + 1) (after_step c m) ms) ≡ None → is_morse_list (after_step c m) ms ≡ true) → (b && is_morse_list (after_step c m) ms) ≡ true
    by true g f = f g
    by false g f = cc

faultless : (at : ℕ) (c : List (List ℕ)) (ms : List MorseStep) → is_morse_list c ms ≡ true → first_failing (morse_tests at c ms) ≡ None
faultless at c [] h = ap (λ b. cond b None (Some Rest)) h
faultless at c (m ∷ ms) h =
    ap (λ b. cond b (first_failing (morse_tests (at + 1) (after_step c m) ms)) (Some (Step at))) (and_left _ _ h)
    ∙ faultless (at + 1) (after_step c m) ms (and_right (is_possible c m) _ h)

pub faultless_lem : FaultlessIsMorseList
faultless_lem c ms = (no_fault 1 c ms, faultless 1 c ms)

-- ---- a whole pass over a list
drop_end : {X : Type 0} (xs : List X) (i : ℕ) → length xs ≤ i → drop i xs ≡ []
drop_end [] zero l = refl
drop_end [] (suc i) l = refl
drop_end (x ∷ xs) zero l = absurd (omega arith)
drop_end (x ∷ xs) (suc i) l = drop_end xs i (omega arith)

pub passed_all : (c d : List (List ℕ)) (ms items : List MorseStep) (i : ℕ) (b : Bool) → IsFacets c → items ≡ ms → length items ≤ i → is_morse_list c ms ≡ is_morse_list d (drop i ms)
    → list_all (λ m. is_simplex m.low) (take i ms) ≡ true → b ≡ is_bare d → b ≡ true → IsMorseListOf c ms
passed_all c d ms items i b h e l list steps bare t = record {
  simplices = h.simplices;
  complex = h.complex;
  faces = ap (list_all (λ m. is_simplex m.low)) (sym (take_all i ms short)) ∙ steps;
  list = list ∙ ap (is_morse_list d) (drop_end ms i short) ∙ sym bare ∙ t;
}
  where
    short : length ms ≤ i
    short = subst (λ xs. length xs ≤ i) e l
