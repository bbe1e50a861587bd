-- A pass over the faces of a facet from the greatest number down.
use Rattle.std.proofs.Common.{◌≡◌, ℕ, suc, ◌<◌, ◌≤◌, ◌+◌, ◌-◌, ◌^◌, Bool, true, false, not, cond, ◌&&◌, ◌||◌, List, [], ◌∷◌, ◌++◌, length, take, get_or, Option, Some, None, is_some, IsSomeAnd, refl, sym, ap, ◌∙◌, subst, arith}
use Rattle.std.specs.Bool.{IsTrue}
use Rattle.std.specs.Prelude.{◌==◌}
use Rattle.std.specs.List.{filter}
use Rattle.std.proofs.lemmas.Bool.Decides.{nat_tests}
use Rattle.simplex.specs.Simplex.{has, is_simplex, is_within, minus, subset_at}
use Rattle.simplex.specs.InOrder.{put}
use Rattle.std.specs.Ordering.{nat_cmp}
use Rattle.std.proofs.Math.Numerals.{add-one}
use Rattle.std.proofs.Math.Pow.{pow_mono}
use Rattle.std.proofs.lemmas.Nat.{pow_pos}
use Rattle.std.proofs.lemmas.List.{get_or_default, take_more}
use Rattle.std.proofs.lemmas.List.Elements.{filter-append}
use Rattle.simplex.proofs.InOrderLaws.{and_both}
use Rattle.simplex.proofs.Members.{In, first, later, in_contains}
use Rattle.simplex.proofs.Decided.{false_from, or_none, or_right}
use Rattle.facet_set.proofs.FaceNumbers.{kept_after, kept_all, same_from, swapped}
use Rattle.facet_set.proofs.GeneratedLaws.{same, same_at, is_reached, reached_at}
use Rattle.simplex.proofs.SubsetLaws.{one_number, subset_within}
use Rattle.simplex.proofs.Filled.{rising_of, short_of, simplex-subset_at}
use Rattle.face_lattice.specs.States.{CellState, emptied, less, put_less, has_degree}
use Rattle.face_lattice.specs.Slots.{SlabState, after_less, beside, AreNoted, IsNoted, spread}
use Rattle.face_lattice.proofs.MaskLaws.{one_bit}

-- the numbers below 2 ^ length have all faces, each once
some_if : (b : Bool) → is_some {T = ℕ} (cond b (Some 0) None) ≡ b
some_if true = refl
some_if false = refl

all_reached : (f : List ℕ) (n : ℕ) (t : List ℕ) → IsTrue (is_simplex f) → n ≡ 2 ^ length f → is_reached f n t ≡ (is_simplex t && is_within t f)
all_reached f n t h e =
    let k = kept_all (λ g s o. 0) (λ s. true) f n (λ s. None) (kept_after (λ g s o. 0) f n (λ s. None)) h e (λ s p. refl) t refl in
    sym (some_if (is_reached f n t)) ∙ ap (is_some {T = ℕ}) k ∙ some_if (is_simplex t && is_within t f)

not_reached : (f : List ℕ) (n m : ℕ) → IsTrue (is_simplex f) → n ≤ m → m < 2 ^ length f → is_reached f n (subset_at f m) ≡ false
not_reached f n m h l b = false_from _ (λ r. let q = reached_at f n (subset_at f m) r in let k = one_number f q.0 m (rising_of f h) (omega (arith, q.1, l, b)) b (sym q.2) in absurd (omega (arith, k, q.1, l)))

module _ {V : Type 0} (old last : List ℕ → Option V) where
  -- what is kept when the numbers from n on are done
  abbrev pub kept_from : List ℕ → ℕ → List ℕ → Option V
  kept_from f n t = cond (is_reached f n t) (old t) (last t)

  pub fall_start : (f : List ℕ) (n : ℕ) (t : List ℕ) → IsTrue (is_simplex f) → n ≡ 2 ^ length f → ((is_simplex t && is_within t f) ≡ false → last t ≡ old t) → old t ≡ kept_from f n t
  fall_start f n t h e g = by (is_simplex t && is_within t f) refl ∙ sym (ap (λ b. cond b (old t) (last t)) (all_reached f n t h e))
    where
      by : (b : Bool) → (is_simplex t && is_within t f) ≡ b → old t ≡ cond b (old t) (last t)
      by true k = refl
      by false k = sym (g k)

  pub fall_here : (f : List ℕ) (n : ℕ) → IsTrue (is_simplex f) → kept_from f (suc n) (subset_at f n) ≡ old (subset_at f n)
  fall_here f n h = ap (λ b. cond b (old (subset_at f n)) (last (subset_at f n))) (reached_last (is_reached f n (subset_at f n)) (same (subset_at f n) (subset_at f n)) (same_from (subset_at f n) (subset_at f n) refl))
    where
      reached_last : (a b : Bool) → b ≡ true → (a || b) ≡ true
      reached_last true b e = refl
      reached_last false b e = e

  pub fall_above : (f : List ℕ) (n m : ℕ) → IsTrue (is_simplex f) → n < m → m < 2 ^ length f → kept_from f (suc n) (subset_at f m) ≡ last (subset_at f m)
  fall_above f n m h l b = ap (λ v. cond v (old (subset_at f m)) (last (subset_at f m))) (not_reached f (suc n) m h (omega (arith, l)) b)

  pub fall_next : (f s t : List ℕ) (n : ℕ) (now new : Option V) → IsTrue (is_simplex f) → n < 2 ^ length f → s ≡ subset_at f n → now ≡ kept_from f (suc n) t
      → new ≡ cond (same s t) (last s) now → new ≡ kept_from f n t
  fall_next f s t n now new h l e k g = g ∙ by (same s t) refl
    where
      by : (b : Bool) → same s t ≡ b → cond b (last s) now ≡ kept_from f n t
      by true q =
          let one : subset_at f n ≡ t = sym e ∙ same_at s t q in
          ap last (same_at s t q) ∙ sym (ap (λ v. cond v (old t) (last t)) (ap (is_reached f n) (sym one) ∙ not_reached f n n h (omega arith) l))
      by false q = k ∙ ap (λ v. cond v (old t) (last t)) (or_none (is_reached f n t) (same t (subset_at f n)) (swapped t (subset_at f n) ∙ subst (λ x. same x t ≡ false) e q))

-- ---- degrees one lower
zero_is_one : (lost : List ℕ) (c : CellState) → 0 < c.degree → has_degree 0 (Some (less lost c)) ≡ has_degree 1 (Some c)
zero_is_one lost c l = by (c.degree == 1) refl
  where
    by : (b : Bool) → (c.degree == 1) ≡ b → has_degree 0 (Some (cond b (emptied c) (record c { degree = c.degree - 1; up = minus c.up lost }))) ≡ (c.degree == 1)
    by true q = sym q
    by false q = let z : (c.degree - 1 == 0) ≡ false = grind (arith, nat_tests) in z ∙ sym q

zero_at : (lost : List ℕ) (o : Option CellState) → IsSomeAnd o (λ c. 0 < c.degree) → has_degree 0 (Some (put_less lost o)) ≡ has_degree 1 o
zero_at lost None h = absurd h
zero_at lost (Some c) h = zero_is_one lost c h

pub filter_alike : (p q : ℕ → Bool) (xs : List ℕ) → ((x : ℕ) → In x xs → p x ≡ q x) → filter p xs ≡ filter q xs
filter_alike p q [] h = refl
filter_alike p q (x ∷ xs) h = λ i. cond (h x first i) (x ∷ filter_alike p q xs (λ y j. h y (later j)) i) (filter_alike p q xs (λ y j. h y (later j)) i)

-- ---- one facet less
pub after_at : (f : List ℕ) (old : List ℕ → Option CellState) (n : ℕ) → IsTrue (is_simplex f) → after_less f old (subset_at f n) ≡ Some (put_less (beside 1 f old (subset_at f n)) (old (subset_at f n)))
after_at f old n h =
    let s = subset_at f n in
    ap (λ b. cond b (Some (put_less (beside 1 f old s) (old s))) (old s)) (and_both (is_simplex s) (is_within s f) (simplex-subset_at f n h) (subset_within f n))

-- the labels whose faces with s have no degree left are those whose faces had degree 1
pub beside_same : (f : List ℕ) (old now : List ℕ → Option CellState) (m : ℕ) → IsTrue (is_simplex f) → m < 2 ^ length f
    → ((t : List ℕ) → now t ≡ kept_from old (after_less f old) f (suc m) t) → ((k : ℕ) → k < 2 ^ length f → IsSomeAnd (old (subset_at f k)) (λ c. 0 < c.degree))
    → beside 0 f now (subset_at f m) ≡ beside 1 f old (subset_at f m)
beside_same f old now m h b k there = filter_alike _ _ f (λ x i. by x i (has (subset_at f m) x) refl)
  where
    by : (x : ℕ) → In x f → (v : Bool) → has (subset_at f m) x ≡ v → (not v && has_degree 0 (now (put nat_cmp x (subset_at f m)))) ≡ (not v && has_degree 1 (old (put nat_cmp x (subset_at f m))))
    by x i true e = refl
    by x i false e =
        let q = in_contains f x i in
        let j = q.0 in
        let same_x : get_or f j 0 ≡ x = get_or_default f j 0 x q.1 ∙ q.2 in
        let n = m + 2 ^ j in
        let more = one_bit f m j (rising_of f h) q.1 b (ap (has (subset_at f m)) same_x ∙ e) in
        let u : put nat_cmp x (subset_at f m) ≡ subset_at f n = sym (more.subset ∙ ap (λ y. put nat_cmp y (subset_at f m)) same_x) in
        let above : m < n = omega (arith, pow_pos j) in
        ap (λ t. has_degree 0 (now t)) u
        ∙ ap (has_degree 0) (k (subset_at f n) ∙ fall_above old (after_less f old) f m n h above more.below ∙ after_at f old n h)
        ∙ zero_at (beside 1 f old (subset_at f n)) (old (subset_at f n)) (there n more.below)
        ∙ ap (λ t. has_degree 1 (old t)) (sym u)

pub filter_step : (p : ℕ → Bool) (xs : List ℕ) (j d : ℕ) (b : Bool) → j < length xs → p (get_or xs j d) ≡ b → filter p (take (j + 1) xs) ≡ filter p (take j xs) ++ cond b (get_or xs j d ∷ []) []
filter_step p xs j d b l e = ap (filter p) (take_more xs j d l) ∙ filter-append p (take j xs) (get_or xs j d ∷ []) ∙ ap (λ v. filter p (take j xs) ++ cond v (get_or xs j d ∷ []) []) e

pub small_mask : (f : List ℕ) (m : ℕ) → IsTrue (is_simplex f) → m < 2 ^ length f → m < 2 ^ 12
small_mask f m h l = let k : 2 ^ length f ≤ 2 ^ 12 = pow_mono (short_of f h) in omega (arith, k, l)

pub small_number : (f : List ℕ) (m b j : ℕ) → IsTrue (is_simplex f) → j < length f → m < 2 ^ length f → b ≡ 2 ^ j → m + b < 2 ^ 13
small_number f m b j h l lm e =
    let low : j ≤ 12 = omega (arith, l, short_of f h) in
    let k : 2 ^ j ≤ 2 ^ 12 = pow_mono low in
    let s = small_mask f m h lm in
    omega (arith, k, s, e)

-- the larger face is noted
pub record IsNotedAt (v : SlabState) (ids s : List ℕ) (gap n : ℕ) : Type 0 where
  pub small : n < 2 ^ 13
  pub below : spread gap n < length ids
  pub noted : IsNoted v s (get_or ids (spread gap n) 0)

pub larger_noted : (v : SlabState) (f ids s items : List ℕ) (gap m b j : ℕ) → AreNoted v f gap ids → IsTrue (is_simplex f) → items ≡ f → s ≡ subset_at f m → b ≡ 2 ^ j → j < length items → m < 2 ^ length f
    → has s (get_or items j 0) ≡ false → IsNotedAt v ids (put nat_cmp (get_or items j 0) s) gap (m + b)
larger_noted v f ids s items gap m b j a h ei es eb l lm hs =
    let lf : j < length f = omega (arith, l, ap length ei) in
    let ex : get_or items j 0 ≡ get_or f j 0 = ap (λ xs. get_or xs j 0) ei in
    let more = one_bit f m j (rising_of f h) lf lm (sym (λ i. has (es i) (ex i)) ∙ hs) in
    let set : subset_at f (m + 2 ^ j) ≡ put nat_cmp (get_or items j 0) s = more.subset ∙ sym (λ i. put nat_cmp (ex i) (es i)) in
    let same_n : m + 2 ^ j ≡ m + b = omega (arith, eb) in
    record {
      small = small_number f m b j h lf lm eb;
      below = subst (λ n. spread gap n < length ids) same_n (a.below (m + 2 ^ j) more.below);
      noted = subst (λ n. IsNoted v (put nat_cmp (get_or items j 0) s) (get_or ids (spread gap n) 0)) same_n (subst (λ t. IsNoted v t (get_or ids (spread gap (m + 2 ^ j)) 0)) set (a.at (m + 2 ^ j) more.below));
    }

-- ---- a pass from the least number up
module _ {V : Type 0} (old last : List ℕ → Option V) where
  -- what is kept when the numbers below n are done
  abbrev pub kept_below : List ℕ → ℕ → List ℕ → Option V
  kept_below f n t = cond (is_reached f n t) (last t) (old t)

  pub rise_here : (f : List ℕ) (n : ℕ) → IsTrue (is_simplex f) → n < 2 ^ length f → kept_below f n (subset_at f n) ≡ old (subset_at f n)
  rise_here f n h l = ap (λ b. cond b (last (subset_at f n)) (old (subset_at f n))) (not_reached f n n h (omega arith) l)

  pub rise_next : (f s t : List ℕ) (n : ℕ) (now new : Option V) → s ≡ subset_at f n → now ≡ kept_below f n t → new ≡ cond (same s t) (last s) now → new ≡ kept_below f (n + 1) t
  rise_next f s t n now new e k g = g ∙ by (same s t) refl ∙ sym (ap (λ m. kept_below f m t) (add-one n))
    where
      by : (b : Bool) → same s t ≡ b → cond b (last s) now ≡ kept_below f (suc n) t
      by true q =
          let one : t ≡ subset_at f n = sym (same_at s t q) ∙ e in
          ap last (same_at s t q) ∙ sym (ap (λ v. cond v (last t) (old t)) (or_right (is_reached f n t) (same t (subset_at f n)) (same_from t (subset_at f n) one)))
      by false q = k ∙ sym (ap (λ v. cond v (last t) (old t)) (or_none (is_reached f n t) (same t (subset_at f n)) (swapped t (subset_at f n) ∙ subst (λ x. same x t ≡ false) e q)))

  pub rise_end : (f : List ℕ) (n : ℕ) (t : List ℕ) → IsTrue (is_simplex f) → n ≡ 2 ^ length f → kept_below f n t ≡ cond (is_simplex t && is_within t f) (last t) (old t)
  rise_end f n t h e = ap (λ b. cond b (last t) (old t)) (all_reached f n t h e)

-- another number has another subset
pub other_subset : (f : List ℕ) (m k : ℕ) → IsTrue (is_simplex f) → m < 2 ^ length f → k < 2 ^ length f → m < k → same (subset_at f m) (subset_at f k) ≡ false
other_subset f m k h l b n = false_from _ (λ q. let e = one_number f m k (rising_of f h) l b (same_at (subset_at f m) (subset_at f k) q) in absurd (omega (arith, e, n)))
