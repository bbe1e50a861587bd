-- The faces of a facet, one by one in the order of their numbers, and what a table with an entry for each face keeps on the way.
use Rattle.std.proofs.Common.{◌≡◌, ℕ, suc, ◌<◌, ◌≤◌, ◌+◌, ◌^◌, ◌*◌, ◌%◌, Bool, true, false, cond, if◌then◌else◌, ◌&&◌, List, length, Option, Some, refl, sym, ap, ◌∙◌, subst, arith}
use Rattle.std.specs.Bool.{IsTrue}
use Rattle.std.specs.Cmp.Lexicographic.{bytes_decides, nat_list_eq_equiv}
use Rattle.std.proofs.Math.Numerals.{add-one}
use Rattle.std.proofs.Math.Pow.{pow_mono}
use Rattle.simplex.specs.Simplex.{is_simplex, is_within, subset_at}
use Rattle.simplex.proofs.InOrderLaws.{and_left, and_right, and_both}
use Rattle.simplex.proofs.Filled.{rising_of, short_of, simplex-subset_at}
use Rattle.simplex.proofs.SubsetLaws.{subset_within, number_of, one_number}
use Rattle.simplex.proofs.Decided.{agree, false_from, or_right, or_none}
use Rattle.facet_set.proofs.GeneratedLaws.{same, same_at, is_reached, reached_at, reached_from}

pub same_from : (s t : List ℕ) → s ≡ t → same s t ≡ true
same_from s t e = (bytes_decides s t).1 e

pub swapped : (s t : List ℕ) → same s t ≡ same t s
swapped s t = nat_list_eq_equiv.symm s t

-- the numbers below 2 ^ length have all faces
reached_all : (f : List ℕ) (n : ℕ) (t : List ℕ) → IsTrue (is_simplex f) → n ≡ 2 ^ length f → is_reached f n t ≡ (is_simplex t && is_within t f)
reached_all f n t h e = agree _ _
    (λ r. let q = reached_at f n t r in
    and_both _ _ (subst (λ s. is_simplex s ≡ true) (sym q.2) (simplex-subset_at f q.0 h)) (subst (λ s. is_within s f ≡ true) (sym q.2) (subset_within f q.0)))
    (λ r. let q = number_of f t (rising_of f h) (rising_of t (and_left (is_simplex t) _ r)) (and_right (is_simplex t) _ r) in reached_from f n t q.0 (omega (arith, q.1, e)) q.2)

-- and each of them once
not_yet : (f : List ℕ) (n : ℕ) → IsTrue (is_simplex f) → n < 2 ^ length f → is_reached f n (subset_at f n) ≡ false
not_yet f n h l = false_from _ (λ r. let q = reached_at f n (subset_at f n) r in let k = one_number f q.0 n (rising_of f h) (omega (arith, q.1)) l (sym q.2) in absurd (omega (arith, k, q.1)))

-- what is kept at t, once the faces with the numbers below n have one facet more; what is put there is told by the facet, the face and what is kept
module _ {V : Type 0} (put : List ℕ → List ℕ → Option V → V) where
  abbrev pub kept_after : List ℕ → ℕ → (List ℕ → Option V) → List ℕ → Option V
  kept_after facet n old t = if is_reached facet n t then Some (put facet t (old t)) else old t

  -- all of it only at the lists that pass a test
  module _ (p : List ℕ → Bool) where
    abbrev pub AreAfter : List ℕ → ℕ → (List ℕ → Option V) → (List ℕ → Option V) → Type 0
    AreAfter f n old now = (t : List ℕ) → IsTrue (p t) → now t ≡ kept_after f n old t

    pub kept_here : (f : List ℕ) (n : ℕ) (old now : List ℕ → Option V) → IsTrue (is_simplex f) → n < 2 ^ length f → IsTrue (p (subset_at f n)) → AreAfter f n old now → now (subset_at f n) ≡ old (subset_at f n)
    kept_here f n old now h l s k = k (subset_at f n) s ∙ ap (λ b. cond b (Some (put f (subset_at f n) (old (subset_at f n)))) (old (subset_at f n))) (not_yet f n h l)

    pub kept_next : (f s : List ℕ) (n : ℕ) (old now new : List ℕ → Option V) → IsTrue (is_simplex f) → n < 2 ^ length f → s ≡ subset_at f n → AreAfter f n old now
        → ((t : List ℕ) → IsTrue (p t) → new t ≡ cond (same s t) (Some (put f s (now s))) (now t)) → AreAfter f (n + 1) old new
    kept_next f s n old now new h l e k g t pt = g t pt ∙ by (same s t) refl ∙ sym (ap (λ m. kept_after f m old t) (add-one n))
      where
        by : (b : Bool) → same s t ≡ b → cond b (Some (put f s (now s))) (now t) ≡ kept_after f (suc n) old t
        by true q =
            let one : subset_at f n ≡ t = sym e ∙ same_at s t q in
            let at : now s ≡ old t = ap now e ∙ kept_here f n old now h l (subst (λ u. IsTrue (p u)) (sym one) pt) k ∙ ap old one in
            ap (λ x. Some (put f s x)) at ∙ ap (λ x. Some (put f x (old t))) (same_at s t q)
            ∙ sym (ap (λ b. cond b (Some (put f t (old t))) (old t)) (or_right (is_reached f n t) (same t (subset_at f n)) (same_from t (subset_at f n) (sym one))))
        by false q = k t pt ∙ sym (ap (λ b. cond b (Some (put f t (old t))) (old t)) (or_none (is_reached f n t) (same t (subset_at f n)) (swapped t (subset_at f n) ∙ subst (λ x. same x t ≡ false) e q)))

    pub kept_all : (f : List ℕ) (n : ℕ) (old now : List ℕ → Option V) → IsTrue (is_simplex f) → n ≡ 2 ^ length f → AreAfter f n old now → (t : List ℕ) → IsTrue (p t)
        → now t ≡ cond (is_simplex t && is_within t f) (Some (put f t (old t))) (old t)
    kept_all f n old now h e k t pt = k t pt ∙ ap (λ b. cond b (Some (put f t (old t))) (old t)) (reached_all f n t h e)

-- the number of faces, as the machine has it
pub number_is : (f : List ℕ) (len : ℕ) → IsTrue (is_simplex f) → len ≡ length f → 1 * 2 ^ len % 2 ^ 32 ≡ 2 ^ length f
number_is f len h e =
    let k : len ≤ 12 = omega (arith, e, short_of f h) in
    let small : 2 ^ len ≤ 2 ^ 12 = pow_mono k in
    let whole : 1 * 2 ^ len % 2 ^ 32 ≡ 2 ^ len = omega arith in
    whole ∙ ap (λ n. 2 ^ n) e
