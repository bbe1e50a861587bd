-- How far the flips of a list go.
use Rattle.std.proofs.Common.{◌≡◌, ℕ, zero, suc, ◌+◌, ◌≤◌, ◌<◌, true, false, cond, leb, ◌&&◌, List, [], ◌∷◌, length, get_or, drop, add-one, zero-add, refl, sym, ap, ◌∙◌, arith}
use mathlib.Core.Bool.{true≢false}
use Rattle.std.proofs.Math.Seq.{drop-cons}
use Rattle.std.proofs.lemmas.Bool.Decides.{nat_tests}
use Rattle.simplex.specs.declared.flip.Flip.{Flip}
use Rattle.simplex.proofs.InOrderLaws.{and_both}
use Rattle.simplex.proofs.Decided.{false_from}
use Rattle.facet_set.specs.Numbers.{size}
use Rattle.facet_set.specs.Flips.{allowed, flip, goes, after}
use Rattle.facet_set.proofs.FlipLaws.{parts_of}
use Rattle.flip_certificate.specs.Valid.{flips_that_go, is_pure_from}

-- the flips of the list go exactly where the rest of them, after i, go from d, and both lead to one complex
pub record Reaches (c d : List (List ℕ)) (ms rest : List Flip) (i : ℕ) : Type 0 where
  pub goes_is : goes c ms ≡ goes d rest
  pub after_is : after c ms ≡ after d rest
  pub count_is : flips_that_go c ms ≡ i + flips_that_go d rest

pub first_way : (c : List (List ℕ)) (ms : List Flip) → Reaches c c ms (drop 0 ms) 0
first_way c ms = record { goes_is = refl; after_is = refl; count_is = sym (zero-add (flips_that_go c ms)) }

split_at : (ms : List Flip) (i : ℕ) (m d : Flip) → i < length ms → m ≡ get_or ms i d → drop i ms ≡ m ∷ drop (i + 1) ms
split_at ms i m d h e = drop-cons ms i d h ∙ ap (λ n. get_or ms i d ∷ drop n ms) (sym (add-one i)) ∙ ap (λ x. x ∷ drop (i + 1) ms) (sym e)

pub next_way : (c d : List (List ℕ)) (ms : List Flip) (i : ℕ) (m e : Flip) → i < length ms → m ≡ get_or ms i e → allowed d m.a m.b ≡ true
    → Reaches c d ms (drop i ms) i → Reaches c (flip d m.a m.b) ms (drop (i + 1) ms) (i + 1)
next_way c d ms i m e h is ok w =
    let s = split_at ms i m e h is in
    let rest : List Flip = drop (i + 1) ms in
    let more : ℕ = flips_that_go (flip d m.a m.b) rest in
    let sums : i + (1 + more) ≡ i + 1 + more = omega arith in
    record {
      goes_is = w.goes_is ∙ ap (goes d) s ∙ ap (λ v. v && goes (flip d m.a m.b) rest) ok;
      after_is = w.after_is ∙ ap (after d) s;
      count_is = w.count_is ∙ ap (λ r. i + flips_that_go d r) s ∙ ap (λ v. i + cond v (1 + more) 0) ok ∙ sums;
    }

pub stuck_way : (c d : List (List ℕ)) (ms : List Flip) (i : ℕ) (m e : Flip) → i < length ms → m ≡ get_or ms i e → allowed d m.a m.b ≡ false
    → Reaches c d ms (drop i ms) i → (goes c ms ≡ false) × (flips_that_go c ms ≡ i)
stuck_way c d ms i m e h is out w =
    let s = split_at ms i m e h is in
    let rest : List Flip = drop (i + 1) ms in
    let none : i + 0 ≡ i = omega arith in (
      w.goes_is ∙ ap (goes d) s ∙ ap (λ v. v && goes (flip d m.a m.b) rest) out,
      w.count_is ∙ ap (λ r. i + flips_that_go d r) s ∙ ap (λ v. i + cond v (1 + flips_that_go (flip d m.a m.b) rest) 0) out ∙ none,
    )

past : (ms : List Flip) (n : ℕ) → length ms ≤ n → drop n ms ≡ []
past [] zero h = refl
past [] (suc n) h = refl
past (m ∷ ms) zero h = absurd (omega arith)
past (m ∷ ms) (suc n) h = past ms n (omega arith)

pub last_way : (c d : List (List ℕ)) (ms : List Flip) (n : ℕ) → length ms ≤ n → Reaches c d ms (drop n ms) n → (goes c ms ≡ true) × (after c ms ≡ d)
last_way c d ms n h w = let e = past ms n h in (w.goes_is ∙ ap (goes d) e, w.after_is ∙ ap (after d) e)

-- ---- on complexes without a table
pub none_goes : (c : List (List ℕ)) (ms : List Flip) → length ms ≡ 0 → (goes c ms ≡ true) × (after c ms ≡ c)
none_goes c [] h = (refl, refl)
none_goes c (m ∷ ms) h = absurd (omega arith)

-- a complex on which a flip is allowed is pure, with a label in each facet
pure_for : (c : List (List ℕ)) (a b : List ℕ) → allowed c a b ≡ true → is_pure_from 1 c ≡ true
pure_for c a b ok =
    let p = parts_of c a b ok in
    let x = p.sizes.0 in let y = p.sizes.1 in let z = p.sizes.2 in
    and_both _ _ p.pure (one (omega arith))
  where
    one : 1 ≤ size c → leb 1 (size c) ≡ true
    one e = grind (arith, nat_tests)

pub impure_stuck : (c : List (List ℕ)) (ms : List Flip) → 0 < length ms → is_pure_from 1 c ≡ false → (goes c ms ≡ false) × (flips_that_go c ms ≡ 0)
impure_stuck c [] h k = absurd (omega arith)
impure_stuck c (m ∷ ms) h k =
    let out : allowed c m.a m.b ≡ false = false_from _ (λ ok. true≢false (sym (pure_for c m.a m.b ok) ∙ k)) in (
      ap (λ v. v && goes (flip c m.a m.b) ms) out,
      ap (λ v. cond v (1 + flips_that_go (flip c m.a m.b) ms) 0) out,
    )
