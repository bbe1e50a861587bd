-- The first flip that is not allowed, and the first place at which two lists differ.
use Rattle.std.proofs.Common.{◌≡◌, ◌≤◌, ◌<◌, ℕ, zero, suc, ◌+◌, Bool, true, false, cond, ◌&&◌, List, [], ◌∷◌, take, length, Option, Some, None, refl, sym, ap, ◌∙◌, subst, arith}
use Rattle.std.specs.Prelude.{◌==◌, slice_get}
use Rattle.simplex.specs.declared.flip.Flip.{Flip}
use Rattle.simplex.proofs.Decided.{equal_at, equal_from}
use Rattle.simplex.proofs.InOrderLaws.{and_left, and_right, and_both}
use Rattle.facet_set.specs.Flips.{allowed, after, flip, goes}
use Rattle.flip_certificate.specs.Laws.{GoJustSoFar, FirstStuck, DifferFirstAt, FirstDifference}
use Rattle.flip_certificate.specs.Valid.{flips_that_go, first_difference}

-- ---- the flips that go

one_more : (c : List (List ℕ)) (m : Flip) (ms : List Flip) (n : ℕ) → allowed c m.a m.b ≡ true → GoJustSoFar (flip c m.a m.b) ms n → GoJustSoFar c (m ∷ ms) (suc n)
one_more c m ms n e r = record {
  within = omega (arith, r.within);
  going = and_both _ _ e r.going;
  stuck = λ k h. r.stuck k h;
}

none_goes : (c : List (List ℕ)) (m : Flip) (ms : List Flip) → allowed c m.a m.b ≡ false → GoJustSoFar c (m ∷ ms) zero
none_goes c m ms e = record {
  within = omega arith;
  going = refl;
  stuck = λ k h. same k h;
}
  where
    same : (k : Flip) → Some m ≡ Some k → allowed c k.a k.b ≡ false
    same k h = let f : m ≡ k = cc in subst (λ (x : Flip). allowed c x.a x.b ≡ false) f e

go_so_far : (c : List (List ℕ)) (ms : List Flip) → GoJustSoFar c ms (flips_that_go c ms)
go_so_far c [] = record { within = omega arith; going = refl; stuck = λ m h. cc }
go_so_far c (m ∷ ms) = by (allowed c m.a m.b) refl (go_so_far (flip c m.a m.b) ms)
  where
    by : (v : Bool) → allowed c m.a m.b ≡ v → GoJustSoFar (flip c m.a m.b) ms (flips_that_go (flip c m.a m.b) ms) → GoJustSoFar c (m ∷ ms) (cond v (1 + flips_that_go (flip c m.a m.b) ms) 0)
    by true e r = subst (GoJustSoFar c (m ∷ ms)) (next (flips_that_go (flip c m.a m.b) ms)) (one_more c m ms (flips_that_go (flip c m.a m.b) ms) e r)
      where
        next : (n : ℕ) → suc n ≡ 1 + n
        next n = omega arith
    by false e r = none_goes c m ms e

-- there is one such number alone
one_number : (c : List (List ℕ)) (ms : List Flip) (n k : ℕ) → GoJustSoFar c ms n → GoJustSoFar c ms k → n ≡ k
one_number c ms zero zero r q = refl
one_number c [] zero (suc k) r q = let h = q.within in absurd (omega (arith, h))
one_number c (m ∷ ms) zero (suc k) r q = apart (r.stuck m refl) (and_left _ _ q.going)
  where
    apart : allowed c m.a m.b ≡ false → allowed c m.a m.b ≡ true → zero ≡ suc k
    apart e h = let f : false ≡ true = sym e ∙ h in cc
one_number c [] (suc n) k r q = let h = r.within in absurd (omega (arith, h))
one_number c (m ∷ ms) (suc n) zero r q = apart (q.stuck m refl) (and_left _ _ r.going)
  where
    apart : allowed c m.a m.b ≡ false → allowed c m.a m.b ≡ true → suc n ≡ zero
    apart e h = let f : false ≡ true = sym e ∙ h in cc
one_number c (m ∷ ms) (suc n) (suc k) r q = ap suc (one_number (flip c m.a m.b) ms n k (behind n r) (behind k q))
  where
    behind : (i : ℕ) → GoJustSoFar c (m ∷ ms) (suc i) → GoJustSoFar (flip c m.a m.b) ms i
    behind i x = record {
      within = let h = x.within in omega (arith, h);
      going = and_right (allowed c m.a m.b) _ x.going;
      stuck = λ j h. x.stuck j h;
    }

pub first_stuck_lem : FirstStuck
first_stuck_lem c ms n = (λ e. subst (GoJustSoFar c ms) e (go_so_far c ms), λ r. one_number c ms (flips_that_go c ms) n (go_so_far c ms) r)

-- ---- the first difference

pub first_difference_lem : FirstDifference
first_difference_lem [] [] f = absurd (f refl)
first_difference_lem [] (y ∷ ys) f = record { alike = λ k h. absurd (omega (arith, h)); apart = λ k e. at k e }
  where
    at : (k : ℕ) → k + 1 ≡ 1 → slice_get [] k ≡ slice_get (y ∷ ys) k → ⊥
    at zero e h = cc
    at (suc k) e h = absurd (omega (arith, e))
first_difference_lem (x ∷ xs) [] f = record { alike = λ k h. absurd (omega (arith, h)); apart = λ k e. at k e }
  where
    at : (k : ℕ) → k + 1 ≡ 1 → slice_get (x ∷ xs) k ≡ slice_get [] k → ⊥
    at zero e h = cc
    at (suc k) e h = absurd (omega (arith, e))
first_difference_lem (x ∷ xs) (y ∷ ys) f = by (x == y) refl (λ g. first_difference_lem xs ys g)
  where
    by : (v : Bool) → (x == y) ≡ v → ((xs ≡ ys → ⊥) → DifferFirstAt xs ys (first_difference xs ys)) → DifferFirstAt (x ∷ xs) (y ∷ ys) (cond v (1 + first_difference xs ys) 1)
    by true e rest = record { alike = λ k h. alike k h; apart = λ k h. apart k h }
      where
        same : x ≡ y
        same = equal_at x y e

        behind : DifferFirstAt xs ys (first_difference xs ys)
        behind = rest (λ g. f (both x y xs ys same g))
          where
            both : (x y : ℕ) (xs ys : List ℕ) → x ≡ y → xs ≡ ys → x ∷ xs ≡ y ∷ ys
            both x y xs ys e g = cc

        alike : (k : ℕ) → k + 1 < 1 + first_difference xs ys → slice_get (x ∷ xs) k ≡ slice_get (y ∷ ys) k
        alike zero h = ap (λ z. Some z) same
        alike (suc k) h = behind.alike k (omega (arith, h))

        apart : (k : ℕ) → k + 1 ≡ 1 + first_difference xs ys → slice_get (x ∷ xs) k ≡ slice_get (y ∷ ys) k → ⊥
        apart zero h = absurd (some xs ys (omega (arith, h)))
          where
            some : (xs ys : List ℕ) → first_difference xs ys ≡ 0 → ⊥
            some [] ys h = absurd (omega (arith, h))
            some (x ∷ xs) [] h = absurd (omega (arith, h))
            some (x ∷ xs) (y ∷ ys) h = each (x == y) h
              where
                each : (v : Bool) → cond v (1 + first_difference xs ys) 1 ≡ 0 → ⊥
                each true h = absurd (omega (arith, h))
                each false h = absurd (omega (arith, h))
        apart (suc k) h = behind.apart k (omega (arith, h))
    by false e rest = record { alike = λ k h. absurd (omega (arith, h)); apart = λ k h. at k h }
      where
        at : (k : ℕ) → k + 1 ≡ 1 → slice_get (x ∷ xs) k ≡ slice_get (y ∷ ys) k → ⊥
        at zero h g = differ (heads g)
          where
            heads : Some x ≡ Some y → x ≡ y
            heads g = cc

            differ : x ≡ y → ⊥
            differ g = apart (x == y) e (equal_from x y g)
              where
                apart : (v : Bool) → v ≡ false → v ≡ true → ⊥
                apart v a b = let h : false ≡ true = sym a ∙ b in cc
        at (suc k) h g = absurd (omega (arith, h))
