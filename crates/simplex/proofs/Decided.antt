-- What tests decide.
use Rattle.std.proofs.Common.{◌≡◌, ℕ, ◌≤◌, Bool, true, false, not, ◌||◌, eqb, nat_le, List, [], ◌∷◌, length, Option, Some, None, refl, sym, ◌∙◌, ◌⊎◌, inl, inr, arith}
use mathlib.Core.Bool.{true≢false}
use Rattle.std.specs.Prelude.{◌==◌}
use Rattle.std.specs.Option.{IsSome}
use Rattle.std.specs.List.{list_all, zip}
use Rattle.std.proofs.lemmas.Bool.Decides.{nat_tests}
use Rattle.simplex.specs.FirstFailing.{first_failing}

-- ---- truth
pub agree : (v w : Bool) → (v ≡ true → w ≡ true) → (w ≡ true → v ≡ true) → v ≡ w
agree true w f g = sym (f refl)
agree false true f g = g refl
agree false false f g = refl

pub false_from : (v : Bool) → (v ≡ true → ⊥) → v ≡ false
false_from true f = absurd (f refl)
false_from false f = refl

pub false_at : (v : Bool) → v ≡ false → v ≡ true → ⊥
false_at v h k = true≢false (sym k ∙ h)

pub not_true : (v : Bool) → not v ≡ true → v ≡ false
not_true true h = sym h
not_true false h = refl

pub not_from : (v : Bool) → (v ≡ true → ⊥) → not v ≡ true
not_from true f = absurd (f refl)
not_from false f = refl

pub or_left : (v w : Bool) → v ≡ true → (v || w) ≡ true
or_left true w h = refl
or_left false w h = absurd (true≢false (sym h))

pub or_right : (v w : Bool) → w ≡ true → (v || w) ≡ true
or_right true w h = refl
or_right false w h = h

pub or_none : (v w : Bool) → w ≡ false → (v || w) ≡ v
or_none true w h = refl
or_none false w h = h

pub or_cases : (v w : Bool) → (v || w) ≡ true → (v ≡ true) ⊎ (w ≡ true)
or_cases true w h = inl refl
or_cases false w h = inr h

pub neither : (v w : Bool) → (v || w) ≡ false → (v ≡ false) × (w ≡ false)
neither true w h = cc
neither false w h = (refl, h)

-- ---- numbers
pub equal_at : (a b : ℕ) → (a == b) ≡ true → a ≡ b
equal_at a b e = grind (arith, nat_tests)

pub equal_from : (a b : ℕ) → a ≡ b → (a == b) ≡ true
equal_from a b e = grind (arith, nat_tests)

pub equal_itself : (n : ℕ) → (n == n) ≡ true
equal_itself n = grind (arith, nat_tests)

pub eqb_equal : (a b : ℕ) → eqb a b ≡ true → a ≡ b
eqb_equal a b e = grind (arith, nat_tests)

pub eqb_apart : (a b : ℕ) → eqb a b ≡ false → a ≡ b → ⊥
eqb_apart a b e f = grind (arith, nat_tests)

pub le_at : (a b : ℕ) → nat_le a b ≡ true → a ≤ b
le_at a b h = grind (arith, nat_tests)

-- ---- options and lists of tests
pub no_some : {X : Type 0} (o : Option X) → o ≡ None → IsSome o → ⊥
no_some None e h = cc
no_some (Some x) e h = cc

-- no test fails exactly where all parts hold
pub none_fails : {F : Type 0} (ps : List Bool) (fs : List F) → length ps ≡ length fs → first_failing (zip ps fs) ≡ None → list_all (λ p. p) ps ≡ true
none_fails [] fs n h = refl
none_fails (p ∷ ps) [] n h = absurd (omega arith)
none_fails (true ∷ ps) (f ∷ fs) n h = none_fails ps fs (omega arith) h
none_fails (false ∷ ps) (f ∷ fs) n h = cc

pub all_pass : {F : Type 0} (ps : List Bool) (fs : List F) → list_all (λ p. p) ps ≡ true → first_failing (zip ps fs) ≡ None
all_pass [] fs h = refl
all_pass (p ∷ ps) [] h = refl
all_pass (true ∷ ps) (f ∷ fs) h = all_pass ps fs h
all_pass (false ∷ ps) (f ∷ fs) h = cc
