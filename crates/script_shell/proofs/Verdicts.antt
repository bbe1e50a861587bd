-- The faults of verdicts as conditions, behind the tests of their names.
use Rattle.std.proofs.Common.{◌≡◌, ℕ, ◌⊎◌, inl, inr, Bool, true, List, ◌∷◌, Option, Some, None, Result, Ok, Err, is_ok, sym, ap, subst, ◌∙◌}
use Rattle.std.specs.Prelude.{OnOk, IfOk, IfErr}
use Rattle.std.specs.Option.{option_map}
use Rattle.simplex.specs.FirstFailing.{first_failing}
use Rattle.verdicts.specs.declared.verdict.Verdict.{Verdict}
use Rattle.verdicts.specs.declared.verdict_fault.VerdictFault.{VerdictFault}
use Rattle.verdicts.specs.declared.verdict_fault.VerdictFault.TheVariants as unfit
use Rattle.conditions.specs.declared.condition.Condition.{Condition}
use Rattle.shell_names.specs.State.{State, Complex, holds, present}
use Rattle.script_shell.specs.declared.stop.Stop.{Stop}
use Rattle.script_shell.specs.Commands.{Test, name_test, verdict_condition, verdict_tests}
use Rattle.script_shell.specs.Stops.{StopsAt, verdict_stop}
use Rattle.script_shell.proofs.Listing.{failing_map}
use Rattle.script_shell.proofs.Refusals.{on_ok, if_err, held_first}

pub verdict_passes : (ts : List (Bool × VerdictFault)) → first_failing ts ≡ None → first_failing (verdict_tests ts) ≡ None
verdict_passes ts h = failing_map verdict_condition ts ∙ ap (option_map verdict_condition) h

verdict_fails : (ts : List (Bool × VerdictFault)) (e : VerdictFault) → first_failing ts ≡ Some e → first_failing (verdict_tests ts) ≡ Some (verdict_condition e)
verdict_fails ts e h = failing_map verdict_condition ts ∙ ap (option_map verdict_condition) h

-- a verdict stops at the condition of its fault
pub verdict_stops : (e : VerdictFault) (ts : List (Bool × VerdictFault)) → (e ≡ unfit.Memory) ⊎ (first_failing ts ≡ Some e) → StopsAt (verdict_stop e) (first_failing (verdict_tests ts))
verdict_stops unfit.Void ts (inl h) = cc
verdict_stops unfit.Void ts (inr h) = verdict_fails ts unfit.Void h
verdict_stops unfit.NotPure ts (inl h) = cc
verdict_stops unfit.NotPure ts (inr h) = verdict_fails ts unfit.NotPure h
verdict_stops unfit.DimRange ts (inl h) = cc
verdict_stops unfit.DimRange ts (inr h) = verdict_fails ts unfit.DimRange h
verdict_stops unfit.DimDiffers ts (inl h) = cc
verdict_stops unfit.DimDiffers ts (inr h) = verdict_fails ts unfit.DimDiffers h
verdict_stops unfit.Budget ts (inl h) = cc
verdict_stops unfit.Budget ts (inr h) = verdict_fails ts unfit.Budget h
verdict_stops unfit.Memory ts h = tt

-- ---- the names are held, and the tests of their complexes decide
pub one_name : (s : State) (x : List ℕ) (d : Complex) (ts : Complex → List (Bool × VerdictFault)) → holds s x ≡ true → d ≡ present s x
    → first_failing (name_test s x ∷ verdict_tests (ts (present s x))) ≡ first_failing (verdict_tests (ts d))
one_name s x d ts held same = held_first s x (verdict_tests (ts (present s x))) held ∙ ap (λ (e : Complex). first_failing (verdict_tests (ts e))) (sym same)

pub two_names : (s : State) (x y : List ℕ) (d e : Complex) (ts : Complex → Complex → List (Bool × VerdictFault)) → holds s x ≡ true → holds s y ≡ true → d ≡ present s x → e ≡ present s y
    → first_failing (name_test s x ∷ name_test s y ∷ verdict_tests (ts (present s x) (present s y))) ≡ first_failing (verdict_tests (ts d e))
two_names s x y d e ts left right same alike =
    held_first s x (name_test s y ∷ verdict_tests (ts (present s x) (present s y))) left
    ∙ held_first s y (verdict_tests (ts (present s x) (present s y))) right
    ∙ ap (λ (b : Complex). first_failing (verdict_tests (ts b (present s y)))) (sym same)
    ∙ ap (λ (b : Complex). first_failing (verdict_tests (ts d b))) (sym alike)

module _ (r : Result (List ℕ) Stop) (us vs : List Test) (same : first_failing vs ≡ first_failing us) where
  pub passes_as : OnOk r (first_failing us ≡ None) → OnOk r (first_failing vs ≡ None)
  passes_as h = on_ok r _ _ (λ k. same ∙ k) h

  pub stops_as : IfErr r (λ f. StopsAt f (first_failing us)) → IfErr r (λ f. StopsAt f (first_failing vs))
  stops_as h = if_err r _ _ (λ f k. subst (λ (o : Option Condition). StopsAt f o) (sym same) k) h

-- what holds of the verdict that was given
pub verdict_at : (r : Result Verdict VerdictFault) (v : Verdict) (P : Verdict → Type 0) → is_ok r ≡ true → IfOk r (λ w. w ≡ v) → IfOk r P → P v
verdict_at (Ok w) v P h e p = subst P e p
verdict_at (Err f) v P h e p = cc
