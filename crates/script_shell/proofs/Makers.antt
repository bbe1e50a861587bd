-- A maker whose construction answered: its tests are those of the construction.
use Rattle.std.proofs.Common.{◌≡◌, ℕ, Bool, true, false, List, [], ◌∷◌, ◌++◌, Result, None, refl, sym, ap, ◌∙◌, subst}
use Rattle.std.specs.Prelude.{OnOk, IfErr}
use Rattle.simplex.specs.FirstFailing.{first_failing}
use Rattle.constructions.specs.declared.make_fault.MakeFault.{MakeFault}
use Rattle.script_text.specs.declared.command.Maker.{Maker}
use Rattle.shell_names.specs.State.{State, Complex}
use Rattle.script_shell.specs.declared.stop.Stop.{Stop}
use Rattle.script_shell.specs.Commands.{Test, make_tests, making}
use Rattle.script_shell.specs.Rooms.{fits_test, making_own}
use Rattle.script_shell.specs.Stops.{StopsAt}
use Rattle.script_shell.proofs.Refusals.{on_ok}

front_passes : (own : List Test) (last : Test) → first_failing (own ++ last ∷ []) ≡ None → first_failing own ≡ None
front_passes [] last h = refl
front_passes ((true, k) ∷ own) last h = front_passes own last h
front_passes ((false, k) ∷ own) last h = cc

module _ (r : Result Complex Stop) (s : State) (m n : Maker) (ts us : List (Bool × MakeFault)) (is : m ≡ n) (same : us ≡ ts) where
  pub freely_passed : making_own (making s n) ≡ make_tests ts → OnOk r (first_failing (make_tests us) ≡ None) → OnOk r (first_failing (making_own (making s m)) ≡ None)
  freely_passed own h =
      let all : make_tests us ≡ making_own (making s m) = ap make_tests same ∙ sym own ∙ ap (λ (o : Maker). making_own (making s o)) (sym is) in
      subst (λ (vs : List Test). OnOk r (first_failing vs ≡ None)) all h

  pub freely_stops : making_own (making s n) ≡ make_tests ts → IfErr r (λ stop. StopsAt stop (first_failing (make_tests us))) → IfErr r (λ stop. StopsAt stop (first_failing (making_own (making s m))))
  freely_stops own h =
      let all : make_tests us ≡ making_own (making s m) = ap make_tests same ∙ sym own ∙ ap (λ (o : Maker). making_own (making s o)) (sym is) in
      subst (λ (vs : List Test). IfErr r (λ stop. StopsAt stop (first_failing vs))) all h

  pub within_passed : (room : ℕ) → making_own (making s n) ++ fits_test room (making s n).complex ∷ [] ≡ make_tests ts → OnOk r (first_failing (make_tests us) ≡ None)
      → OnOk r (first_failing (making_own (making s m)) ≡ None)
  within_passed room own h =
      let all : make_tests us ≡ making_own (making s m) ++ fits_test room (making s m).complex ∷ [] =
      ap make_tests same ∙ sym own ∙ ap (λ (o : Maker). making_own (making s o) ++ fits_test room (making s o).complex ∷ []) (sym is) in
      on_ok r _ _ (λ k. front_passes (making_own (making s m)) (fits_test room (making s m).complex) k) (subst (λ (vs : List Test). OnOk r (first_failing vs ≡ None)) all h)

  pub within_refused : (room : ℕ) → making_own (making s n) ++ fits_test room (making s n).complex ∷ [] ≡ make_tests ts → IfErr r (λ stop. StopsAt stop (first_failing (make_tests us)))
      → IfErr r (λ stop. StopsAt stop (first_failing (making_own (making s m) ++ fits_test room (making s m).complex ∷ [])))
  within_refused room own h =
      let all : make_tests us ≡ making_own (making s m) ++ fits_test room (making s m).complex ∷ [] =
      ap make_tests same ∙ sym own ∙ ap (λ (o : Maker). making_own (making s o) ++ fits_test room (making s o).complex ∷ []) (sym is) in
      subst (λ (vs : List Test). IfErr r (λ stop. StopsAt stop (first_failing vs))) all h
