-- A yes of `sphere` is a sound certificate.
use Rattle.std.proofs.Common.{◌≡◌, ℕ, Bool, true, false, cond, List, refl, sym, subst}
use Rattle.simplex.proofs.InOrderLaws.{and_both}
use Rattle.flip_certificate.specs.Lines.{is_start}
use Rattle.flip_certificate.specs.Valid.{is_pure_from}
use Rattle.flip_certificate.specs.declared.certificate.Certificate.TheVariants.{Sphere}
use Rattle.verdicts.specs.Laws.{SphereYes}
use Rattle.verdicts.specs.Ready.{IsReady}
use Rattle.verdicts.specs.Sound.{IsSound, YesIsSound}
use Rattle.verdicts.specs.Verdicts.{sphere_of, found, meets}
use Rattle.verdicts.specs.declared.verdict.Verdict.{Verdict}
use Rattle.verdicts.specs.declared.verdict.Verdict.TheVariants.{Yes, Undecided}
use Rattle.verdicts.proofs.WayLaws.{goal_way, goal_met, goal_flips}

sphere_is_sound : (c : List (List ℕ)) (budget seed : ℕ) → is_start c ≡ true → is_pure_from 1 c ≡ true → meets c budget seed ≡ true → IsSound (Sphere c (found c budget seed))
sphere_is_sound c budget seed start pure m = record {
  valid = and_both _ _ (and_both _ _ pure (goal_way c budget seed)) (goal_met c budget seed m);
  held = and_both _ _ start (goal_flips c budget seed start);
  shaped = refl;
}

pub sphere_yes_lem : SphereYes
sphere_yes_lem c budget seed k start pure e = by (meets c budget seed) refl e
  where
    by : (v : Bool) → meets c budget seed ≡ v → cond v (Yes (Sphere c (found c budget seed))) (Undecided budget) ≡ Yes k → IsSound k × (k ≡ Sphere c (found c budget seed))
    by true m f =
        let same : Sphere c (found c budget seed) ≡ k = cc in
        (subst IsSound same (sphere_is_sound c budget seed start pure m), sym same)
    by false m f = cc

pub sphere_sound : (c : List (List ℕ)) (budget seed : ℕ) (v : Verdict) → IsReady 1 c budget → v ≡ sphere_of c budget seed → YesIsSound v
sphere_sound c budget seed v h e = subst YesIsSound (sym e) (by (meets c budget seed) refl)
  where
    by : (t : Bool) → meets c budget seed ≡ t → YesIsSound (cond t (Yes (Sphere c (found c budget seed))) (Undecided budget))
    by true m = sphere_is_sound c budget seed h.start h.pure m
    by false m = tt
