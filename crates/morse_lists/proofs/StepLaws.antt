-- What a table does for a step is what the step asks for.
use Rattle.std.proofs.Common.{◌≡◌, ℕ, Bool, true, false, not, cond, List, length, refl, sym, ap, ◌∙◌, subst}
use mathlib.Core.Bool.{true≢false}
use Rattle.std.specs.Prelude.{◌==◌, Option, Some, None}
use Rattle.std.specs.Bool.{IsTrue}
use Rattle.simplex.specs.Simplex.{is_simplex}
use Rattle.simplex.proofs.Filled.{rising_of}
use Rattle.simplex.proofs.InOrderLaws.{and_right}
use Rattle.facet_set.specs.Complex.{stands_in}
use Rattle.facet_set.specs.Facets.{IsFacets}
use Rattle.facet_set.proofs.ComplexLaws.{same_from}
use Rattle.facet_set.proofs.GeneratedLaws.{same_is}
use Rattle.collapse_moves.specs.Collapses.{partner, is_free, collapse, drop_face}
use Rattle.morse_lists.specs.declared.morse_step.MorseStep.{MorseStep}
use Rattle.morse_lists.specs.Cells.{same}
use Rattle.morse_lists.specs.Morse.{is_critical, is_top, is_value, free_partner, is_possible, after_step}
use Rattle.morse_lists.proofs.DropLaws.{partner_facet, left_facet, collapse_drops, drop_facets, facets_where}

-- whether a step is possible
pub possible_pair : (c : List (List ℕ)) (m : MorseStep) (high : List ℕ) (b : Bool) → false ≡ is_critical m → Some high ≡ free_partner c m.low → b ≡ same high m.high → b ≡ is_possible c m
possible_pair c m high b e f g = g ∙ same_is high m.high ∙ ap (is_value m.high) f ∙ ap (λ v. cond v (is_top c m.low) (is_value m.high (free_partner c m.low))) e

value_at : (t : List ℕ) (o : Option (List ℕ)) → is_value t o ≡ true → o ≡ Some t
value_at t None e = absurd (true≢false (sym e))
value_at t (Some u) e = ap Some (same_from u t e)

-- a step that is no critical one
pub record IsCollapse (c : List (List ℕ)) (m : MorseStep) : Type 0 where
  pub free : is_free c m.low ≡ true
  pub partner_is : partner c m.low ≡ Some m.high

pub critical_at : (c : List (List ℕ)) (m : MorseStep) → is_possible c m ≡ true → is_critical m ≡ true → is_top c m.low ≡ true
critical_at c m h e = ap (λ v. cond v (is_top c m.low) (is_value m.high (free_partner c m.low))) (sym e) ∙ h

pub collapse_at : (c : List (List ℕ)) (m : MorseStep) → is_possible c m ≡ true → is_critical m ≡ false → IsCollapse c m
collapse_at c m h e = by (is_free c m.low) refl (value_at m.high (free_partner c m.low) (ap (λ v. cond v (is_top c m.low) (is_value m.high (free_partner c m.low))) (sym e) ∙ h))
  where
    by : (v : Bool) → is_free c m.low ≡ v → cond v (partner c m.low) None ≡ Some m.high → IsCollapse c m
    by true g f = record { free = g; partner_is = f }
    by false g f = cc

pub high_stands : (c : List (List ℕ)) (m : MorseStep) → IsFacets c → IsTrue (is_simplex m.low) → is_possible c m ≡ true → stands_in c m.high ≡ true
high_stands c m h u p = by (is_critical m) refl
  where
    by : (v : Bool) → is_critical m ≡ v → stands_in c m.high ≡ true
    by true e = subst (λ s. stands_in c s ≡ true) (same_from m.low m.high e) (and_right (not (length m.low == 0)) _ (critical_at c m p e))
    by false e = partner_facet c m.low m.high h (rising_of m.low u) (collapse_at c m p e).partner_is

pub low_stands : (c d : List (List ℕ)) (m : MorseStep) → IsFacets c → IsTrue (is_simplex m.low) → is_possible c m ≡ true → false ≡ is_critical m → d ≡ drop_face c m.high → stands_in d m.low ≡ true
low_stands c d m h u p e g = ap (λ x. stands_in x m.low) g ∙ left_facet c m.low m.high h (rising_of m.low u) (collapse_at c m p (sym e)).partner_is

pub after_collapse : (c d e : List (List ℕ)) (m : MorseStep) → IsFacets c → IsTrue (is_simplex m.low) → is_possible c m ≡ true → false ≡ is_critical m → d ≡ drop_face c m.high → e ≡ drop_face d m.low → e ≡ after_step c m
after_collapse c d e m h u p f g k =
    k ∙ ap (λ x. drop_face x m.low) g ∙ sym (collapse_drops c m.low m.high h (rising_of m.low u) (collapse_at c m p (sym f)).partner_is)
    ∙ ap (λ v. cond v (drop_face c m.low) (collapse c m.low)) f

pub after_critical : (c d : List (List ℕ)) (m : MorseStep) → true ≡ is_critical m → d ≡ drop_face c m.high → d ≡ after_step c m
after_critical c d m f g = g ∙ ap (drop_face c) (sym (same_from m.low m.high (sym f))) ∙ ap (λ v. cond v (drop_face c m.low) (collapse c m.low)) f

pub step_facets : (c : List (List ℕ)) (m : MorseStep) → IsFacets c → IsFacets (after_step c m)
step_facets c m h = by (is_critical m)
  where
    by : (v : Bool) → IsFacets (cond v (drop_face c m.low) (collapse c m.low))
    by true = drop_facets c m.low h
    by false = facets_where _ c h
