-- Words that are not one and not four are of no form.
use Rattle.std.proofs.Common.{◌≡◌, ℕ, List, [], ◌∷◌, map, length, refl}
use Rattle.script_shell.specs.Output.{form_of}
use Rattle.script_shell.specs.declared.words.Form.TheVariants.{NoForm}

pub no_form : {X : Type 0} (f : X → List ℕ) (ws : List X) → (length ws ≡ 1 → ⊥) → (length ws ≡ 4 → ⊥) → NoForm ≡ form_of (map f ws)
no_form f [] one four = refl
no_form f (a ∷ []) one four = absurd (one refl)
no_form f (a ∷ b ∷ []) one four = refl
no_form f (a ∷ b ∷ c ∷ []) one four = refl
no_form f (a ∷ b ∷ c ∷ d ∷ []) one four = absurd (four refl)
no_form f (a ∷ b ∷ c ∷ d ∷ e ∷ ws) one four = refl
