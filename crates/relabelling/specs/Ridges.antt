-- What lies across a ridge. A label and a ridge that make a member of a list of simplices lie across from each other.
use Rattle.std.specs.Prelude.{◌≡◌, ℕ, List, ◌⊎◌, ◌==◌, nat_eq, Option, Some, None, if◌then◌else◌}
use Rattle.std.specs.HashMap.{HashMap, get}
use Rattle.std.specs.Cmp.Lexicographic.{pointwise}
use Rattle.simplex.specs.Members.{In}
use Rattle.simplex.specs.Simplex.{without}

-- a member of the list has the label, and the others are the ridge
abbrev pub IsAcross : List (List ℕ) → List ℕ → ℕ → Type 0
IsAcross l r a = (s : List ℕ) × In s l × In a s × (without s a ≡ r)

-- the two labels lie across from the ridge, and no other does
abbrev pub AreEnds : List (List ℕ) → List ℕ → ℕ → ℕ → Type 0
AreEnds l r a b = IsAcross l r a × IsAcross l r b × (a ≡ b → ⊥) × ((x : ℕ) → IsAcross l r x → (x ≡ a) ⊎ (x ≡ b))

-- two labels with the property, which differ where two do; none where none has it
abbrev pub TellsTwo : Option (ℕ × ℕ) → (ℕ → Type 0) → Type 0
TellsTwo None P = (a : ℕ) → P a → ⊥
TellsTwo (Some p) P = P p.0 × P p.1 × (p.0 ≡ p.1 → (a : ℕ) → P a → a ≡ p.0)

-- the table tells two labels across from each ridge
abbrev pub TellsEnds : {S : Type 0} → HashMap (List ℕ) (ℕ × ℕ) S → List (List ℕ) → Type 0
TellsEnds ends l = (r : List ℕ) → TellsTwo (get (pointwise nat_eq) ends r) (IsAcross l r)

-- what is told once one more label is
abbrev pub with_end : Option (ℕ × ℕ) → ℕ → ℕ × ℕ
with_end None a = (a, a)
with_end (Some p) a = if p.0 == a then p else (p.0, a)

-- of the two labels the one that is not this
abbrev pub other_end : Option (ℕ × ℕ) → ℕ → Option ℕ
other_end None a = None
other_end (Some p) a = Some (if p.0 == a then p.1 else p.0)
