-- What a shell holds: names in the order of naming, each with its past complexes, a present one and its future ones.
--     holds s x           whether the name is held
--     entry s x           what the name has
--     present s x         its present complex
--     assign x c s        the state with the complex for the name, and nothing past or future
--     put_entry e s       the state in which the name of e has e
--     edited, undone, redone     what a name has after an edit, and after going one complex back or forth
--     total_weight s      the weights of all present complexes
--     journal s           the sizes of all changes between neighbours in past, present and future
use Rattle.std.specs.Prelude.{ℕ, ◌+◌, Bool, List, [], ◌∷◌, if◌then◌else◌}
use Rattle.std.specs.List.{list_any, sum_by}
use Rattle.plain_text.specs.Bytes.{is_text}
use Rattle.facet_set.specs.Change.{apart}
use Rattle.facet_set.specs.Numbers.{weight}

abbrev pub Complex : Type 0
Complex = List (List ℕ)

-- a name with its complexes: the past ones, the latest first, the present one, and the future ones, the next first
pub record Named : Type 0 where
  pub name : List ℕ
  pub past : List Complex
  pub present : Complex
  pub future : List Complex

-- the names, in the order of naming
abbrev pub State : Type 0
State = List Named

-- the name with a present complex alone
abbrev pub named : List ℕ → Complex → Named
named x c = record { name = x; past = []; present = c; future = [] }

-- whether the name is held
abbrev pub holds : State → List ℕ → Bool
holds s x = list_any (λ (n : Named). is_text n.name x) s

-- what the name has, and nothing but the void complex where it is not held
abbrev pub entry : State → List ℕ → Named
entry [] x = named x []
entry (n ∷ s) x = if is_text n.name x then n else entry s x

-- the present complex of the name
abbrev pub present : State → List ℕ → Complex
present s x = (entry s x).present

-- the entry in place of the one with its name, or at the end where that is not held
abbrev pub put_entry : Named → State → State
put_entry e [] = e ∷ []
put_entry e (n ∷ s) = if is_text n.name e.name then e ∷ s else n ∷ put_entry e s

-- the complex for the name, with an empty past and future
abbrev pub assign : List ℕ → Complex → State → State
assign x c s = put_entry (named x c) s

-- the complex in place of the present one, which becomes the latest of the past; the future is emptied
abbrev pub edited : Named → Complex → Named
edited n c = record n { past = n.present ∷ n.past; present = c; future = [] }

-- the latest past complex in place of the present one, which becomes the next of the future
abbrev pub undone : Named → Named
undone n = by n.past
  where
    by : List Complex → Named
    by [] = n
    by (c ∷ past) = record n { past = past; present = c; future = n.present ∷ n.future }

-- the next future complex in place of the present one, which becomes the latest of the past
abbrev pub redone : Named → Named
redone n = by n.future
  where
    by : List Complex → Named
    by [] = n
    by (c ∷ future) = record n { past = n.present ∷ n.past; present = c; future = future }

-- the sizes of the changes from the complex to the first of the list, from there to the second, and so on
abbrev pub changes_along : Complex → List Complex → ℕ
changes_along c [] = 0
changes_along c (d ∷ ds) = apart c d + changes_along d ds

-- the sizes of all changes of a name
abbrev pub journal_of : Named → ℕ
journal_of n = changes_along n.present n.past + changes_along n.present n.future

-- the sizes of all changes of all names
abbrev pub journal : State → ℕ
journal s = sum_by journal_of s

-- the weights of all present complexes
abbrev pub total_weight : State → ℕ
total_weight s = sum_by (λ (n : Named). weight n.present) s
