-- Relabelling by lists of numbers of a script.
use Rattle.std.specs.Prelude.{ℕ, ◌&&◌, List, [], ◌∷◌, map}
use Rattle.std.specs.List.{list_all}
use Rattle.simplex.specs.Simplex.{is_label}
use Rattle.constructions.specs.Relabelling.{is_renaming}
use Rattle.conditions.specs.declared.condition.Condition.TheVariants as condition
use Rattle.shell_names.specs.State.{Complex}
use Rattle.script_shell.specs.Commands.{Test, is_pair, pair_of}

-- the lists are a map of the vertices, and it gives labels
abbrev pub map_tests : Complex → List (List ℕ) → List Test
map_tests c lists =
    (list_all is_pair lists && is_renaming (map pair_of lists) c, condition.NotMap)
    ∷ (list_all (λ p. is_label p.1) (map pair_of lists), condition.LabelRange)
    ∷ []
