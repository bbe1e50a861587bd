-- A flip is undone by its inverse.
use Rattle.std.specs.Prelude.{◌≡◌, ℕ, List, IsTrue, None}
use Rattle.std.specs.List.{list_all}
use Rattle.simplex.specs.declared.flip.Flip.{Flip}
use Rattle.simplex.specs.FirstFailing.{first_failing}
use Rattle.simplex.specs.Flip.{inverse}
use Rattle.simplex.specs.Simplex.{is_simplex}
use Rattle.facet_set.specs.Complex.{is_complex}
use Rattle.facet_set.specs.Flips.{flip}
use Rattle.flip_rules.specs.Tests.{flip_tests}

-- where no test of a flip fails, none of its inverse fails after it, and that leads back
abbrev pub IsUndone : Type 0
IsUndone =
    (c : List (List ℕ)) (m : Flip) → IsTrue (list_all is_simplex c) → IsTrue (is_complex c) → IsTrue (is_simplex m.a) → IsTrue (is_simplex m.b)
    → first_failing (flip_tests c m) ≡ None
    → (first_failing (flip_tests (flip c m.a m.b) (inverse m)) ≡ None) × (flip (flip c m.a m.b) m.b m.a ≡ c)
