-- A flip is undone by its inverse.
use Rattle.std.specs.Prelude.{◌≡◌, ℕ, List, IsTrue}
use Rattle.std.specs.List.{list_all}
use Rattle.simplex.specs.Simplex.{is_simplex}
use Rattle.facet_set.specs.Complex.{is_complex}
use Rattle.facet_set.specs.Flips.{allowed, flip}

-- where a flip is allowed, so is its inverse after it, and that leads back
abbrev pub FlipsBack : Type 0
FlipsBack =
    (c : List (List ℕ)) (a b : List ℕ) → IsTrue (list_all is_simplex c) → IsTrue (is_complex c) → IsTrue (is_simplex a) → IsTrue (is_simplex b)
    → IsTrue (allowed c a b) → IsTrue (allowed (flip c a b) b a) × (flip (flip c a b) b a ≡ c)
