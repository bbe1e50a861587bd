-- Lists that are known by their members.
use Rattle.std.specs.Prelude.{ℕ, ◌↔◌, ◌⊎◌, List}
use Rattle.simplex.specs.Members.{In}

-- the first list has the members of the other two
abbrev pub HasBoth : List (List ℕ) → List (List ℕ) → List (List ℕ) → Type 0
HasBoth l xs ys = (t : List ℕ) → In t l ↔ (In t xs ⊎ In t ys)
