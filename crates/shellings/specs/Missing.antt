-- What one pass knows of the labels of a simplex that are not in another.
use Rattle.std.specs.Prelude.{ℕ, List, [], ◌∷◌}
use Rattle.shellings.specs.declared.missing.Missing.{Missing}
use Rattle.shellings.specs.declared.missing.Missing.TheVariants.{Nothing, One, More}

-- none, one or more, of the labels that are missing
abbrev pub missing_of : List ℕ → Missing
missing_of [] = Nothing
missing_of (a ∷ []) = One a
missing_of (a ∷ b ∷ s) = More

-- what is known once these labels are missing too
abbrev pub with_missing : Missing → List ℕ → Missing
with_missing Nothing m = missing_of m
with_missing (One a) m = missing_of (a ∷ m)
with_missing More m = More
