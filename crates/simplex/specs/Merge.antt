-- The steps of a merge of two increasing lists.
use Rattle.std.specs.Prelude.{ℕ, min, Option, Some, None, ◌==◌, if◌then◌else◌}

-- the lesser of two labels, of which either may be missing
abbrev pub least : Option ℕ → Option ℕ → Option ℕ
least (Some a) (Some b) = Some (min a b)
least None b = b
least (Some a) None = Some a

-- how far to go on past the label: one place where it stands there, and else none
abbrev pub passed : Option ℕ → ℕ → ℕ
passed None l = 0
passed (Some a) l = if a == l then 1 else 0
