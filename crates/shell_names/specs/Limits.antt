-- The limits of what a shell holds. They are own.
use Rattle.std.specs.Prelude.{ℕ}

-- the greatest sum of the sizes of all changes
abbrev pub journal_limit : ℕ
journal_limit = 4194304
