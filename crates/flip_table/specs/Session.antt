-- A complex that is changed by one flip at a time.
--     started c          a session of the complex
--     staged_with m s    the flip is taken for the next commit
--     committed s        the staged flip is made
--     cancelled s        it is given up
--     start s            the complex to which the inverses of the flips made lead
use Rattle.std.specs.Prelude.{ℕ, List, [], ◌∷◌, ◌++◌, Option, Some, None}
use Rattle.simplex.specs.declared.flip.Flip.{Flip}
use Rattle.facet_set.specs.Flips.{flip, after, undoing}

-- the present complex, the flips made so far, and the staged flip, if there is one
pub record Standing : Type 0 where
  pub present : List (List ℕ)
  pub journal : List Flip
  pub staged : Option Flip

-- the complex, with an empty journal and nothing staged
abbrev pub started : List (List ℕ) → Standing
started c = record { present = c; journal = []; staged = None }

-- the flip is staged
abbrev pub staged_with : Flip → Standing → Standing
staged_with m s = record s { staged = Some m }

-- the staged flip is made, and stands at the end of the journal
abbrev pub committed : Standing → Standing
committed s = by s.staged
  where
    by : Option Flip → Standing
    by None = s
    by (Some m) = record { present = flip s.present m.a m.b; journal = s.journal ++ m ∷ []; staged = None }

-- nothing is staged
abbrev pub cancelled : Standing → Standing
cancelled s = record s { staged = None }

-- the complex to which the inverses of the flips made lead, the last first
abbrev pub start : Standing → List (List ℕ)
start s = after s.present (undoing s.journal)
