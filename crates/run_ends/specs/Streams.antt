-- What contracts see of the ends over a reader and a writer of std: nothing of the bytes.
use Rattle.std.specs.Prelude.{ℕ, Bool}

-- a `StdSource`: how many bytes were taken, and the count of faults
pub record StdSourceState : Type 0 where
  pub taken : ℕ
  pub faults : ℕ

-- a `StdSink`: whether the last call was a `finish` that answered Ok, and the count of faults
pub record StdSinkState : Type 0 where
  pub finished : Bool
  pub faults : ℕ
