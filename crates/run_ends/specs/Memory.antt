-- What contracts see of the ends in memory.
use Rattle.std.specs.Prelude.{ℕ, Bool, List}

-- a `MemSource`: the bytes left, how many were taken, the count of faults, the number of the next
-- call, the most bytes that a call gives, and the numbers of the calls that fail
pub record MemSourceState : Type 0 where
  pub left : List ℕ
  pub taken : ℕ
  pub faults : ℕ
  pub calls : ℕ
  pub piece : ℕ
  pub fails : List ℕ

-- a `MemSink`: the bytes written, whether the last call was a `finish` that answered Ok, the count
-- of faults, the number of the next call, the most bytes that a write appends, and the numbers of
-- the calls that fail
pub record MemSinkState : Type 0 where
  pub written : List ℕ
  pub finished : Bool
  pub faults : ℕ
  pub calls : ℕ
  pub piece : ℕ
  pub fails : List ℕ

-- a `SureSource`: the bytes left, how many were taken, and the most bytes that a call gives
pub record SureSourceState : Type 0 where
  pub left : List ℕ
  pub taken : ℕ
  pub piece : ℕ

-- a `SureSink`: the bytes written, whether the last call was a `finish`, and the most bytes that a
-- write appends
pub record SureSinkState : Type 0 where
  pub written : List ℕ
  pub finished : Bool
  pub piece : ℕ
