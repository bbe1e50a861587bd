-- What the calls of sources and sinks do to the bytes that they tell and to their counts of faults.
-- The bytes are an `Option`: `None` is an end that does not tell them.
use Rattle.std.specs.Prelude.{◌≡◌, ◌≢◌, ℕ, ◌+◌, ◌<◌, ◌≤◌, List, [], ◌++◌, length, take, Option, None, Some, Result, Err, IfOk, OnOk, OnErr, IsErrOf, MatchResult}
use Rattle.run_ends.specs.declared.ends.SinkFault.{SinkFault}
use Rattle.run_ends.specs.declared.ends.SinkFault.TheVariants.{Failed}
pub use Rattle.run_ends.specs.Counts.{Rose, last_count}

-- the bytes still to come lose bs at their front; whether they are told stays
abbrev pub Loses : Option (List ℕ) → Option (List ℕ) → List ℕ → Type 0
Loses None None bs = Unit {0}
Loses None (Some ys) bs = ⊥
Loses (Some xs) None bs = ⊥
Loses (Some xs) (Some ys) bs = xs ≡ bs ++ ys

-- the bytes written grow by bs at their end; whether they are told stays
abbrev pub Grows : Option (List ℕ) → Option (List ℕ) → List ℕ → Type 0
Grows None None bs = Unit {0}
Grows None (Some ys) bs = ⊥
Grows (Some xs) None bs = ⊥
Grows (Some xs) (Some ys) bs = ys ≡ xs ++ bs

-- the bytes, and whether they are told, are as before
abbrev pub Stays : Option (List ℕ) → Option (List ℕ) → Type 0
Stays old new = new ≡ old

-- nothing is left, where it is told
abbrev pub AtEnd : Option (List ℕ) → Type 0
AtEnd None = Unit {0}
AtEnd (Some xs) = xs ≡ []

-- at Ok(n) the next n bytes stand at the front of the buffer, and 0 of a nonempty buffer comes only
-- at the end; at an error nothing was taken
abbrev pub ReadsBytes : {E : Type 0} → Option (List ℕ) → Option (List ℕ) → Result ℕ E → List ℕ
    → Type 0
ReadsBytes old new r buf = MatchResult r
    (λ n. Loses old new (take n buf) × (n ≡ 0 → 0 < length buf → AtEnd new))
    (λ _. Stays old new)

-- the number of bytes taken is greater by n at Ok(n), and as before at an error
abbrev pub Taken : {E : Type 0} → ℕ → ℕ → Result ℕ E → Type 0
Taken old new r = MatchResult r (λ n. new ≡ old + n) (λ _. new ≡ old)

-- at Ok(n), n is at most the length of the piece, and not 0 unless the piece is empty
abbrev pub Writes : {E : Type 0} → Result ℕ E → List ℕ → Type 0
Writes r bytes = IfOk r (λ n. (n ≤ length bytes) × (0 < length bytes → 0 < n))

-- at Ok(n) just the first n bytes of the piece are appended, and at an error none
abbrev pub WritesBytes : {E : Type 0} → Option (List ℕ) → Option (List ℕ) → Result ℕ E → List ℕ
    → Type 0
WritesBytes old new r bytes = MatchResult r (λ n. Grows old new (take n bytes)) (λ _. Stays old new)

-- a count of faults never falls, a call fails only where it rose, and one that does not fail leaves
-- it as it was: no fault is passed over
pub record HasCause {T E : Type 0} (before now : ℕ) (result : Result T E) : Type 0 where
  pub later : before ≤ now
  pub failed : OnErr result (Rose before now)
  pub told : OnOk result (now ≡ before)

-- the same of a write, which may also want memory: that is no fault
pub record HasSinkCause {T : Type 0} (before now : ℕ) (result : Result T SinkFault) : Type 0 where
  pub later : before ≤ now
  pub failed : IsErrOf result Failed → Rose before now
  pub told : result ≢ Err Failed → now ≡ before
