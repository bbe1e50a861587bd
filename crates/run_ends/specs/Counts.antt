-- Counts of faults and of calls: they go up by one, stop at the last value of a u64, never fall.
use Rattle.std.specs.Prelude.{◌≡◌, ℕ, ◌+◌, ◌-◌, ◌^◌, ◌<◌, ◌⊎◌, min, Result, Ok, Err}
use Rattle.run_ends.specs.declared.ends.SinkFault.{SinkFault}
use Rattle.run_ends.specs.declared.ends.SinkFault.TheVariants.{Failed, Memory}

-- the last value of a u64, at which a count stops
abbrev pub last_count : ℕ
last_count = 2 ^ 64 - 1

-- the count after one more
abbrev pub next_count : ℕ → ℕ
next_count n = min (n + 1) last_count

-- the count is greater than before, or stands at its last value
abbrev pub Rose : ℕ → ℕ → Type 0
Rose before now = (before < now) ⊎ (now ≡ last_count)

-- the count of faults after a read or a finish with this answer: one more where it failed
abbrev pub faults_after : {T E : Type 0} → Result T E → ℕ → ℕ
faults_after (Ok n) before = before
faults_after (Err e) before = next_count before

-- the count of faults after a write with this answer: want of memory is no fault of the sink
abbrev pub sink_faults_after : {T : Type 0} → Result T SinkFault → ℕ → ℕ
sink_faults_after (Ok n) before = before
sink_faults_after (Err Failed) before = next_count before
sink_faults_after (Err Memory) before = before
