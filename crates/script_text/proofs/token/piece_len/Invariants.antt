use Rattle.std.proofs.Common.{length, ◌-◌, ◌≡◌, ◌<◌, drop, true}
use Rattle.script_text.specs.Tokens.{is_at_piece}
use Rattle.script_text.proofs.PieceLaws.{Carries}
use Rattle.script_text.proofs.token.piece_len.Given as goal

abbrev pub invariant-loop-at : goal.invariant-loop-at
invariant-loop-at l = (l.at < length l.bytes) × (is_at_piece (drop l.at l.bytes) ≡ true) × Carries l.bytes l.at

abbrev pub decreases-loop-at : goal.decreases-loop-at
decreases-loop-at l = length l.bytes - l.at
