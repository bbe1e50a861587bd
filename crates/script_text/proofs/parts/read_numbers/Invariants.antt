use Rattle.std.proofs.Common.{◌≡◌, ◌≤◌, length}
use Rattle.script_text.specs.Fronts.{before, number}
use Rattle.script_text.specs.Tokens.{tokens}
use Rattle.script_text.proofs.PartLaws.{followed}
use Rattle.script_text.proofs.parts.read_numbers.Given as goal

abbrev pub invariant-items : goal.invariant-items
invariant-items l = (tokens l.bytes ≡ before (followed number l.numbers) (tokens l.rest)) × (length l.rest ≤ length l.bytes)

abbrev pub decreases-items : goal.decreases-items
decreases-items l = length l.rest
