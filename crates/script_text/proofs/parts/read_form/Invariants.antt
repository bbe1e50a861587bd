use Rattle.std.proofs.Common.{◌≡◌, length}
use Rattle.std.specs.Prelude.{flat_map}
use Rattle.script_text.specs.Fronts.{before, AreNormal}
use Rattle.script_text.specs.Grammar.{parts_of, part_tokens}
use Rattle.script_text.specs.Tokens.{tokens}
use Rattle.script_text.proofs.parts.read_form.Given as goal

abbrev pub invariant-parts : goal.invariant-parts
invariant-parts l = (tokens l.bytes ≡ before (flat_map part_tokens (parts_of l.form)) (tokens l.rest)) × AreNormal (parts_of l.form)

abbrev pub decreases-parts : goal.decreases-parts
decreases-parts l = length l.rest
