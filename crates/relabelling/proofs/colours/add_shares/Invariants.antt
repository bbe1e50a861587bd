use Rattle.std.proofs.Common.{◌≡◌, ◌+◌, ℕ, take, if◌then◌else◌}
use Rattle.simplex.specs.Simplex.{has}
use Rattle.relabelling.specs.Colours.{colour, capped, added}
use Rattle.relabelling.proofs.colours.add_shares.Given as goal

abbrev pub invariant-loop-label : goal.invariant-loop-label
invariant-loop-label l = (a : ℕ) → colour l.next a ≡ if has (take l.label-index l.facet) a then capped (colour l.fn.next a + added (colour l.colours) l.facet a) else colour l.fn.next a
