use Rattle.std.proofs.Common.{◌≡◌, drop}
use Rattle.simplex.specs.Simplex.{minus}
use Rattle.shellings.specs.Missing.{missing_of, with_missing}
use Rattle.shellings.proofs.missing.find_missing.Given as goal

abbrev pub invariant-loop-label : goal.invariant-loop-label
invariant-loop-label l = with_missing l.missing (minus (drop l.label-index l.f) l.g) ≡ missing_of (minus l.f l.g)
