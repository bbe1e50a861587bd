use Rattle.std.proofs.Common.{◌≡◌, true, not, arith, get_or}
use Rattle.std.specs.Prelude.{◌==◌}
use Rattle.std.proofs.lemmas.Bool.Decides.{nat_tests}
use Rattle.simplex.proofs.Filled.{kept_at, kept_whole}
use Rattle.simplex.proofs.simplex.Simplex.without.Goals as goal

pub push-requires : goal.push-requires
push-requires c =
    let other : not (c.args.label == get_or c.labels-other-items.result.now c.loop-other.other-index 0) ≡ true = grind (arith, nat_tests, c.if-label-other.true) in
    kept_at (λ b. not (c.args.label == b)) c.args.self.now c.labels-other-items.result.now c.loop-other.other-index c.loop-other.rest
    c.labels-other-items.ensures.value c.loop-other-test.true other c.labels-other-items.ensures.simplex c.loop-other.invariant

pub returns-clause-simplex : goal.returns-clause-simplex
returns-clause-simplex c =
    kept_whole (λ b. not (c.args.label == b)) c.args.self.now c.labels-other-items.result.now c.loop-other.other-index c.loop-other.rest
    c.labels-other-items.ensures.value c.loop-other-test.false c.labels-other-items.ensures.simplex c.loop-other.invariant
