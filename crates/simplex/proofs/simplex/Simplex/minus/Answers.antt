use Rattle.std.proofs.Common.{ap, ◌∙◌, sym, not}
use Rattle.simplex.specs.Simplex.{has}
use Rattle.simplex.proofs.Filled.{kept_at, kept_whole}
use Rattle.simplex.proofs.simplex.Simplex.minus.Goals as goal

pub push-requires : goal.push-requires
push-requires c =
    kept_at (λ a. not (has c.args.other.now a)) c.args.self.now c.labels-label-items.result.now c.loop-label.label-index c.loop-label.rest
    c.labels-label-items.ensures.value c.loop-label-test.true (ap not (sym c.has.ensures ∙ c.if-not-has.true)) c.labels-label-items.ensures.simplex c.loop-label.invariant

pub returns-clause-simplex : goal.returns-clause-simplex
returns-clause-simplex c =
    kept_whole (λ a. not (has c.args.other.now a)) c.args.self.now c.labels-label-items.result.now c.loop-label.label-index c.loop-label.rest
    c.labels-label-items.ensures.value c.loop-label-test.false c.labels-label-items.ensures.simplex c.loop-label.invariant
