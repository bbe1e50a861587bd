use Rattle.std.proofs.Common.{◌+◌, ◌∙◌, ap, inl, inr}
use Rattle.std.proofs.lemmas.Result.{err_from_is_err_and}
use Rattle.flip_certificate.specs.Count.{stopped}
use Rattle.cert_replay.specs.Faults.{replay_faults}
use Rattle.cert_replay.proofs.TestLaws.{next_blocks, stuck_block}
use Rattle.cert_replay.proofs.replaying.test_blocks.Goals as goal

pub returns-in_err-test_block-clause-faults : goal.returns-in_err-test_block-clause-faults
returns-in_err-test_block-clause-faults c =
    let p = err_from_is_err_and c.from_residual.result c.from_residual.ensures.1 in
    let f = c.in_err-test_block.field-0.0 in
    rw (p.1, p.2) (elim c.in_err-test_block.ensures.faults [
      | inl e ↦ inl e
      | inr e ↦ inr (c.loop-block.invariant ∙ stuck_block replay_faults c.args.start.now c.args.blocks.now c.loop-block.block-index c.loop-block.before c.block-item.result c.block-item.result f c.loop-block-test.true c.block-item.is e)
    ])

pub loop-block-preserved : goal.loop-block-preserved
loop-block-preserved c =
    c.loop-block.invariant
    ∙ next_blocks replay_faults c.args.start.now c.args.blocks.now c.loop-block.block-index c.loop-block.before c.saturating_add-before.result c.block-item.result c.block-item.result c.loop-block-test.true c.block-item.is
    c.in_ok-test_block.ensures.passed
    (c.saturating_add-before.ensures ∙ ap (λ n. stopped (c.loop-block.before + n)) (c.len.ensures))
