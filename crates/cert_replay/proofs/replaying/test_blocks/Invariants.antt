use Rattle.std.proofs.Common.{◌≡◌, drop}
use Rattle.simplex.specs.FirstFailing.{first_failing}
use Rattle.flip_certificate.specs.Valid.{block_tests}
use Rattle.cert_replay.specs.Faults.{replay_faults}
use Rattle.cert_replay.proofs.replaying.test_blocks.Given as goal

abbrev pub invariant-loop-block : goal.invariant-loop-block
invariant-loop-block l = first_failing (block_tests replay_faults 0 l.start l.blocks) ≡ first_failing (block_tests replay_faults l.before l.start (drop l.block-index l.blocks))
