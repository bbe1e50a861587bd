use Rattle.std.proofs.Common.{◌≡◌, take}
use Rattle.flip_certificate.specs.Count.{stopped, flips_in_blocks}
use Rattle.flip_certificate.proofs.counting.block_flips.Given as goal

abbrev pub invariant-loop-block : goal.invariant-loop-block
invariant-loop-block l = l.count ≡ stopped (flips_in_blocks (take l.block-index l.blocks))
