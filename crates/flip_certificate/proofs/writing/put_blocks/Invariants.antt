use Rattle.std.proofs.Common.{◌≡◌, ◌++◌, take}
use Rattle.std.specs.Prelude.{IsTrue}
use Rattle.std.specs.List.{list_all, flat_map}
use Rattle.flip_certificate.specs.declared.block.Block.{Block}
use Rattle.flip_certificate.specs.Lines.{is_flip, text_of, block_lines}
use Rattle.flip_certificate.proofs.writing.put_blocks.Given as goal

abbrev pub invariant-loop-block : goal.invariant-loop-block
invariant-loop-block l =
    (l.out ≡ l.initial.out ++ text_of (flat_map block_lines (take l.block-index l.blocks)))
    × IsTrue (list_all (λ (b : Block). list_all is_flip b.flips) (take l.block-index l.blocks))
