use Rattle.std.proofs.Common.{◌≡◌, ◌++◌, take}
use Rattle.ranked_set.proofs.blocks.Block.write_to.Given as goal

abbrev pub invariant-loop-key : goal.invariant-loop-key
invariant-loop-key l = l.list.items ≡ l.fn.list.items ++ take l.key-index l.key-items
