use Rattle.std.proofs.Common.{arith}
use Rattle.shellings.proofs.GreedyLaws.{not_narrowed}
use Rattle.shellings.proofs.candidates.narrow.Goals as goal

pub returns-else-len : goal.returns-else-len
returns-else-len c =
    let len = c.len.ensures.value in
    let len_2 = c.len-2.ensures.value in
    not_narrowed c.args.f.now c.args.g.now c.still_free-free.result c.args.candidate.now c.still_free-free.ensures (omega (arith, len, len_2))
