use Rattle.std.proofs.Common.{arith}
use Rattle.simplex.proofs.Filled.{short_of}
use Rattle.packed_keys.proofs.UnpackLaws.{cells_more, cells_whole, sure, same_simplex}
use Rattle.packed_keys.proofs.key.Key.simplex.Goals as goal

pub loop-k-preserved : goal.loop-k-preserved
loop-k-preserved c =
    cells_more c.args.self.now c.loop-k.labels c.loop-k.k c.label.result c.loop-k.invariant.0 (short_of c.args.self.now c.len-k-end.ensures.simplex)
    (omega (arith, c.len-k-end.ensures.value, c.loop-k-test.true)) c.label.ensures c.loop-k.invariant.1

pub unreachable-requires : goal.unreachable-requires
unreachable-requires c =
    sure c.args.self.now _ _ _ c.len.ensures.simplex
    (cells_whole c.args.self.now c.loop-k.labels c.loop-k.k c.len-k-end.result c.len.result c.len-k-end.ensures.value c.len.ensures.value c.loop-k-test.false c.loop-k.auto.k-end c.loop-k.invariant.1)
    c.of.ensures.exact c.in-Err.is

pub returns-clause-value : goal.returns-clause-value
returns-clause-value c =
    same_simplex c.args.self.now _ _ _ c.len.ensures.simplex
    (cells_whole c.args.self.now c.loop-k.labels c.loop-k.k c.len-k-end.result c.len.result c.len-k-end.ensures.value c.len.ensures.value c.loop-k-test.false c.loop-k.auto.k-end c.loop-k.invariant.1)
    c.of.ensures.exact c.in-Ok.is
