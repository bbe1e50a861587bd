use Rattle.std.proofs.Common.{arith}
use Rattle.std.specs.Option.{IsSome}
use Rattle.facet_set.proofs.Counting.{most-union}
use Rattle.simplex.proofs.Decided.{no_some}
use Rattle.flip_rules.proofs.flipping.union.Goals as goal

pub unreachable-requires : goal.unreachable-requires
unreachable-requires c =
    let most = most-union c.args.s.now c.args.t.now in
    let some : IsSome c.union.result = c.union.ensures.fits.1 (omega arith) in
    no_some c.union.result c.in-None.is some
