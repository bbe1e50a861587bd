use Rattle.std.proofs.Common.{sym, subst}
use Rattle.simplex.specs.Members.{In}
use Rattle.betti_tables.proofs.BuiltLaws.{built_more, built_all, in_at}
use Rattle.betti_tables.proofs.boundary.boundaries.Goals as goal

pub write_column-requires-clause-found : goal.write_column-requires-clause-found
write_column-requires-clause-found c =
    let s = c.index-simplices-col.result in
    c.requires.found s (subst (λ t. In t c.args.simplices.now) (sym c.index-simplices-col.is) (in_at c.args.simplices.now c.loop-col.col s c.loop-col-test.true))

pub loop-col-preserved : goal.loop-col-preserved
loop-col-preserved c =
    built_more c.args.rows.now c.args.simplices.now c.loop-col.col c.index-simplices-col.result c.loop-col.matrix c.write_column.new.matrix c.loop-col-test.true c.index-simplices-col.is c.write_column.ensures c.loop-col.invariant

pub returns : goal.returns
returns c = built_all c.args.rows.now c.args.simplices.now c.loop-col.col c.loop-col.matrix c.loop-col-test.false c.loop-col.invariant
