use Rattle.std.proofs.lemmas.Result.{err_from_is_err_and}
use Rattle.script_shell.proofs.Listing.{next_list, next_clean, list_fails}
use Rattle.script_shell.proofs.lists.simplices_of.Goals as goal

pub loop-list-preserved : goal.loop-list-preserved
loop-list-preserved c = record {
  sets = next_list c.args.lists.now c.loop-list.list-index c.list-item.result c.as_slice.result.now c.loop-list.simplices c.push.new.self c.in_ok-simplex_by.field-0
      c.loop-list-test.true c.list-item.is c.as_slice.ensures c.in_ok-simplex_by.ensures.set c.in_ok-push.ensures.ok c.loop-list.invariant.sets;
  clean = next_clean c.args.lists.now c.loop-list.list-index c.list-item.result c.as_slice.result.now
      c.loop-list-test.true c.list-item.is c.as_slice.ensures c.in_ok-simplex_by.ensures.clean c.loop-list.invariant.clean;
}

pub returns-in_err-simplex_by-clause-refused : goal.returns-in_err-simplex_by-clause-refused
returns-in_err-simplex_by-clause-refused c =
    let p = err_from_is_err_and c.from_residual.result c.from_residual.ensures.1 in
    rw (p.1, p.2) (list_fails c.args.lists.now c.loop-list.list-index c.list-item.result c.as_slice.result.now c.in_err-simplex_by.field-0.0
    c.loop-list-test.true c.list-item.is c.as_slice.ensures c.in_err-simplex_by.ensures.refused c.loop-list.invariant.clean)
