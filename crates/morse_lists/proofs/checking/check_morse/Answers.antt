use Rattle.morse_lists.proofs.MorseLaws.{passed_all, inequalities_lem, euler_lem}
use Rattle.morse_lists.proofs.checking.check_morse.Goals as goal

pub returns-clause-inequalities : goal.returns-clause-inequalities
returns-clause-inequalities c = λ k.
    inequalities_lem c.args.c.now c.args.list.now k
    (passed_all c.args.c.now c.loop-i.faces c.args.list.now c.as_slice-step-items.result.now c.loop-i.i c.is_bare.result c.in_ok-faces.ensures.facets c.as_slice-step-items.ensures c.loop-i-test.false
    c.loop-i.invariant.list c.loop-i.invariant.simplices c.is_bare.ensures c.if-not-is_bare.false)

pub returns-clause-euler : goal.returns-clause-euler
returns-clause-euler c =
    euler_lem c.args.c.now c.args.list.now
    (passed_all c.args.c.now c.loop-i.faces c.args.list.now c.as_slice-step-items.result.now c.loop-i.i c.is_bare.result c.in_ok-faces.ensures.facets c.as_slice-step-items.ensures c.loop-i-test.false
    c.loop-i.invariant.list c.loop-i.invariant.simplices c.is_bare.ensures c.if-not-is_bare.false)
