use Rattle.plain_text.proofs.FrontLaws.{err_any, first_front, next_front, whole_text}
use Rattle.plain_text.proofs.printing.put_items.Goals as goal

pub returns-in_err-put-clause-front : goal.returns-in_err-put-clause-front
returns-in_err-put-clause-front g c =
    err_any _ _ (first_front g.T.Printed.text c.args.out.now c.put.new.out c.args.items.now c.in-Some.first.now c.in-Some.rest.now c.in-Some.ensures.cases.0 c.in_err-put.ensures.front)

pub returns-in_err-put_next-clause-front : goal.returns-in_err-put_next-clause-front
returns-in_err-put_next-clause-front g c =
    err_any _ _ (next_front g.T.Printed.text c.args.out.now c.put.new.out c.loop-item.out c.put_next.new.out c.args.items.now c.in-Some.first.now c.in-Some.rest.now c.loop-item.item-index c.item-item.result c.item-item.result
    c.in-Some.ensures.cases.0 c.in_ok-put.ensures.text c.loop-item.invariant c.loop-item-test.true c.item-item.is c.in_err-put_next.ensures.front)

pub returns-clause-text : goal.returns-clause-text
returns-clause-text g c =
    whole_text g.T.Printed.text c.args.out.now c.put.new.out c.loop-item.out c.args.items.now c.in-Some.first.now c.in-Some.rest.now c.loop-item.item-index
    c.in-Some.ensures.cases.0 c.in_ok-put.ensures.text c.loop-item.invariant c.loop-item-test.false
