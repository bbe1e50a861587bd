use Rattle.std.proofs.Common.{sym, subst, arith}
use Rattle.simplex.specs.Simplex.{is_simplex}
use Rattle.std.proofs.lemmas.List.{take_all}
use Rattle.simplex.proofs.Members.{In, all_from}
use Rattle.facet_set.proofs.GeneratedLaws.{measured_more}
use Rattle.facet_set.proofs.generated.measure.Goals as goal

pub loop-s-preserved : goal.loop-s-preserved
loop-s-preserved c = λ s i.
    measured_more c.args.members.now c.loop-s.s-index c.s-item.result s c.loop-s.shortest c.loop-s.longest c.min-shortest.result c.max-longest.result
    c.loop-s-test.true c.s-item.is c.len.ensures.simplex (omega (arith, c.min-shortest.ensures, c.len.ensures.value)) (omega (arith, c.min-shortest.ensures)) (omega (arith, c.max-longest.ensures, c.len-in-loop-s.ensures.value)) (omega (arith, c.max-longest.ensures)) c.loop-s.invariant i

pub returns-clause-simplices : goal.returns-clause-simplices
returns-clause-simplices c = all_from is_simplex c.args.members.now (λ s i. (c.loop-s.invariant s (subst (λ l. In s l) (sym (take_all c.loop-s.s-index c.args.members.now c.loop-s-test.false)) i)).simplex)
