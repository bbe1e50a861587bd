use Rattle.plain_text.specs.Printing.{simplex_text}
use Rattle.plain_text.proofs.FrontLaws.{whole_text}
use Rattle.flip_certificate.specs.Lines.{pair_list}
use Rattle.flip_certificate.proofs.writing.put_pairs.Goals as goal

pub returns : goal.returns
returns c =
    whole_text (λ p. simplex_text (pair_list p)) c.args.out.now c.put_pair.new.out c.loop-pair.out c.args.pairs.now c.in-Some.first.now c.in-Some.rest.now c.loop-pair.pair-index
    c.in-Some.ensures.cases.0 c.in_ok-put_pair.ensures c.loop-pair.invariant c.loop-pair-test.false
