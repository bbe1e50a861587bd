use Rattle.std.proofs.Common.{ap, ◌∙◌}
use Rattle.std.specs.List.{fold}
use Rattle.std.proofs.Common.{max}
use Rattle.std.proofs.lemmas.List.{take_all}
use Rattle.facet_set.proofs.VertexLaws.{labels, greatest_more, greatest_is}
use Rattle.facet_set.proofs.vertices.greatest_label.Goals as goal

pub loop-s-preserved : goal.loop-s-preserved
loop-s-preserved c = greatest_more c.args.simplices.now c.loop-s.s-index c.s-item.result c.loop-s.greatest c.last_label.result c.max-greatest.result c.loop-s-test.true c.s-item.is c.loop-s.invariant c.last_label.ensures c.max-greatest.ensures

pub returns : goal.returns
returns c = c.loop-s.invariant ∙ ap (λ l. fold max 0 (labels l)) (take_all c.loop-s.s-index c.args.simplices.now c.loop-s-test.false) ∙ greatest_is c.args.simplices.now
