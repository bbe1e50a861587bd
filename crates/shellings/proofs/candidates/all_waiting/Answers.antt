use Rattle.std.proofs.Common.{◌≤◌, length, map, ap, ◌∙◌, arith}
use Rattle.std.proofs.lemmas.List.{take_all}
use Rattle.shellings.proofs.GreedyLaws.{all_first, start_more, starting}
use Rattle.shellings.proofs.candidates.all_waiting.Goals as goal

pub loop-f-preserved : goal.loop-f-preserved
loop-f-preserved c =
    start_more c.args.facets.now c.loop-f.f-index c.f-item.result c.loop-f.candidates.items c.push.new.self.items (omega arith) c.f-item.is c.loop-f.invariant c.in_ok-push.ensures.items

pub returns : goal.returns
returns c =
    let end : length c.args.facets.now ≤ c.loop-f.f-index = omega arith in
    all_first c.args.facets.now c.loop-f.candidates.items (c.loop-f.invariant ∙ ap (map starting) (take_all c.loop-f.f-index c.args.facets.now end))
