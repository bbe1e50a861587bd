use Rattle.std.proofs.Common.{◌%◌, ◌<◌, length, arith}
use Rattle.ranked_set.proofs.BlockLaws.{on_ok}
use Rattle.constructions.proofs.StackedLaws.{out_member, out_labels, out_rising, out_value}
use Rattle.constructions.proofs.stacked_spheres.stack.Goals as goal

pub remove-requires : goal.remove-requires
remove-requires g c =
    let at : c.args.word % c.args.count < length c.args.facets.now.members = omega (arith, c.requires.count, c.requires.some) in
    out_member c.args.facets.now.members c.args.facets.now.members (c.args.word % c.args.count) c.in-Some.facet c.requires.rising at c.in-Some.ensures.value

pub put_cones-requires-clause-rising : goal.put_cones-requires-clause-rising
put_cones-requires-clause-rising g c =
    let at : c.args.word % c.args.count < length c.args.facets.now.members = omega (arith, c.requires.count, c.requires.some) in
    out_rising c.args.facets.now.members c.remove.new.self.members (c.args.word % c.args.count) c.in-Some.facet c.requires.rising at c.in-Some.ensures.value c.remove.ensures.members

pub put_cones-requires-clause-labels : goal.put_cones-requires-clause-labels
put_cones-requires-clause-labels g c =
    let at : c.args.word % c.args.count < length c.args.facets.now.members = omega (arith, c.requires.count, c.requires.some) in
    out_labels c.args.facets.now.members c.remove.new.self.members (c.args.word % c.args.count) c.in-Some.facet c.requires.rising at c.in-Some.ensures.value c.args.label c.requires.labels

pub returns-clause-value : goal.returns-clause-value
returns-clause-value g c =
    let at : c.args.word % c.args.count < length c.args.facets.now.members = omega (arith, c.requires.count, c.requires.some) in
    on_ok _ _ c.put_cones.result
    (out_value c.args.facets.now.members c.remove.new.self.members (c.args.word % c.args.count) c.in-Some.facet c.requires.rising at c.in-Some.ensures.value c.put_cones.new.facets.members c.args.label c.remove.ensures.members)
    c.put_cones.ensures.value
