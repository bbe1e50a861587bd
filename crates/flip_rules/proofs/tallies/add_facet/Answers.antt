use Rattle.std.proofs.Common.{arith}
use Rattle.indexmap.specs.IndexMap.{get}
use Rattle.facet_set.proofs.FaceNumbers.{kept_next, kept_all, number_is}
use Rattle.flip_rules.specs.Tallies.{same, is_sized, put_facet}
use Rattle.flip_rules.proofs.tallies.add_facet.Goals as goal

pub loop-mask-preserved : goal.loop-mask-preserved
loop-mask-preserved c =
    let f = c.args.facet.now in
    let n = number_is f c.len.result c.len.ensures.simplex c.len.ensures.value in
    kept_next put_facet (is_sized c.args.sizes) f c.subset.result c.loop-mask.mask (get same c.args.tallies.now) (get same c.loop-mask.tallies) (get same c.add_sized.new.tallies) c.len.ensures.simplex (omega (arith, n, c.loop-mask-test.true))
    c.subset.ensures.value c.loop-mask.invariant c.in_ok-add_sized.ensures

pub returns : goal.returns
returns c =
    let f = c.args.facet.now in
    let n = number_is f c.len.result c.len.ensures.simplex c.len.ensures.value in
    kept_all put_facet (is_sized c.args.sizes) f c.loop-mask.mask (get same c.args.tallies.now) (get same c.loop-mask.tallies) c.len.ensures.simplex (omega (arith, n, c.loop-mask-test.false, c.loop-mask.auto.mask-end)) c.loop-mask.invariant
