use Rattle.facet_set.specs.Maps.{becomes}
use Rattle.facet_set.proofs.SetLaws.{images_short, union_next}
use Rattle.facet_set.proofs.relabelled.with_images.Goals as goal

pub with_label-all-requires-clause-short : goal.with_label-all-requires-clause-short
with_label-all-requires-clause-short c =
    images_short (becomes c.args.images.now) c.args.s.now c.labels-label-items.result.now c.loop-label.all c.loop-label.label-index c.labels-label-items.ensures.simplex c.labels-label-items.ensures.value c.loop-label-test.true c.loop-label.invariant

pub loop-label-preserved : goal.loop-label-preserved
loop-label-preserved c =
    union_next (becomes c.args.images.now) c.args.s.now c.labels-label-items.result.now c.loop-label.all c.with_label-all.result c.loop-label.label-index c.image_of.result c.labels-label-items.ensures.value c.loop-label-test.true c.image_of.ensures c.loop-label.invariant
    c.with_label-all.ensures
