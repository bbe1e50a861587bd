use Rattle.std.proofs.Common.{◌∙◌, ap, nat_eq}
use Rattle.std.specs.Cmp.Lexicographic.{pointwise}
use Rattle.facet_set.specs.Maps.{image}
use Rattle.relabelling.proofs.CarryLaws.{pairs_labels, whole_is}
use Rattle.relabelling.proofs.search.makes_map.Goals as goal

pub image-requires : goal.image-requires
image-requires c = pairs_labels c.args.sought.now.vertices.now c.args.images.now c.deref.result.now (c.deref.ensures.value ∙ c.in_ok-pairs.ensures) c.requires.whole c.requires.labels

pub returns : goal.returns
returns c =
    c.eq.ensures ∙ ap (λ x. pointwise (pointwise nat_eq) x c.as_slice-3.result.now) c.as_slice-2.ensures.value ∙ ap (pointwise (pointwise nat_eq) c.in_ok-image.image) c.as_slice-3.ensures.value
    ∙ whole_is c.args.sought.now.c.now c.args.sought.now.d.now c.in_ok-image.image c.args.sought.now.vertices.now c.args.images.now c.deref.result.now c.requires.vertices c.requires.whole c.requires.distinct (c.deref.ensures.value ∙ c.in_ok-pairs.ensures)
    (c.in_ok-image.ensures ∙ ap (image c.deref.result.now) c.as_slice.ensures.value)
