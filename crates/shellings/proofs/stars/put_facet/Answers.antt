use Rattle.std.proofs.Common.{◌<◌, length, get_or, refl, ap, ◌∙◌, arith}
use Rattle.shellings.proofs.StarLaws.{put_more, read_self}
use Rattle.shellings.proofs.stars.put_facet.Goals as goal

pub loop-label-preserved : goal.loop-label-preserved
loop-label-preserved c =
    let f = c.args.f.now in
    let p = c.loop-label.label-index in
    let items = c.labels-label-items.ensures.value in
    let long = ap length items in
    let below : p < length f = omega (arith, long) in
    let count = c.requires.count in
    let kept = c.loop-label.invariant.count in
    put_more c.args.labels.now c.args.place f p (get_or f p 0) below (read_self f p below) c.args.sets.now c.loop-label.sets _ c.row_of.result c.index-sets-row_of.result c.put.new.self c.requires.rising
    (kept ∙ count) c.row_of.ensures.within (c.row_of.ensures.value ∙ ap (λ l. get_or l p 0) items) c.index-sets-row_of.is c.put.ensures.value c.put.ensures.len refl c.loop-label.invariant
