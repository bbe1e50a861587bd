use Rattle.std.specs.Prelude.{slice_index_or}
use Rattle.std.proofs.Common.{◌≡◌, ◌+◌, ◌<◌, length, take, rules, sym, ap, ◌∙◌, subst, arith}
use Rattle.std.proofs.lemmas.List.{length-take-le, with_items_is}
use Rattle.shellings.specs.Stars.{AreEmpty, AreShaped, AreStars, IsPut}
use Rattle.shellings.proofs.StarLaws.{facet_within, labels_rise, read_in, shaped_none, shaped_put, stars_more, stars_none}
use Rattle.shellings.proofs.stars.Stars.of.Goals as goal

pub loop-i-init : goal.loop-i-init
loop-i-init c =
    let labels = c.in_ok-labels.labels in
    let items = c.in_ok-sets.sets.items in
    let empty : AreEmpty items (length labels) c.args.len = subst (λ n. AreEmpty items n c.args.len) c.len.ensures c.in_ok-sets.ensures in
    record {
      shape = shaped_none labels items c.args.len (labels_rise c.args.c.now labels c.in_ok-labels.ensures.value) empty;
      stars = stars_none labels items c.args.len empty;
    }

pub put_facet-requires-clause-vertices : goal.put_facet-requires-clause-vertices
put_facet-requires-clause-vertices c =
    let facets = c.as_slice-f-items.ensures.value in
    let long = ap length facets in
    let item = c.f-item.is ∙ ap (λ l. slice_index_or l c.loop-i.i c.f-item.result) facets in
    facet_within c.args.c.now c.f-item.result c.as_slice.result.now (read_in c.args.c.now c.loop-i.i c.f-item.result (omega (arith, long)) item) (c.as_slice.ensures ∙ c.in_ok-labels.ensures.value)

pub loop-i-preserved : goal.loop-i-preserved
loop-i-preserved c =
    let all = c.args.c.now in
    let i = c.loop-i.i in
    let labels = c.in_ok-labels.labels in
    let facets = c.as_slice-f-items.ensures.value in
    let long = ap length facets in
    let below : i < length all = omega (arith, long) in
    let item = c.f-item.is ∙ ap (λ l. slice_index_or l i c.f-item.result) facets in
    let count : length c.put_facet.new.sets ≡ c.loop-i.sets.len = search rules in
    let same = with_items_is c.loop-i.sets c.put_facet.new.sets count in
    let put : IsPut labels i c.f-item.result c.loop-i.sets.items c.put_facet.new.sets =
    subst (λ l. IsPut l i c.f-item.result c.loop-i.sets.items c.put_facet.new.sets) c.as_slice.ensures
    (subst (λ l. IsPut c.as_slice.result.now i c.f-item.result l c.put_facet.new.sets) c.deref_mut.ensures.value c.put_facet.ensures) in
    record {
      shape = subst (λ l. AreShaped labels l c.args.len) (sym same) (shaped_put labels i c.f-item.result c.loop-i.sets.items c.put_facet.new.sets c.args.len put c.loop-i.invariant.shape);
      stars = subst (λ l. AreStars (take (i + 1) all) labels l) (sym same) (stars_more all i c.f-item.result labels c.loop-i.sets.items c.put_facet.new.sets below item (length-take-le i all (omega (arith, below))) c.loop-i.invariant.stars put);
    }
