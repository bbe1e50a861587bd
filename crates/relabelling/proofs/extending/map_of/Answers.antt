use Rattle.std.proofs.Common.{◌∙◌, true, false, cond, Some, None, ap, sym}
use Rattle.facet_set.specs.Flips.{same_facets}
use Rattle.facet_set.specs.Maps.{image, becomes}
use Rattle.relabelling.proofs.ExtendLaws.{paired, vertices_labels}
use Rattle.relabelling.proofs.extending.map_of.Goals as goal

pub carries-requires : goal.carries-requires
carries-requires c = vertices_labels c.args.images.now c.args.vertices.now c.deref.result.now c.requires.images c.requires.labels (c.deref.ensures.value ∙ c.in_ok-list.ensures)

pub returns-then-branch : goal.returns-then-branch
returns-then-branch c =
    ap Some (c.from_vec.ensures ∙ c.in_ok-list.ensures)
    ∙ ap (λ b. cond b (Some (paired (becomes c.args.images.now) c.args.vertices.now)) None) (sym c.if-branch.true ∙ c.in_ok-carries.ensures ∙ ap (λ m. same_facets (image m c.args.ways.now.c.now) c.args.ways.now.d.now) (c.deref.ensures.value ∙ c.in_ok-list.ensures))

pub returns : goal.returns
returns c =
    ap (λ b. cond b (Some (paired (becomes c.args.images.now) c.args.vertices.now)) None) (sym c.if-branch.false ∙ c.in_ok-carries.ensures ∙ ap (λ m. same_facets (image m c.args.ways.now.c.now) c.args.ways.now.d.now) (c.deref.ensures.value ∙ c.in_ok-list.ensures))
