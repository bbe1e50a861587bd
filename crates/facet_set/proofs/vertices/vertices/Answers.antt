use Rattle.std.proofs.Common.{ap, ◌∙◌, subst, List, ℕ, IsPermutation}
use Rattle.std.specs.List.{list_all}
use Rattle.std.proofs.lemmas.List.Filters.{dedup_is}
use Rattle.facet_set.proofs.VertexLaws.{labels, sorted_labels, verts_labels}
use Rattle.facet_set.proofs.vertices.vertices.Goals as goal

pub returns-clause-value : goal.returns-clause-value
returns-clause-value c =
    c.from_vec.ensures ∙ dedup_is _ _ _ c.dedup.ensures.filtered
    ∙ sorted_labels (labels c.args.simplices.now) c.sort_unstable.new.self.items (subst (λ (xs : List ℕ). IsPermutation xs c.sort_unstable.new.self.items) c.in_ok-labels.ensures c.sort_unstable.ensures.permutation) c.sort_unstable.ensures.sorted

pub returns-clause-labels : goal.returns-clause-labels
returns-clause-labels c = ap (list_all _) (returns-clause-value c) ∙ verts_labels c.args.simplices.now c.requires
