use Rattle.std.proofs.Common.{◌∙◌, subst, List, ℕ, IsPermutation}
use Rattle.std.proofs.lemmas.List.Filters.{dedup_is}
use Rattle.facet_set.proofs.VertexLaws.{labels, sorted_labels}
use Rattle.face_lattice.proofs.labels.labels_of.Goals as goal

pub returns : goal.returns
returns c =
    dedup_is _ _ _ c.dedup.ensures.filtered
    ∙ sorted_labels (labels c.args.list.now) c.sort_unstable.new.self.items (subst (λ (xs : List ℕ). IsPermutation xs c.sort_unstable.new.self.items) c.in_ok-labels.ensures c.sort_unstable.ensures.permutation) c.sort_unstable.ensures.sorted
