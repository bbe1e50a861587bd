use Rattle.std.proofs.Common.{◌∙◌, subst, slice_index_or}
use Rattle.simplex.specs.Members.{In}
use Rattle.facet_set.proofs.SetLaws.{in_place}
use Rattle.verdicts.proofs.manifolds.decide.Goals as goal

pub walk_on_link-requires-clause-vertex : goal.walk_on_link-requires-clause-vertex
walk_on_link-requires-clause-vertex c =
    subst (λ l. In (slice_index_or c.as_slice-vertex-items.result.now c.loop-vertex.vertex-index 0) l) (c.as_slice-vertex-items.ensures ∙ c.in_ok-vertices.ensures.value)
    (in_place c.as_slice-vertex-items.result.now c.loop-vertex.vertex-index 0 c.loop-vertex-test.true)
