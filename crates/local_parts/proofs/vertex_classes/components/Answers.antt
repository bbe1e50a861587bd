use Rattle.std.proofs.Common.{◌≡◌, ◌∙◌, ℕ, Bool, ap, length}
use Rattle.std.specs.List.{range_with_len}
use Rattle.std.specs.Ordering.{nat_cmp}
use Rattle.simplex.specs.InOrder.{is_increasing}
use Rattle.facet_set.specs.Connection.{classes, components}
use Rattle.facet_set.proofs.GeneratedLaws.{if_ok}
use Rattle.facet_set.proofs.ComplexLaws.{verts_increase}
use Rattle.local_parts.specs.Forest.{HasChains}
use Rattle.local_parts.proofs.ComponentLaws.{these_pairs, these_within, component_count}
use Rattle.local_parts.proofs.vertex_classes.components.Goals as goal

pub vertex_pairs-requires : goal.vertex_pairs-requires
vertex_pairs-requires c = ap (is_increasing nat_cmp) (c.as_slice-2.ensures ∙ c.in_ok-vertices.ensures.value) ∙ verts_increase c.args.c.now

pub class_count-requires : goal.class_count-requires
class_count-requires c =
    these_within c.args.c.now c.deref.result.now c.len.result
    (these_pairs c.args.c.now c.as_slice.result.now c.as_slice-2.result.now c.deref.result.now (c.as_slice-2.ensures ∙ c.in_ok-vertices.ensures.value) c.as_slice.ensures.value (c.deref.ensures.value ∙ c.in_ok-pairs.ensures))
    (c.len.ensures ∙ ap length c.in_ok-vertices.ensures.value)

pub returns : goal.returns
returns c =
    if_ok (λ (n : ℕ). (joined : ℕ → ℕ → Bool) → HasChains joined c.deref.result.now c.len.result → n ≡ length (classes joined (range_with_len 0 c.len.result))) (λ (n : ℕ). n ≡ components c.args.c.now) c.class_count.result
    (λ n h. component_count c.args.c.now c.deref.result.now c.len.result n
    (these_pairs c.args.c.now c.as_slice.result.now c.as_slice-2.result.now c.deref.result.now (c.as_slice-2.ensures ∙ c.in_ok-vertices.ensures.value) c.as_slice.ensures.value (c.deref.ensures.value ∙ c.in_ok-pairs.ensures))
    (c.len.ensures ∙ ap length c.in_ok-vertices.ensures.value) h)
    c.class_count.ensures
