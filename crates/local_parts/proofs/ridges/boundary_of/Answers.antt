use Rattle.std.proofs.Common.{◌≡◌, ◌-◌, ◌^◌, min, ◌∙◌, ap}
use Rattle.std.specs.Prelude.{◌==◌}
use Rattle.std.specs.List.{filter}
use Rattle.facet_set.specs.Complex.{generated}
use Rattle.facet_set.specs.Parts.{boundary}
use Rattle.facet_set.proofs.GeneratedLaws.{if_ok}
use Rattle.facet_set.proofs.ComplexLaws.{sets_of}
use Rattle.local_parts.specs.Pieces.{all_ridges, copies, count_at}
use Rattle.local_parts.proofs.RidgeLaws.{boundary_is}
use Rattle.local_parts.proofs.ridges.boundary_of.Goals as goal

pub returns : goal.returns
returns c =
    let ridges = c.in_ok-ridges.ensures ∙ ap all_ridges c.as_slice.ensures.value in
    if_ok (λ d. d ≡ generated c.deref-3.result.now) (λ d. d ≡ boundary c.args.c.now) c.generated.result
    (λ d e.
    e ∙ ap generated (c.deref-3.ensures.value ∙ c.in_ok-once.ensures ∙ ap (filter (λ r. count_at c.in_ok-counts.counts r == 1)) (c.deref-2.ensures.value ∙ ridges))
    ∙ boundary_is c.args.c.now (count_at c.in_ok-counts.counts) (sets_of c.args.c.now c.as_slice.ensures.simplices) c.requires (λ t. c.in_ok-counts.ensures t ∙ ap (λ l. min (copies t l) (2 ^ 32 - 1)) (c.deref.ensures.value ∙ ridges)))
    c.generated.ensures
