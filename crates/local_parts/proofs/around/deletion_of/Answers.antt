use Rattle.std.proofs.Common.{◌≡◌, ◌∙◌, ap}
use Rattle.std.specs.List.{flat_map}
use Rattle.facet_set.specs.Complex.{generated}
use Rattle.facet_set.specs.Parts.{deletion}
use Rattle.facet_set.proofs.GeneratedLaws.{if_ok}
use Rattle.facet_set.proofs.ComplexLaws.{sets_of}
use Rattle.local_parts.specs.Pieces.{pieces}
use Rattle.local_parts.proofs.AroundLaws.{deletion_is}
use Rattle.local_parts.proofs.around.deletion_of.Goals as goal

pub returns : goal.returns
returns c =
    if_ok (λ d. d ≡ generated c.deref.result.now) (λ d. d ≡ deletion c.args.c.now c.args.a.now) c.generated.result
    (λ d e. e ∙ ap generated (c.deref.ensures.value ∙ c.in_ok-pieces.ensures ∙ ap (λ f. flat_map (pieces c.args.a.now) f) c.as_slice.ensures.value) ∙ deletion_is c.args.c.now c.args.a.now (sets_of c.args.c.now c.as_slice.ensures.simplices))
    c.generated.ensures
