use Rattle.std.proofs.Common.{◌≡◌, ◌∙◌, ap, [], ◌∷◌}
use Rattle.facet_set.specs.Complex.{generated}
use Rattle.facet_set.specs.Parts.{link, link_pieces}
use Rattle.facet_set.proofs.GeneratedLaws.{if_ok}
use Rattle.facet_set.proofs.ComplexLaws.{sets_of}
use Rattle.facet_set.proofs.LinkLaws.{link_is}
use Rattle.cert_replay.proofs.links.vertex_link.Goals as goal

pub returns : goal.returns
returns c =
    if_ok (λ d. d ≡ generated c.deref.result.now) (λ d. d ≡ link c.args.c.now (c.args.vertex ∷ [])) c.generated.result
    (λ d e. e ∙ ap generated (c.deref.ensures.value ∙ c.in_ok-pieces.ensures ∙ ap (λ f. link_pieces f c.point.result) c.as_slice.ensures.value ∙ ap (link_pieces c.args.c.now) c.point.ensures)
    ∙ link_is c.args.c.now (c.args.vertex ∷ []) (sets_of c.args.c.now c.as_slice.ensures.simplices))
    c.generated.ensures
