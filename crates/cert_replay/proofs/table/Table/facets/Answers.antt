use Rattle.std.proofs.Common.{◌≡◌, ◌∙◌, ap}
use Rattle.facet_set.specs.Complex.{generated}
use Rattle.facet_set.proofs.GeneratedLaws.{if_ok}
use Rattle.cert_replay.proofs.TableLaws.{facets_again}
use Rattle.cert_replay.proofs.table.Table.facets.Goals as goal

pub returns : goal.returns
returns c =
    if_ok (λ d. d ≡ generated c.deref.result.now) (λ d. d ≡ c.args.self.now) c.generated.result
    (λ d e. e ∙ ap generated (c.deref.ensures.value ∙ c.in_ok-facets.ensures) ∙ facets_again c.self.inside.size c.self.inside.corners.keys c.self.invariant ∙ c.self.view_is)
    c.generated.ensures
