use Rattle.std.proofs.Common.{sym, subst}
use Rattle.shellings.specs.Candidates.{IsSetting}
use Rattle.shellings.proofs.NearLaws.{setting_more}
use Rattle.shellings.proofs.RidgeLaws.{stands_from}
use Rattle.shellings.proofs.StarLaws.{read_in}
use Rattle.shellings.proofs.candidates.place.Goals as goal

pub narrow_near-requires-clause-setting : goal.narrow_near-requires-clause-setting
narrow_near-requires-clause-setting c =
    subst (λ l. IsSetting c.args.facets.now l) (sym c.in_ok-push.ensures.order)
    (setting_more c.args.facets.now c.args.placement.now.order c.index-facets-k.result c.requires.setting (read_in c.args.facets.now c.args.k c.index-facets-k.result c.requires.place c.index-facets-k.is))

pub narrow_near-requires-clause-facet : goal.narrow_near-requires-clause-facet
narrow_near-requires-clause-facet c = stands_from c.args.facets.now c.index-facets-k.result (read_in c.args.facets.now c.args.k c.index-facets-k.result c.requires.place c.index-facets-k.is)
