use Rattle.std.proofs.Common.{◌∙◌, ap}
use Rattle.simplex.specs.InOrder.{is_member}
use Rattle.simplex.specs.Simplex.{simplex_cmp}
use Rattle.ranked_set.specs.Blocks.{joined}
use Rattle.ranked_set.proofs.ChangeLaws.{found_exact}
use Rattle.ranked_set.proofs.ranked.RankedSet.has.Goals as goal

pub returns-clause-value : goal.returns-clause-value
returns-clause-value c =
    c.is_some.ensures
    ∙ found_exact c.find_in.result (λ p. p.block) (λ p. p.inner) c.of.result c.deref.result.now c.find_in.ensures.block c.find_in.ensures.inner c.find_in.ensures.there c.find_in.ensures.none
    ∙ ap (λ bs. is_member simplex_cmp c.of.result (joined bs)) c.deref.ensures.value
    ∙ ap (λ s. is_member simplex_cmp s (joined c.self.inside.blocks.items)) c.of.ensures.value
    ∙ ap (λ v. is_member simplex_cmp c.args.s.now v.members) c.self.view_is
