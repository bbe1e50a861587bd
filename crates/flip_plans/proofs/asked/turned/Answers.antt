use Rattle.std.proofs.Common.{sym, ◌∙◌}
use Rattle.flip_plans.proofs.FitLaws.{both_short, kept_long, new_long}
use Rattle.flip_plans.proofs.asked.turned.Goals as goal

pub returns-in_err-kept : goal.returns-in_err-kept
returns-in_err-kept c =
    c.from_residual.ensures ∙ kept_long c.args.flip.now c.args.s.now c.args.up.now c.args.labels.now c.requires.whole c.requires.labels.rising (sym c.outside.ensures ∙ c.in_err-kept.was)

pub returns-in_err-beside : goal.returns-in_err-beside
returns-in_err-beside c =
    c.from_residual-in_err-beside.ensures ∙ new_long c.args.flip.now c.args.s.now c.args.up.now c.args.labels.now c.requires.whole c.requires.labels.rising (sym c.inside.ensures ∙ c.in_err-beside.was)

pub returns : goal.returns
returns c =
    both_short c.args.flip.now c.args.s.now c.args.up.now c.args.labels.now c.requires.whole c.requires.labels.rising c.union.result c.in_ok-kept.kept c.in_ok-beside.beside
    (sym c.in_ok-kept.was ∙ c.outside.ensures) (sym c.in_ok-beside.was ∙ c.inside.ensures) c.union.ensures.fits c.union.ensures.value
