use Rattle.std.proofs.Common.{ap, ◌∙◌}
use Rattle.facet_set.specs.Flips.{goes}
use Rattle.annealer.proofs.WalkLaws.{goes_take}
use Rattle.annealer.proofs.walking.finish.Goals as goal

pub stand-requires-clause-goes : goal.stand-requires-clause-goes
stand-requires-clause-goes g c =
    ap (goes c.args.start.now) (c.as_slice.ensures ∙ c.in_ok-flips.ensures) ∙ goes_take c.goal_len-count.result c.args.start.now c.args.course.session.journal c.requires.goes
