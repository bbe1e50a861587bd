use Rattle.std.proofs.Common.{◌-◌, ◌∙◌, sym}
use Rattle.seeded_words.specs.Words.{words_from}
use Rattle.annealer.specs.Walk.{flips_by}
use Rattle.annealer.proofs.CourseLaws.{at_boundary, on_walk_step}
use Rattle.annealer.proofs.course.Course.run.Goals as goal

pub returns-then-has_met : goal.returns-then-has_met
returns-then-has_met g c =
    let x = c.args.self.now in
    at_boundary x.session.present (flips_by x.session.present x.heat (words_from c.args.budget x.words)) c.args.budget (c.args.budget - c.loop.counter) c.loop.self c.loop.invariant (sym c.has_met.ensures ∙ c.if-has_met.true)

pub loop-preserved : goal.loop-preserved
loop-preserved g c =
    let x = c.args.self.now in
    on_walk_step x.session.present (flips_by x.session.present x.heat (words_from c.args.budget x.words)) c.args.budget c.loop.counter c.loop.self c.step.new.self c.loop-test.true c.loop.invariant (sym c.has_met.ensures ∙ c.if-has_met.false) c.in_ok-step.ensures
