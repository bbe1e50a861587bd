use Rattle.std.proofs.Common.{◌-◌}
use Rattle.seeded_words.specs.Words.{words_from}
use Rattle.annealer.specs.Course.{IsOnWalk}
use Rattle.annealer.specs.Walk.{flips_by}
use Rattle.annealer.proofs.course.Course.run.Given as goal

abbrev pub invariant-loop : goal.invariant-loop
invariant-loop g l = IsOnWalk l.fn.self.session.present (flips_by l.fn.self.session.present l.fn.self.heat (words_from l.budget l.fn.self.words)) l.budget (l.budget - l.counter) l.self
