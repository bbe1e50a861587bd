use Rattle.std.proofs.Common.{ap, subst, ◌∙◌}
use Rattle.facet_set.specs.Facets.{IsFacets}
use Rattle.morse_lists.specs.Morse.{after_step}
use Rattle.morse_lists.proofs.GreedyLaws.{list_more, list_whole, greedy_is_morse}
use Rattle.morse_lists.proofs.greedy.greedy_morse.Goals as goal

pub loop-step-preserved : goal.loop-step-preserved
loop-step-preserved c = record {
  ready = c.in_ok-take.ensures.ready;
  list = list_more c.args.c.now c.loop-step.search.faces c.take.new.self.faces c.loop-step.steps c.push.new.self c.in-Some.step c.in-Some.ensures.step
      (c.take.ensures.faces ∙ ap (λ x. after_step x c.in-Some.step) c.next_step.ensures.faces) c.in_ok-push.ensures.ok c.loop-step.invariant.list;
}

pub returns-clause-greedy : goal.returns-clause-greedy
returns-clause-greedy c = list_whole c.args.c.now c.loop-step.search.faces c.loop-step.steps c.loop-step.invariant.list c.in_default.ensures.none

pub returns-clause-morse : goal.returns-clause-morse
returns-clause-morse c =
    greedy_is_morse c.loop-step.steps c.args.c.now (subst IsFacets c.in_ok-search.ensures.faces c.in_ok-search.ensures.ready.facets)
    (list_whole c.args.c.now c.loop-step.search.faces c.loop-step.steps c.loop-step.invariant.list c.in_default.ensures.none)
