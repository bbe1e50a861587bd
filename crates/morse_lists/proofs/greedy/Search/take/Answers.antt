use Rattle.std.proofs.Common.{◌∙◌, ℕ, List, sym, subst}
use Rattle.simplex.specs.Members.{In}
use Rattle.betti_tables.specs.Ranks.{column}
use Rattle.morse_lists.specs.Queues.{Waits}
use Rattle.morse_lists.proofs.GreedyLaws.{ready_after, shorter_after}
use Rattle.morse_lists.proofs.greedy.Search.take.Goals as goal

pub returns-in_err-add_below-clause-fewer : goal.returns-in_err-add_below-clause-fewer
returns-in_err-add_below-clause-fewer c =
    shorter_after c.args.self.now.faces c.add_below.new.self.faces c.args.step.now c.requires.ready.facets c.take.ensures.simplex c.requires.possible (c.add_below.ensures.faces ∙ c.take.ensures.value)

pub returns-in_err-add_below-2-clause-fewer : goal.returns-in_err-add_below-2-clause-fewer
returns-in_err-add_below-2-clause-fewer c =
    shorter_after c.args.self.now.faces c.add_below-2.new.self.faces c.args.step.now c.requires.ready.facets c.take.ensures.simplex c.requires.possible
    (c.add_below-2.ensures.faces ∙ c.add_below.ensures.faces ∙ c.take.ensures.value)

pub returns-clause-fewer : goal.returns-clause-fewer
returns-clause-fewer c =
    shorter_after c.args.self.now.faces c.add_below-2.new.self.faces c.args.step.now c.requires.ready.facets c.take.ensures.simplex c.requires.possible
    (c.add_below-2.ensures.faces ∙ c.add_below.ensures.faces ∙ c.take.ensures.value)

pub returns-clause-ready : goal.returns-clause-ready
returns-clause-ready c =
    let m = c.args.step.now in
    let one = c.add_below.new.self in
    let two = c.add_below-2.new.self in
    let last = c.add_below-2.ensures.faces in
    ready_after c.args.self.now.faces two.faces m c.args.self.now.free c.args.self.now.tops one.free one.tops two.free two.tops
    c.requires.ready c.take.ensures.simplex c.requires.possible (last ∙ c.add_below.ensures.faces ∙ c.take.ensures.value)
    c.in_ok-add_below.ensures.free_stay c.in_ok-add_below.ensures.tops_stay
    (subst (λ x. (s : List ℕ) → In s (column m.high) → Waits x one.free one.tops s) (sym (last ∙ c.add_below.ensures.faces)) c.in_ok-add_below.ensures.below)
    c.in_ok-add_below-2.ensures.free_stay c.in_ok-add_below-2.ensures.tops_stay
    (subst (λ x. (s : List ℕ) → In s (column m.low) → Waits x two.free two.tops s) (sym last) c.in_ok-add_below-2.ensures.below)
