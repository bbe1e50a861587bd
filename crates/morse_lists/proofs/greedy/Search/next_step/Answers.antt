use Rattle.std.proofs.Common.{refl, inl, inr}
use Rattle.morse_lists.proofs.GreedyLaws.{but_free, greedy_possible, no_top}
use Rattle.morse_lists.proofs.greedy.Search.next_step.Goals as goal

pub returns-in-Some-clause-possible : goal.returns-in-Some-clause-possible
returns-in-Some-clause-possible c = greedy_possible c.args.self.now.faces c.in-Some.step c.requires.facets (inl c.in-Some.ensures.step)

pub returns-in-Some-clause-ready : goal.returns-in-Some-clause-ready
returns-in-Some-clause-ready c =
    but_free c.args.self.now.faces c.args.self.now.free c.args.self.now.tops c.next_collapse.new.queue c.in-Some.step.low c.requires c.in-Some.ensures.wait

pub returns-in-Some-next_facet-clause-possible : goal.returns-in-Some-next_facet-clause-possible
returns-in-Some-next_facet-clause-possible c =
    greedy_possible c.args.self.now.faces (record { low = c.in-Some-next_facet.facet; high = c.in-Some-next_facet.facet }) c.requires.facets
    (inr (record { none = c.in_default.ensures.none; one = refl; top = c.in-Some-next_facet.ensures.first }))

pub returns-in-None-clause-none : goal.returns-in-None-clause-none
returns-in-None-clause-none c = no_top c.args.self.now.faces c.requires.facets c.in-None.ensures.none
