use Rattle.std.proofs.Common.{sym, ◌∙◌, subst}
use Rattle.shellings.specs.Placement.{ArePlaced}
use Rattle.shellings.proofs.PlacementLaws.{placed_more}
use Rattle.shellings.proofs.placement.Placement.push.Goals as goal

pub returns-clause-placed : goal.returns-clause-placed
returns-clause-placed c = λ all k e. record {
  fitting = record { stars = k.fitting.stars; placed = c.put.ensures.len ∙ k.fitting.placed; found = k.fitting.found; few = k.fitting.few };
  labels = k.labels;
  stars = k.stars;
  all = k.all;
  room = k.room;
  placed = subst (λ l. ArePlaced all l c.put.new.self.words.items) (sym c.in_ok-push.ensures.ok)
      (placed_more all c.args.self.now.order c.args.self.now.placed.words.items c.put.new.self.words.items c.args.place c.args.f k.placed e c.put.ensures.value);
}
