use Rattle.std.proofs.Common.{◌≡◌, ◌≤◌, ℕ, List, length, take, slice_index_or}
use Rattle.simplex.specs.Members.{In}
use Rattle.relabelling.specs.Colours.{colour}
use Rattle.relabelling.specs.Flags.{AreOrders, Fits}
use Rattle.relabelling.proofs.flags.Flag.orders.Given as goal

abbrev pub invariant-loop-place : goal.invariant-loop-place
invariant-loop-place l = record {
  within : l.place ≤ length l.self.start.now;
  orders : AreOrders l.place l.orders.items;
  all : (g : List ℕ) → Fits (colour l.self.colours.now.of_c) (colour l.self.colours.now.of_d) l.self.start.now l.self.facet.now g → slice_index_or g 0 0 ≡ l.first → In (take l.place g) l.orders.items;
}
