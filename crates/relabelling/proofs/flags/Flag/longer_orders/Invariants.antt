use Rattle.std.proofs.Common.{◌≡◌, take}
use Rattle.std.specs.List.{flat_map}
use Rattle.relabelling.specs.Colours.{colour}
use Rattle.relabelling.specs.Flags.{longer}
use Rattle.relabelling.proofs.flags.Flag.longer_orders.Given as goal

abbrev pub invariant-loop-order : goal.invariant-loop-order
invariant-loop-order l = l.next.items ≡ flat_map (longer (colour l.self.colours.now.of_c) (colour l.self.colours.now.of_d) l.self.start.now l.self.facet.now) (take l.order-index l.orders)
