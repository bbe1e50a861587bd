use Rattle.std.proofs.Common.{length, arith, ap}
use Rattle.facet_set.proofs.SetLaws.{in_item}
use Rattle.relabelling.proofs.flags.Flag.longer_orders.Goals as goal

pub add_longer-requires : goal.add_longer-requires
add_longer-requires c =
    let h = (c.requires.orders c.order-item.result (in_item c.args.orders.now c.loop-order.order-index c.order-item.result c.loop-order-test.true c.order-item.is)).0 in
    let same = ap length c.as_slice.ensures in
    let less = c.requires.place in
    omega (arith, h, same, less)
