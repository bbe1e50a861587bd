use Rattle.flip_rules.proofs.FlippedList.{has_inserted}
use Rattle.flip_rules.proofs.flipping.put.Goals as goal

pub returns : goal.returns
returns c = has_inserted c.args.list.now.items c.insert.new.self.items c.partition_point-place.result c.args.s c.in_ok-insert.ensures.items
