use Rattle.std.proofs.Common.{◌∙◌, sym}
use Rattle.constructions.proofs.JoinLaws.{within_room}
use Rattle.constructions.proofs.joins.join_fault.Goals as goal

pub returns : goal.returns
returns c =
    sym (within_room c.args.x.now c.args.y.now c.args.room c.join_weight.result (sym c.in_ok-fault.ensures ∙ c.in_default.is) c.join_weight.ensures c.if-join_weight-room.false c.ranges.room.fits)
