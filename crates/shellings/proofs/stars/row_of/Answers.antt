use Rattle.std.proofs.Common.{Err}
use Rattle.std.proofs.lemmas.List.Sorted.{searched}
use Rattle.shellings.proofs.StarLaws.{in_order_at, is_there}
use Rattle.shellings.proofs.stars.row_of.Goals as goal

pub unreachable-requires : goal.unreachable-requires
unreachable-requires c =
    let s = searched c.args.labels.now c.args.label (Err c.in-Err.field-0) c.in-Err.ensures.position (in_order_at c.args.labels.now c.requires.rising) in
    is_there c.args.labels.now c.args.label c.in-Err.field-0 c.requires.rising c.requires.member s.1 s.2
