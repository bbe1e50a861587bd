use Rattle.std.proofs.Common.{◌+◌, ap, ◌∙◌, arith}
use Rattle.flip_table.specs.Following.{next_candidates}
use Rattle.flip_table.proofs.FollowingLaws.{next_lists_more}
use Rattle.flip_table.proofs.following.next_lists.Goals as goal

pub loop-k-preserved : goal.loop-k-preserved
loop-k-preserved c =
    let m = c.args.flip.now in
    let d = c.args.next.now in
    let k = c.loop-k.k in
    next_lists_more m d c.args.lists.now c.loop-k.following.items c.push.new.self.items k c.index-lists-k.result c.in_ok-list.list
    (omega (arith, c.loop-k-test.true, c.loop-k.auto.k-end)) c.index-lists-k.is (c.in_ok-list.ensures ∙ ap (next_candidates m d (k + 1)) c.as_slice-in-loop-k.ensures)
    c.loop-k.invariant c.in_ok-push.ensures.items
