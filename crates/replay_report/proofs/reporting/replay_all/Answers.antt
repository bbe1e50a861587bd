use Rattle.std.proofs.Common.{take}
use Rattle.replay_report.proofs.CountingLaws.{rest_from, next_part, room_more, text_more, count_more, good_more, fewer_more, at_end}
use Rattle.replay_report.proofs.reporting.replay_all.Goals as goal

pub loop-start-preserved : goal.loop-start-preserved
loop-start-preserved c =
    let rest = c.loop-start.rest.now in
    let start = c.in-Some.start in
    let n = c.part_len-len.result in
    let from = rest_from rest start in
    let e = next_part rest start n c.in-Some.ensures.parts c.part_len-len.ensures.parts in
    let was = c.loop-start.invariant in
    let now = c.in_ok-add_part.ensures in
    record {
      text = text_more _ _ (take n from) e _ _ _ now.text was.text;
      count = count_more _ _ (take n from) e _ _ _ now.parts was.count;
      good = good_more _ _ (take n from) e _ _ _ now.accepted was.good;
      fewer = fewer_more _ _ _ _ _ now.accepted now.parts was.fewer;
      room = room_more rest start n _ _ _ c.part_len-len.ensures.some c.part_len-len.ensures.within now.parts was.room;
    }

pub returns-clause-refuses : goal.returns-clause-refuses
returns-clause-refuses c =
    let was = c.loop-start.invariant in
    at_end _ _ _ _ c.in_default.ensures.none was.good was.count
