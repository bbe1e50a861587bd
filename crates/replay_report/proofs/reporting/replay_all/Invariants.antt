use Rattle.std.proofs.Common.{◌≡◌, ◌≤◌, ◌+◌, ◌++◌, length, count_by}
use Rattle.std.specs.List.{flat_map}
use Rattle.replay_report.specs.Report.{parts, part_text, is_accepted}
use Rattle.replay_report.proofs.reporting.replay_all.Given as goal

abbrev pub invariant-loop-start : goal.invariant-loop-start
invariant-loop-start l = record {
  text : l.report.text ++ flat_map part_text (parts l.rest) ≡ flat_map part_text (parts l.bytes);
  count : l.report.parts + length (parts l.rest) ≡ length (parts l.bytes);
  good : l.report.accepted + count_by is_accepted (parts l.rest) ≡ count_by is_accepted (parts l.bytes);
  fewer : l.report.accepted ≤ l.report.parts;
  room : l.report.parts + length l.rest ≤ length l.bytes;
}

abbrev pub decreases-loop-start : goal.decreases-loop-start
decreases-loop-start l = length l.rest
