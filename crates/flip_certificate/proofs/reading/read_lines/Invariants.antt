use Rattle.std.proofs.Common.{◌≡◌, ◌+◌, ◌≤◌, length}
use Rattle.flip_certificate.specs.Reading.{lines_in, reading, reading_from}
use Rattle.flip_certificate.proofs.reading.read_lines.Given as goal

abbrev pub invariant-lines : goal.invariant-lines
invariant-lines l = record {
  same : reading_from l.number l.draft (lines_in l.rest) ≡ reading l.bytes;
  counted : l.number + length l.rest ≤ length l.bytes + 1;
}

abbrev pub decreases-lines : goal.decreases-lines
decreases-lines l = length l.rest
