use Rattle.std.proofs.Common.{◌≡◌, ◌-◌, take, drop, subst}
use Rattle.std.proofs.lemmas.List.{take_rest}
use Rattle.replay_report.specs.Report.{lines_of, split_parts, parts}
use Rattle.replay_report.proofs.CuttingLaws.{whole_part}
use Rattle.replay_report.proofs.cutting.part_len.Goals as goal

pub returns-clause-parts : goal.returns-clause-parts
returns-clause-parts c =
    let bytes = c.args.bytes.now in
    let n = c.line_len-first.result in
    let k = c.tail_len.result in
    whole_part bytes n k c.line_len-first.ensures.line c.requires.begins
    (subst (λ xs. split_parts (lines_of xs) ≡ (take k xs, parts (drop k xs))) (take_rest bytes n) c.tail_len.ensures.split)
