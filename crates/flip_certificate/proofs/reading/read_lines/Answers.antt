use Rattle.std.proofs.Common.{refl, sym, ◌∙◌, inr, arith}
use Rattle.flip_certificate.proofs.CutLaws.{one_more}
use Rattle.flip_certificate.proofs.ReaderLaws.{begun, goes_on, stops}
use Rattle.flip_certificate.proofs.reading.read_lines.Goals as goal

pub lines-init : goal.lines-init
lines-init c = record { same = begun c.args.bytes.now; counted = omega arith }

pub returns-in-None-clause-faults : goal.returns-in-None-clause-faults
returns-in-None-clause-faults c =
    let at = c.lines in
    let h = one_more 10 at.rest.now c.cut.result.0.now c.cut.result.1 c.in-Some.behind c.cut.ensures.parts c.in-Some.is in
    inr (at.number, refl, stops at.number at.draft at.rest.now c.cut.result.0.now c.args.bytes.now at.invariant.same c.in-Some.behind.now h (sym c.in-None.is ∙ c.in_ok-draft.ensures))

pub lines-preserved : goal.lines-preserved
lines-preserved c =
    let at = c.lines in
    let h = one_more 10 at.rest.now c.cut.result.0.now c.cut.result.1 c.in-Some.behind c.cut.ensures.parts c.in-Some.is in
    let shorter = rw c.in-Some.is at c.cut.ensures.shorter in
    record {
      same = goes_on at.number at.draft at.rest.now c.cut.result.0.now c.args.bytes.now at.invariant.same c.in-Some.behind.now c.in-Some-2.draft h (sym c.in-Some-2.is ∙ c.in_ok-draft.ensures);
      counted = omega (arith, shorter);
    }
