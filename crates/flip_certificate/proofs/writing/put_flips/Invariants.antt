use Rattle.std.proofs.Common.{◌≡◌, ◌++◌, map, take}
use Rattle.std.specs.Prelude.{IsTrue}
use Rattle.std.specs.List.{list_all}
use Rattle.flip_certificate.specs.Lines.{is_flip, text_of}
use Rattle.flip_certificate.specs.declared.line.Line.TheVariants.{Move}
use Rattle.flip_certificate.proofs.writing.put_flips.Given as goal

abbrev pub invariant-loop-flip : goal.invariant-loop-flip
invariant-loop-flip l = (l.out ≡ l.initial.out ++ text_of (map Move (take l.flip-index l.flips))) × IsTrue (list_all is_flip (take l.flip-index l.flips))
