use Rattle.std.proofs.Common.{sym, ap, ◌∙◌, ◌+◌, ◌∷◌, take}
use Rattle.std.specs.List.{slice_split}
use Rattle.std.specs.Prelude.{◌==◌}
use Rattle.std.proofs.lemmas.List.{take_rest}
use Rattle.flip_certificate.proofs.CutLaws.{cut_some, cut_none}
use Rattle.flip_certificate.proofs.cutting.cut.Goals as goal

pub returns-in-Some-clause-parts : goal.returns-in-Some-clause-parts
returns-in-Some-clause-parts c =
    let bytes = c.args.bytes.now in
    let i = c.in-Some.i in
    cut_some (λ b. b == c.args.at) bytes i (sym c.in-Some.ensures.value)
    ∙ ap (λ rest. take i bytes ∷ slice_split (λ b. b == c.args.at) rest) (sym (take_rest bytes (i + 1)))

pub returns-in-None-clause-parts : goal.returns-in-None-clause-parts
returns-in-None-clause-parts c = cut_none (λ b. b == c.args.at) c.args.bytes.now (sym c.in-None.ensures.value)
