use Rattle.std.proofs.Common.{◌≡◌, ◌+◌, min, ap, ◌∙◌, arith}
use Rattle.facet_set.specs.Numbers.{faces_of_size}
use Rattle.script_shell.proofs.FaceCounts.{faces_limited}
use Rattle.script_shell.proofs.counting.size_of.Goals as goal

pub returns : goal.returns
returns c =
    let least : c.min.result ≡ min c.args.k 12 = omega arith in
    ap (λ n. faces_of_size c.args.complex.now (n + 1)) least ∙ faces_limited c.args.complex.now c.args.k c.as_slice.ensures.simplices
