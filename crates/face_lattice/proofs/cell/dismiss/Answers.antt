use Rattle.std.proofs.Common.{◌≡◌, ◌<◌, get_or, length, sym, ap, ◌∙◌, subst}
use Rattle.simplex.specs.Simplex.{without}
use Rattle.face_lattice.proofs.ForgetLaws.{label_out}
use Rattle.face_lattice.proofs.cell.dismiss.Goals as goal

pub loop-k-preserved : goal.loop-k-preserved
loop-k-preserved c =
    let a = c.args.asker in
    let xs = c.loop-k.askers.items in
    let k = c.in-Some.k in
    let within : k < length xs = subst (λ ys. k < length ys) c.as_slice.ensures c.in-Some.ensures.within in
    let here : get_or xs k a ≡ a = ap (λ ys. get_or ys k a) (sym c.as_slice.ensures) ∙ c.in-Some.ensures.here in
    ap (λ ys. without ys a) c.remove.ensures.items ∙ label_out a xs k within here ∙ c.loop-k.invariant

pub returns : goal.returns
returns c =
    let a = c.args.asker in
    sym (ap (λ ys. without ys a) (sym c.as_slice.ensures) ∙ c.in_default.ensures.none ∙ c.as_slice.ensures) ∙ c.loop-k.invariant
