use Rattle.std.proofs.Common.{◌≡◌, ◌<◌, get_or, length, sym, ap, ◌∙◌, subst}
use Rattle.face_lattice.specs.Lattice.{all_but}
use Rattle.face_lattice.proofs.ForgetLaws.{taken_out}
use Rattle.face_lattice.proofs.lattice.forget.Goals as goal

pub loop-k-preserved : goal.loop-k-preserved
loop-k-preserved c =
    let f = c.args.f.now in
    let xs = c.loop-k.list.items in
    let k = c.in-Some.k in
    let within : k < length xs = subst (λ ys. k < length ys) c.deref.ensures.value c.in-Some.ensures.within in
    let here : get_or xs k f ≡ f = ap (λ ys. get_or ys k f) (sym c.deref.ensures.value) ∙ c.in-Some.ensures.here in
    ap (all_but f) c.remove.ensures.items ∙ taken_out f xs k within here ∙ c.loop-k.invariant

pub returns : goal.returns
returns c =
    let f = c.args.f.now in
    sym (ap (all_but f) (sym c.deref.ensures.value) ∙ c.in_default.ensures.none ∙ c.deref.ensures.value) ∙ c.loop-k.invariant
