use Rattle.std.proofs.Common.{◌≡◌, List, ℕ, ap, ◌∙◌}
use Rattle.constructions.specs.Gluing.{sum_of}
use Rattle.script_shell.proofs.Refusals.{if_ok}
use Rattle.script_shell.proofs.constructing.sum.Goals as goal

pub returns-clause-complex : goal.returns-clause-complex
returns-clause-complex c =
    let x = c.args.x.now in
    let y = c.args.y.now in
    let f : c.as_slice.result.now ≡ c.args.f.now = c.as_slice.ensures ∙ c.in_ok-pair.ensures.lists.0 in
    let g : c.as_slice-2.result.now ≡ c.args.g.now = c.as_slice-2.ensures ∙ c.in_ok-pair.ensures.lists.1 in
    if_ok c.sum_along.result _ _
    (λ m h. h ∙ ap (λ (l : List ℕ). sum_of x l y c.as_slice-2.result.now) f ∙ ap (λ (l : List ℕ). sum_of x c.args.f.now y l) g) c.sum_along.ensures.complex
