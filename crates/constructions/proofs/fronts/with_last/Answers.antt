use Rattle.std.proofs.Common.{◌≡◌, ◌≤◌, ◌∙◌, ◌++◌, ◌∷◌, [], sym, ap, length, arith}
use mathlib.Core.Bool.{true≢false}
use Rattle.simplex.specs.Simplex.{union}
use Rattle.simplex.proofs.Filled.{short_of}
use Rattle.constructions.proofs.FrontLaws.{union_last}
use Rattle.constructions.proofs.fronts.with_last.Goals as goal

pub unreachable-requires : goal.unreachable-requires
unreachable-requires c =
    let e : union c.args.s.now c.point.result ≡ c.args.s.now ++ c.args.label ∷ [] = ap (union c.args.s.now) c.point.ensures ∙ union_last c.args.s.now c.args.label c.requires in
    let short : length (c.args.s.now ++ c.args.label ∷ []) ≤ 12 = short_of (c.args.s.now ++ c.args.label ∷ []) c.requires in
    let fits : length (union c.args.s.now c.point.result) ≤ 12 = omega (arith, ap length e, short) in
    absurd (true≢false (sym (c.in-None.ensures.fits.1 fits)))

pub returns : goal.returns
returns c = c.in-Some.ensures.value ∙ ap (union c.args.s.now) c.point.ensures ∙ union_last c.args.s.now c.args.label c.requires
