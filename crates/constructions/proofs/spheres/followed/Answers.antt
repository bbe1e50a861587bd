use Rattle.std.proofs.Common.{◌≤◌, ◌∷◌, [], ◌++◌, length, refl, sym, ap, ◌∙◌, subst, arith, List, ℕ}
use Rattle.simplex.specs.Simplex.{union}
use Rattle.simplex.proofs.Filled.{short_of}
use Rattle.simplex.proofs.Decided.{false_at}
use Rattle.facet_set.proofs.SetLaws.{union_end}
use Rattle.constructions.proofs.spheres.followed.Goals as goal

pub unreachable-requires : goal.unreachable-requires
unreachable-requires c =
    let short = short_of (c.args.s.now ++ c.args.label ∷ []) c.requires in
    let same = ap length (union_end c.args.s.now c.args.label c.requires) in
    false_at _ refl (c.in-None.ensures.fits.1
    (subst (λ (l : List ℕ). length (union c.args.s.now l) ≤ 12) (sym c.point.ensures) (omega arith)))

pub returns : goal.returns
returns c = c.in-Some.ensures.value ∙ ap (union c.args.s.now) c.point.ensures ∙ union_end c.args.s.now c.args.label c.requires
