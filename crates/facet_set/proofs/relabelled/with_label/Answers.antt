use Rattle.std.proofs.Common.{◌≤◌, length, refl, sym, subst, arith, List, ℕ}
use Rattle.simplex.specs.Simplex.{union}
use Rattle.simplex.proofs.Decided.{false_at}
use Rattle.facet_set.proofs.SetLaws.{length_more}
use Rattle.facet_set.proofs.relabelled.with_label.Goals as goal

pub unreachable-requires : goal.unreachable-requires
unreachable-requires c =
    false_at _ refl (c.in-None.ensures.fits.1
    (subst (λ (l : List ℕ). length (union c.args.s.now l) ≤ 12) (sym c.point.ensures) (omega (arith, length_more c.args.s.now c.args.label))))
