use Rattle.std.proofs.Common.{◌≡◌, ℕ, false, subst, ap, sym, ◌∙◌, below_more, arith}
use Rattle.simplex.specs.Simplex.{subset_at}
use Rattle.simplex.proofs.Filled.{rising_of}
use Rattle.simplex.proofs.SubsetLaws.{number_of}
use Rattle.facet_set.proofs.FaceNumbers.{number_is}
use Rattle.face_lattice.specs.Slots.{cell_at}
use Rattle.face_lattice.specs.States.{is_idle}
use Rattle.face_lattice.proofs.IdleLaws.{still_not}
use Rattle.face_lattice.proofs.LastLaws.{lasting_again, lasting_itself}
use Rattle.face_lattice.proofs.passes.drop_idle.Goals as goal

pub loop-mask-init : goal.loop-mask-init
loop-mask-init c = record { lasts = lasting_itself c.args.slab.now; fewer = λ t h. h; gone = λ k l. absurd (omega (arith, l)); cells = λ fs h. h }

pub loop-mask-preserved : goal.loop-mask-preserved
loop-mask-preserved c =
    let f = c.args.outer.now in
    let m = c.loop-mask.mask in
    let v = c.loop-mask.slab in
    let w = c.drop_idle.new.self in
    let P : ℕ → Type 0 = λ k. is_idle (cell_at w (subset_at f k)) ≡ false in
    record {
      lasts = lasting_again c.args.slab.now v w c.loop-mask.invariant.lasts c.drop_idle.ensures.lasts;
      fewer = λ t h. c.loop-mask.invariant.fewer t (c.drop_idle.ensures.fewer t h);
      gone = below_more P m (λ k l. still_not v w (subset_at f k) c.drop_idle.ensures.fewer (c.loop-mask.invariant.gone k l)) (ap (λ s. is_idle (cell_at w s)) (sym c.subset.ensures.value) ∙ c.drop_idle.ensures.gone);
      cells = λ fs h. c.drop_idle.ensures.cells fs (c.loop-mask.invariant.cells fs h);
    }

pub returns-clause-fewer : goal.returns-clause-fewer
returns-clause-fewer c = c.loop-mask.invariant.fewer

pub returns-clause-gone : goal.returns-clause-gone
returns-clause-gone c =
    let f = c.args.outer.now in
    let n = number_is f c.len.result c.len.ensures.simplex c.len.ensures.value in
    λ t st w.
    let q = number_of f t (rising_of f c.len.ensures.simplex) (rising_of t st) w in
    subst (λ u. is_idle (cell_at c.loop-mask.slab u) ≡ false) q.2 (c.loop-mask.invariant.gone q.0 (omega (arith, n, q.1, c.loop-mask-test.false, c.loop-mask.auto.mask-end)))
