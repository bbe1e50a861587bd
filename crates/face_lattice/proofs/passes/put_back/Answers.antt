use Rattle.std.proofs.Common.{◌≡◌, ◌<◌, ◌^◌, ◌&&◌, false, None, cond, get_or, length, sym, ap, ◌∙◌, subst, arith}
use Rattle.simplex.specs.Simplex.{subset_at}
use Rattle.facet_set.proofs.FaceNumbers.{number_is}
use Rattle.face_lattice.specs.Cells.{same}
use Rattle.face_lattice.specs.States.{is_idle}
use Rattle.face_lattice.specs.Slots.{cell_at, face_of, id_of, unless_idle}
use Rattle.face_lattice.proofs.FallLaws.{rise_here, rise_next, rise_end, other_subset}
use Rattle.face_lattice.proofs.LastLaws.{lasting_again, lasting_back}
use Rattle.face_lattice.proofs.SlabLaws.{led_noted}
use Rattle.face_lattice.proofs.passes.put_back.Goals as goal

pub loop-mask-preserved : goal.loop-mask-preserved
loop-mask-preserved c =
    let f = c.args.outer.now in
    let m = c.loop-mask.mask in
    let v = c.loop-mask.slab in
    let w = c.put_back_idle.new.self in
    let old = cell_at c.args.slab.now in
    let id = get_or c.args.ids.now m 0 in
    let n = number_is f c.len.result c.len.ensures.simplex c.len.ensures.value in
    let l : m < 2 ^ length f = omega (arith, n, c.loop-mask-test.true) in
    let noted = c.loop-mask.invariant.noted m (omega arith) l in
    let here : cell_at v (face_of v id) ≡ old (face_of v id) =
    ap (cell_at v) noted.face ∙ c.loop-mask.invariant.cells (subset_at f m) ∙ rise_here old (λ s. unless_idle (old s)) f m c.len.ensures.simplex l ∙ ap old (sym noted.face) in
    record {
      lasts = lasting_again c.args.slab.now v w c.loop-mask.invariant.lasts (lasting_back v w (face_of v id) c.put_back_idle.ensures.ids c.put_back_idle.ensures.cells);
      cells = λ t. rise_next old (λ s. unless_idle (old s)) f (face_of v id) t m (cell_at v t) (cell_at w t) noted.face (c.loop-mask.invariant.cells t)
          (c.put_back_idle.ensures.cells t ∙ ap (λ o. cond (same (face_of v id) t) (unless_idle o) (cell_at v t)) here);
      noted = λ k h b.
          let was = c.loop-mask.invariant.noted k (omega (arith, h)) b in
          let other : same (face_of v id) (subset_at f k) ≡ false = subst (λ s. same s (subset_at f k) ≡ false) (sym noted.face) (other_subset f m k c.len.ensures.simplex l b (omega (arith, h))) in
          led_noted w (subset_at f k) (get_or c.args.ids.now k 0) c.put_back_idle.ensures.led
          (c.put_back_idle.ensures.ids (subset_at f k) ∙ ap (λ x. cond (x && is_idle (cell_at v (face_of v id))) None (id_of v (subset_at f k))) other ∙ was.id);
    }

pub returns-clause-cells : goal.returns-clause-cells
returns-clause-cells c =
    let f = c.args.outer.now in
    let old = cell_at c.args.slab.now in
    let n = number_is f c.len.result c.len.ensures.simplex c.len.ensures.value in
    λ t. c.loop-mask.invariant.cells t ∙ rise_end old (λ s. unless_idle (old s)) f c.loop-mask.mask t c.len.ensures.simplex (omega (arith, n, c.loop-mask-test.false, c.loop-mask.auto.mask-end))
