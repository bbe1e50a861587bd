use Rattle.std.proofs.Common.{◌≡◌, suc, ◌<◌, ◌-◌, ◌^◌, Some, IsSomeAnd, cond, refl, length, sym, ap, ◌∙◌, subst, arith}
use Rattle.simplex.specs.Simplex.{subset_at}
use Rattle.facet_set.proofs.FaceNumbers.{number_is}
use Rattle.face_lattice.specs.Cells.{same}
use Rattle.face_lattice.specs.States.{CellState, put_less}
use Rattle.face_lattice.specs.Slots.{cell_at, face_of, after_less, beside}
use Rattle.face_lattice.proofs.SlabLaws.{read_noted, keeps_again}
use Rattle.face_lattice.proofs.FallLaws.{kept_from, fall_start, fall_here, fall_next, after_at, beside_same, small_mask}
use Rattle.face_lattice.proofs.passes.remove_facet.Goals as goal

pub loop-mask-init : goal.loop-mask-init
loop-mask-init g c =
    let f = c.args.facet.now in
    let old = cell_at c.args.slab.now in
    let n = number_is f c.len.result c.len.ensures.simplex c.len.ensures.value in
    record {
      below = omega (arith, n);
      cells = λ t. fall_start old (after_less f old) f _ t c.len.ensures.simplex n (λ q. ap (λ b. cond b (Some (put_less (beside 1 f old t) (old t))) (old t)) q);
      ids = record { ids = refl; faces = λ i. refl };
      steps = omega (arith, n);
    }

pub remove_facet-requires-clause-present : goal.remove_facet-requires-clause-present
remove_facet-requires-clause-present g c =
    let f = c.args.facet.now in
    let v = c.loop-mask.slab in
    let old = cell_at c.args.slab.now in
    let m = c.loop-mask.mask - 1 in
    let e : c.loop-mask.mask ≡ suc m = omega (arith, c.loop-mask-test.true) in
    let l : m < 2 ^ length f = omega (arith, c.loop-mask.invariant.below, c.loop-mask-test.true) in
    let noted = read_noted c.args.slab.now v (subset_at f m) _ c.id_at.result c.loop-mask.invariant.ids (c.requires.noted.at m l) c.id_at.ensures in
    let here : cell_at v (subset_at f m) ≡ old (subset_at f m) = c.loop-mask.invariant.cells (subset_at f m) ∙ ap (λ n. kept_from old (after_less f old) f n (subset_at f m)) e ∙ fall_here old (after_less f old) f m c.len.ensures.simplex in
    subst (λ s. IsSomeAnd (cell_at v s) (λ (x : CellState). 0 < x.degree)) (sym noted.face) (subst (λ o. IsSomeAnd o (λ (x : CellState). 0 < x.degree)) (sym here) (c.requires.present m l))

pub loop-mask-preserved : goal.loop-mask-preserved
loop-mask-preserved g c =
    let f = c.args.facet.now in
    let v = c.loop-mask.slab in
    let old = cell_at c.args.slab.now in
    let last = after_less f old in
    let m = c.loop-mask.mask - 1 in
    let id = c.id_at.result in
    let s = subset_at f m in
    let simplex = c.len.ensures.simplex in
    let e : c.loop-mask.mask ≡ suc m = omega (arith, c.loop-mask-test.true) in
    let l : m < 2 ^ length f = omega (arith, c.loop-mask.invariant.below, c.loop-mask-test.true) in
    let noted = read_noted c.args.slab.now v s _ id c.loop-mask.invariant.ids (c.requires.noted.at m l) c.id_at.ensures in
    let here : cell_at v s ≡ old s = c.loop-mask.invariant.cells s ∙ ap (λ n. kept_from old last f n s) e ∙ fall_here old last f m simplex in
    let lost : c.lost_labels-lost.result ≡ beside 1 f old s = c.lost_labels-lost.ensures ∙ beside_same f old (cell_at v) m simplex l (λ t. c.loop-mask.invariant.cells t ∙ ap (λ n. kept_from old last f n t) e) c.requires.present in
    let put : Some (put_less c.lost_labels-lost.result (cell_at v (face_of v id))) ≡ last (face_of v id) =
    ap (λ t. Some (put_less c.lost_labels-lost.result (cell_at v t))) noted.face ∙ (λ i. Some (put_less (lost i) (here i))) ∙ sym (after_at f old m simplex) ∙ ap last (sym noted.face) in
    record {
      below = omega (arith, c.loop-mask.invariant.below);
      cells = λ t. fall_next old last f (face_of v id) t m (cell_at v t) (cell_at c.remove_facet.new.self t) simplex l noted.face (c.loop-mask.invariant.cells t ∙ ap (λ n. kept_from old last f n t) e)
          (c.remove_facet.ensures.cells t ∙ ap (λ o. cond (same (face_of v id) t) o (cell_at v t)) put);
      ids = keeps_again c.args.slab.now v c.remove_facet.new.self c.loop-mask.invariant.ids c.remove_facet.ensures.ids;
      steps = omega (arith, c.tick.ensures, c.loop-mask.invariant.steps, c.loop-mask-test.true);
    }

pub id_at-requires-clause-small : goal.id_at-requires-clause-small
id_at-requires-clause-small g c =
    let small = small_mask c.args.facet.now (c.loop-mask.mask - 1) c.len.ensures.simplex (omega (arith, c.loop-mask.invariant.below, c.loop-mask-test.true)) in
    omega (arith, small)
