use Rattle.std.proofs.Common.{true, refl, ◌<◌, ◌-◌, ◌^◌, IfSome, length, sym, subst, arith}
use Rattle.simplex.specs.Simplex.{subset_at}
use Rattle.facet_set.proofs.FaceNumbers.{kept_here, kept_next, kept_all, number_is}
use Rattle.face_lattice.specs.States.{CellState, HasRoom, put_more}
use Rattle.face_lattice.specs.Slots.{cell_at, face_of}
use Rattle.face_lattice.proofs.SlabLaws.{read_noted, keeps_again}
use Rattle.face_lattice.proofs.FallLaws.{small_mask}
use Rattle.face_lattice.proofs.passes.insert_facet.Goals as goal

pub add_facet-requires-clause-few : goal.add_facet-requires-clause-few
add_facet-requires-clause-few g c =
    let f = c.args.facet.now in
    let m = c.loop-mask.mask in
    let v = c.loop-mask.slab in
    let n = number_is f c.len.result c.len.ensures.simplex c.len.ensures.value in
    let l : m < 2 ^ length f = omega (arith, n, c.loop-mask-test.true) in
    let noted = read_noted c.args.slab.now v (subset_at f m) _ c.id_at.result c.loop-mask.invariant.ids (c.requires.noted.at m l) c.id_at.ensures in
    let here = kept_here put_more (λ s. true) f m (cell_at c.args.slab.now) (cell_at v) c.len.ensures.simplex l refl (λ t p. c.loop-mask.invariant.cells t) in
    subst (λ s. IfSome (cell_at v s) (λ (x : CellState). x.degree < 2 ^ 64 - 1)) (sym noted.face) (subst (λ o. IfSome o (λ (x : CellState). x.degree < 2 ^ 64 - 1)) (sym here) (c.requires.few (subset_at f m)))

pub add_facet-requires-clause-room : goal.add_facet-requires-clause-room
add_facet-requires-clause-room g c =
    let f = c.args.facet.now in
    let m = c.loop-mask.mask in
    let v = c.loop-mask.slab in
    let n = number_is f c.len.result c.len.ensures.simplex c.len.ensures.value in
    let l : m < 2 ^ length f = omega (arith, n, c.loop-mask-test.true) in
    let noted = read_noted c.args.slab.now v (subset_at f m) _ c.id_at.result c.loop-mask.invariant.ids (c.requires.noted.at m l) c.id_at.ensures in
    let here = kept_here put_more (λ s. true) f m (cell_at c.args.slab.now) (cell_at v) c.len.ensures.simplex l refl (λ t p. c.loop-mask.invariant.cells t) in
    subst (λ s. IfSome (cell_at v s) (HasRoom f s)) (sym noted.face) (subst (λ o. IfSome o (HasRoom f (subset_at f m))) (sym here) (c.requires.ready m l))

pub loop-mask-preserved : goal.loop-mask-preserved
loop-mask-preserved g c =
    let f = c.args.facet.now in
    let m = c.loop-mask.mask in
    let v = c.loop-mask.slab in
    let id = c.id_at.result in
    let n = number_is f c.len.result c.len.ensures.simplex c.len.ensures.value in
    let l : m < 2 ^ length f = omega (arith, n, c.loop-mask-test.true) in
    let noted = read_noted c.args.slab.now v (subset_at f m) _ id c.loop-mask.invariant.ids (c.requires.noted.at m l) c.id_at.ensures in
    record {
      cells = λ t. kept_next put_more (λ s. true) f (face_of v id) m (cell_at c.args.slab.now) (cell_at v) (cell_at c.add_facet.new.self) c.len.ensures.simplex l
          noted.face (λ t p. c.loop-mask.invariant.cells t) (λ t p. c.add_facet.ensures.cells t) t refl;
      ids = keeps_again c.args.slab.now v c.add_facet.new.self c.loop-mask.invariant.ids c.add_facet.ensures.ids;
      steps = omega (arith, c.tick.ensures, c.loop-mask.invariant.steps);
    }

pub returns-clause-cells : goal.returns-clause-cells
returns-clause-cells g c =
    let f = c.args.facet.now in
    let n = number_is f c.len.result c.len.ensures.simplex c.len.ensures.value in
    λ t. kept_all put_more (λ s. true) f c.loop-mask.mask (cell_at c.args.slab.now) (cell_at c.loop-mask.slab) c.len.ensures.simplex (omega (arith, n, c.loop-mask-test.false, c.loop-mask.auto.mask-end)) (λ t p. c.loop-mask.invariant.cells t) t refl

pub id_at-requires-clause-small : goal.id_at-requires-clause-small
id_at-requires-clause-small g c =
    let f = c.args.facet.now in
    let n = number_is f c.len.result c.len.ensures.simplex c.len.ensures.value in
    let small = small_mask f c.loop-mask.mask c.len.ensures.simplex (omega (arith, n, c.loop-mask-test.true)) in
    omega (arith, small)
