use Rattle.std.proofs.Common.{◌≡◌, ◌<◌, ◌≤◌, ◌+◌, ◌^◌, ◌&&◌, length, get_or, refl, sym, ap, ◌∙◌, subst, arith}
use Rattle.std.specs.Prelude.{◌==◌}
use Rattle.simplex.specs.Simplex.{subset_at}
use Rattle.simplex.proofs.Filled.{short_of, simplex-subset_at}
use Rattle.face_lattice.specs.Counts.{blank_count}
use Rattle.face_lattice.specs.Slots.{cell_at, IsNoted}
use Rattle.face_lattice.specs.States.{has_degree}
use Rattle.face_lattice.proofs.CountLaws.{raised, unchanged, passing_most}
use Rattle.facet_set.proofs.FaceNumbers.{number_is}
use Rattle.face_lattice.proofs.FallLaws.{small_mask}
use Rattle.face_lattice.proofs.passes.raise.Goals as goal
use Rattle.face_lattice.proofs.passes.raise.Goals.{then-is_blank, else-is_blank}

pub id_at-id-requires-clause-small : goal.id_at-id-requires-clause-small
id_at-id-requires-clause-small c =
    let f = c.args.facet.now in
    let n = number_is f c.len.result c.len.ensures.simplex c.len.ensures.value in
    let small = small_mask f c.loop-mask.mask c.len.ensures.simplex (omega (arith, n, c.loop-mask-test.true)) in
    omega (arith, small)

pub loop-mask-preserved : goal.loop-mask-preserved
loop-mask-preserved c =
    let f = c.args.facet.now in
    let m = c.loop-mask.mask in
    let v = c.args.slab.now in
    let n = number_is f c.len.result c.len.ensures.simplex c.len.ensures.value in
    let l : m < 2 ^ length f = omega (arith, n, c.loop-mask-test.true) in
    let noted : IsNoted v (subset_at f m) c.id_at-id.result = subst (IsNoted v (subset_at f m)) (sym c.id_at-id.ensures) (c.requires.noted.at m l) in
    let blank : c.is_blank.result ≡ has_degree 0 (cell_at v (subset_at f m)) = c.is_blank.ensures ∙ ap (λ t. has_degree 0 (cell_at v t)) noted.face in
    elim c.if-is_blank.branch [
      | then-is_blank w ↦
          let i = w.len-then-is_blank.result in
          let size : i ≡ length (subset_at f m) = w.len-then-is_blank.ensures.value ∙ ap length (w.face.ensures ∙ noted.face) in
          let within : i < length c.loop-mask.counts = omega (arith, size, short_of (subset_at f m) (simplex-subset_at f m c.len.ensures.simplex), c.loop-mask.invariant.sizes) in
          record { value = λ k. ap (λ xs. get_or xs k 0) w.counts-is ∙ raised f (cell_at v) c.loop-mask.counts c.args.counts.now k m i (get_or c.loop-mask.counts i 0 + 1) size within (sym blank ∙ w.if-is_blank.true) refl c.loop-mask.invariant.value; sizes = omega (arith, c.if-is_blank.auto.counts, c.loop-mask.invariant.sizes) }
      | else-is_blank w ↦ record { value = λ k. ap (λ xs. get_or xs k 0) w.counts-is ∙ c.loop-mask.invariant.value k ∙ ap (λ x. get_or c.args.counts.now k 0 + x) (sym (unchanged f (cell_at v) c.loop-mask.counts c.args.counts.now k m 0 0 (sym blank ∙ w.if-is_blank.false))); sizes = omega (arith, c.if-is_blank.auto.counts, c.loop-mask.invariant.sizes) }
    ]

pub overflow_add-counts : goal.overflow_add-counts
overflow_add-counts c =
    let f = c.args.facet.now in
    let m = c.loop-mask.mask in
    let i = c.len-then-is_blank.result in
    let n = number_is f c.len.result c.len.ensures.simplex c.len.ensures.value in
    let small = small_mask f m c.len.ensures.simplex (omega (arith, n, c.loop-mask-test.true)) in
    let now = c.loop-mask.invariant.value i in
    let few = c.requires.few i in
    let most : blank_count f (cell_at c.args.slab.now) i m ≤ m = passing_most (λ k. length (subset_at f k) == i && has_degree 0 (cell_at c.args.slab.now (subset_at f k))) m in
    omega (arith, now, few, small, most)
