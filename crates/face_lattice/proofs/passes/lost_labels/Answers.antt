use Rattle.std.proofs.Common.{◌≡◌, ℕ, ◌<◌, ◌+◌, ◌*◌, ◌^◌, ◌&&◌, not, Bool, true, false, ◌++◌, ◌∷◌, [], refl, get_or, length, sym, ap, ◌∙◌, arith}
use Rattle.std.specs.List.{filter}
use Rattle.std.specs.Ordering.{nat_cmp}
use Rattle.std.proofs.lemmas.List.{take_all, append-nil}
use Rattle.simplex.specs.InOrder.{put}
use Rattle.simplex.specs.Simplex.{has, subset_at}
use Rattle.face_lattice.specs.States.{has_degree}
use Rattle.face_lattice.specs.Slots.{cell_at}
use Rattle.face_lattice.proofs.MaskLaws.{last_bit, next_bit, no_bits}
use Rattle.face_lattice.proofs.FallLaws.{filter_step, larger_noted, small_number}
use Rattle.face_lattice.proofs.passes.lost_labels.Goals.{then-is_lost, else-is_lost}
use Rattle.face_lattice.proofs.passes.lost_labels.Goals as goal

pub loop-label-init : goal.loop-label-init
loop-label-init c = record { bit = refl; below = omega arith; labels = no_bits c.args.facet.now }

pub is_lost-requires-clause-below : goal.is_lost-requires-clause-below
is_lost-requires-clause-below c = λ h.
    (larger_noted c.args.slab.now c.args.facet.now c.args.ids.now c.subset-s.result c.labels-label-items.result.now c.args.gap c.args.mask c.loop-label.bit c.loop-label.label-index c.requires.noted c.labels-label-items.ensures.simplex
    c.labels-label-items.ensures.value c.subset-s.ensures.value c.loop-label.invariant.bit c.loop-label-test.true c.requires.mask h).below

pub is_lost-requires-clause-noted : goal.is_lost-requires-clause-noted
is_lost-requires-clause-noted c = λ h.
    (larger_noted c.args.slab.now c.args.facet.now c.args.ids.now c.subset-s.result c.labels-label-items.result.now c.args.gap c.args.mask c.loop-label.bit c.loop-label.label-index c.requires.noted c.labels-label-items.ensures.simplex
    c.labels-label-items.ensures.value c.subset-s.ensures.value c.loop-label.invariant.bit c.loop-label-test.true c.requires.mask h).noted

pub loop-label-preserved : goal.loop-label-preserved
loop-label-preserved c =
    let f = c.args.facet.now in
    let v = c.args.slab.now in
    let j = c.loop-label.label-index in
    let s = subset_at f c.args.mask in
    let h = c.loop-label.invariant in
    let items : c.labels-label-items.result.now ≡ f = c.labels-label-items.ensures.value in
    let l : j < length f = omega (arith, c.loop-label-test.true, ap length items) in
    let p : ℕ → Bool = λ x. not (has s x) && has_degree 0 (cell_at v (put nat_cmp x s)) in
    let says : c.is_lost.result ≡ p (get_or f j 0) =
    c.is_lost.ensures ∙ ap (λ r. not (has r (get_or c.labels-label-items.result.now j 0)) && has_degree 0 (cell_at v (put nat_cmp (get_or c.labels-label-items.result.now j 0) r))) c.subset-s.ensures.value ∙ ap (λ xs. p (get_or xs j 0)) items in
    let bit : c.loop-label.bit * 2 ≡ 2 ^ (j + 1) = next_bit c.loop-label.bit j h.bit in
    elim c.if-is_lost.branch [
      | then-is_lost w ↦ record {
        bit = bit;
        below = omega (arith, h.below, w.lost-is);
        labels = ap (subset_at f) (w.lost-is ∙ ap (λ b. c.loop-label.lost + b) h.bit) ∙ last_bit f c.loop-label.lost j l (omega (arith, h.below, h.bit)) ∙ ap (λ xs. xs ++ get_or f j 0 ∷ []) h.labels ∙ sym (filter_step p f j 0 true l (sym says ∙ w.if-is_lost.true));
      }
      | else-is_lost w ↦ record {
        bit = bit;
        below = omega (arith, h.below, w.lost-is);
        labels = ap (subset_at f) w.lost-is ∙ h.labels ∙ sym (append-nil _) ∙ sym (filter_step p f j 0 false l (sym says ∙ w.if-is_lost.false));
      }
    ]

pub returns : goal.returns
returns c =
    let f = c.args.facet.now in
    let s = subset_at f c.args.mask in
    let v = c.args.slab.now in
    c.subset.ensures.value ∙ c.loop-label.invariant.labels
    ∙ ap (filter (λ x. not (has s x) && has_degree 0 (cell_at v (put nat_cmp x s)))) (take_all c.loop-label.label-index f (omega (arith, c.loop-label-test.false, ap length c.labels-label-items.ensures.value)))

pub is_lost-requires-clause-small : goal.is_lost-requires-clause-small
is_lost-requires-clause-small c =
    let f = c.args.facet.now in
    small_number f c.args.mask c.loop-label.bit c.loop-label.label-index c.labels-label-items.ensures.simplex (omega (arith, c.loop-label-test.true, ap length c.labels-label-items.ensures.value)) c.requires.mask c.loop-label.invariant.bit
