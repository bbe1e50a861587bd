use Rattle.std.proofs.Common.{◌≡◌, ℕ, ◌<◌, ◌+◌, ◌^◌, ◌++◌, ◌∷◌, [], true, Some, cond, refl, get_or, length, sym, ap, ◌∙◌, subst, below_more, arith}
use Rattle.std.proofs.lemmas.List.{get_or_append_left, get_or_push, length_push}
use Rattle.simplex.specs.Simplex.{subset_at}
use Rattle.facet_set.proofs.FaceNumbers.{kept_next, number_is, same_from}
use Rattle.face_lattice.specs.Slots.{kept, put_blank, id_of, IsNoted}
use Rattle.face_lattice.proofs.SlabLaws.{noted_stays, led_noted, stays_again}
use Rattle.std.specs.Option.{option_map}
use Rattle.facet_set.proofs.GeneratedLaws.{is_reached}
use Rattle.face_lattice.specs.States.{is_idle, shown}
use Rattle.face_lattice.proofs.IdleLaws.{idle_outside}
use Rattle.face_lattice.proofs.KeepLaws.{note_keeps}
use Rattle.face_lattice.proofs.LastLaws.{lasting_again, lasting_itself}
use Rattle.face_lattice.proofs.passes.note.Goals as goal

pub loop-mask-preserved : goal.loop-mask-preserved
loop-mask-preserved c =
    let f = c.args.outer.now in
    let m = c.loop-mask.mask in
    let v = c.loop-mask.slab in
    let w = c.make.new.self in
    let id = c.in_ok-id.id in
    let old = c.loop-mask.ids.items in
    let new = c.push.new.self.items in
    let n = number_is f c.len.result c.len.ensures.simplex c.len.ensures.value in
    let l : m < 2 ^ length f = omega (arith, n, c.loop-mask-test.true) in
    let pushed : new ≡ old ++ id ∷ [] = c.in_ok-push.ensures.items in
    let P : ℕ → Type 0 = λ k. IsNoted w (subset_at f k) (get_or new k 0) in
    let found : id_of w (subset_at f m) ≡ Some id =
    c.in_ok-id.ensures.id (subset_at f m) ∙ ap (λ b. cond b (Some id) (id_of v (subset_at f m))) (same_from c.subset.result (subset_at f m) c.subset.ensures.value) in
    let here : P m = subst (λ i. IsNoted w (subset_at f m) i) (sym (ap (λ xs. get_or xs m 0) pushed ∙ get_or_push old id 0 m c.loop-mask.invariant.len)) (led_noted w (subset_at f m) id c.make.ensures.led found) in
    record {
      len = ap length pushed ∙ length_push old id ∙ ap (λ k. k + 1) c.loop-mask.invariant.len;
      at = below_more P m
          (λ k h. subst (λ i. IsNoted w (subset_at f k) i) (sym (ap (λ xs. get_or xs k 0) pushed ∙ get_or_append_left old (id ∷ []) 0 k (omega (arith, h, c.loop-mask.invariant.len))))
          (noted_stays v w (subset_at f k) (get_or old k 0) c.make.ensures.stays c.make.ensures.led (c.loop-mask.invariant.at k h)))
          here;
      kept = λ t. kept_next put_blank (λ s. true) f c.subset.result m (kept c.args.slab.now) (kept v) (kept w) c.len.ensures.simplex l
          c.subset.ensures.value (λ t p. c.loop-mask.invariant.kept t) (λ t p. c.in_ok-id.ensures.cells t) t refl;
      lasts = lasting_again c.args.slab.now v w c.loop-mask.invariant.lasts c.make.ensures.lasts;
      stays = stays_again c.args.slab.now v w c.loop-mask.invariant.stays c.make.ensures.stays;
      capacity = omega (arith, c.loop-mask.invariant.capacity, c.push.ensures.capacity);
    }

pub returns-clause-cells : goal.returns-clause-cells
returns-clause-cells c = λ fs h. note_keeps fs (is_reached c.args.outer.now c.loop-mask.mask) c.args.slab.now c.loop-mask.slab h c.loop-mask.invariant.kept

pub returns-in_err-id-clause-cells : goal.returns-in_err-id-clause-cells
returns-in_err-id-clause-cells c = λ fs h.
    note_keeps fs (is_reached c.args.outer.now c.loop-mask.mask) c.args.slab.now c.make.new.self h (λ t. ap (option_map shown) (c.in_err-id.ensures.err t).1 ∙ c.loop-mask.invariant.kept t)

pub returns-in_err-push-clause-cells : goal.returns-in_err-push-clause-cells
returns-in_err-push-clause-cells c =
    let f = c.args.outer.now in
    let m = c.loop-mask.mask in
    let n = number_is f c.len.result c.len.ensures.simplex c.len.ensures.value in
    let l : m < 2 ^ length f = omega (arith, n, c.loop-mask-test.true) in
    λ fs h.
    note_keeps fs (is_reached f (m + 1)) c.args.slab.now c.make.new.self h (λ t. kept_next put_blank (λ s. true) f c.subset.result m (kept c.args.slab.now) (kept c.loop-mask.slab) (kept c.make.new.self) c.len.ensures.simplex l
    c.subset.ensures.value (λ t p. c.loop-mask.invariant.kept t) (λ t p. c.in_ok-id.ensures.cells t) t refl)

pub loop-mask-init : goal.loop-mask-init
loop-mask-init c = record {
  len = ap length c.clear.ensures.items;
  at = λ k l. absurd (omega (arith, l));
  kept = λ t. refl;
  lasts = lasting_itself c.args.slab.now;
  stays = λ t h. (refl, refl);
  capacity = omega arith;
}

pub returns-in_err-id-clause-lasts : goal.returns-in_err-id-clause-lasts
returns-in_err-id-clause-lasts c = lasting_again c.args.slab.now c.loop-mask.slab c.make.new.self c.loop-mask.invariant.lasts c.make.ensures.lasts

pub returns-in_err-push-clause-lasts : goal.returns-in_err-push-clause-lasts
returns-in_err-push-clause-lasts c = lasting_again c.args.slab.now c.loop-mask.slab c.make.new.self c.loop-mask.invariant.lasts c.make.ensures.lasts

pub returns-clause-idle : goal.returns-clause-idle
returns-clause-idle c = idle_outside c.args.slab.now c.loop-mask.slab c.args.outer.now c.loop-mask.mask c.loop-mask.invariant.kept c.loop-mask.invariant.lasts.asked

pub returns-in_err-id-clause-idle : goal.returns-in_err-id-clause-idle
returns-in_err-id-clause-idle c = λ t w.
    ap is_idle (c.in_err-id.ensures.err t).1 ∙ idle_outside c.args.slab.now c.loop-mask.slab c.args.outer.now c.loop-mask.mask c.loop-mask.invariant.kept c.loop-mask.invariant.lasts.asked t w

pub returns-in_err-push-clause-idle : goal.returns-in_err-push-clause-idle
returns-in_err-push-clause-idle c =
    let f = c.args.outer.now in
    let m = c.loop-mask.mask in
    let w = c.make.new.self in
    let n = number_is f c.len.result c.len.ensures.simplex c.len.ensures.value in
    let l : m < 2 ^ length f = omega (arith, n, c.loop-mask-test.true) in
    idle_outside c.args.slab.now w f (m + 1) (λ t. kept_next put_blank (λ s. true) f c.subset.result m (kept c.args.slab.now) (kept c.loop-mask.slab) (kept w) c.len.ensures.simplex l
    c.subset.ensures.value (λ t p. c.loop-mask.invariant.kept t) (λ t p. c.in_ok-id.ensures.cells t) t refl)
    (lasting_again c.args.slab.now c.loop-mask.slab w c.loop-mask.invariant.lasts c.make.ensures.lasts).asked
