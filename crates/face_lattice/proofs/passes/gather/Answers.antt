use Rattle.std.proofs.Common.{◌≡◌, ℕ, ◌<◌, ◌+◌, ◌^◌, ◌++◌, ◌∷◌, [], Some, IsSome, cond, is_ok, get_or, length, sym, ap, ◌∙◌, subst, below_more, arith}
use Rattle.std.proofs.lemmas.List.{get_or_append_left, get_or_push, length_push}
use Rattle.simplex.specs.Simplex.{subset_at}
use Rattle.facet_set.proofs.FaceNumbers.{number_is}
use Rattle.face_lattice.specs.Slots.{id_of, IsNoted}
use Rattle.face_lattice.proofs.FallLaws.{small_mask}
use Rattle.face_lattice.proofs.SlabLaws.{led_noted}
use Rattle.face_lattice.proofs.passes.gather.Goals as goal

pub unwrap-requires : goal.unwrap-requires
unwrap-requires c =
    let f = c.args.facet.now in
    let m = c.loop-mask.mask in
    let n = number_is f c.len-2.result c.len-2.ensures.simplex c.len-2.ensures.value in
    let small = small_mask f m c.len-2.ensures.simplex (omega (arith, n, c.loop-mask-test.true)) in
    c.push.ensures.succeeds (omega (arith, c.loop-mask.invariant.len, c.loop-mask.invariant.capacity, c.requires.fits, small, c.loop-mask.ids.ok.0))

pub loop-mask-preserved : goal.loop-mask-preserved
loop-mask-preserved c =
    let f = c.args.facet.now in
    let m = c.loop-mask.mask in
    let v = c.args.slab.now in
    let id = c.unwrap-id.result in
    let old = c.loop-mask.ids.items in
    let new = c.push.new.self.items in
    let n = number_is f c.len-2.result c.len-2.ensures.simplex c.len-2.ensures.value in
    let l : m < 2 ^ length f = omega (arith, n, c.loop-mask-test.true) in
    let pushed : new ≡ old ++ id ∷ [] = c.push.ensures.items ∙ ap (λ r. cond (is_ok r) (old ++ id ∷ []) old) c.unwrap.ensures in
    let P : ℕ → Type 0 = λ k. IsNoted v (subset_at f k) (get_or new k 0) in
    let found : id_of v (subset_at f m) ≡ Some id = sym (c.requires.found.at m l) ∙ c.unwrap-id.ensures in
    let here : P m = subst (λ i. IsNoted v (subset_at f m) i) (sym (ap (λ xs. get_or xs m 0) pushed ∙ get_or_push old id 0 m c.loop-mask.invariant.len)) (led_noted v (subset_at f m) id c.len.ensures.led found) in
    record {
      len = ap length pushed ∙ length_push old id ∙ ap (λ k. k + 1) c.loop-mask.invariant.len;
      at = below_more P m (λ k h. subst (λ i. IsNoted v (subset_at f k) i) (sym (ap (λ xs. get_or xs k 0) pushed ∙ get_or_append_left old (id ∷ []) 0 k (omega (arith, h, c.loop-mask.invariant.len)))) (c.loop-mask.invariant.at k h)) here;
      capacity = omega (arith, c.loop-mask.invariant.capacity, c.push.ensures.capacity);
    }

pub unwrap-id-requires : goal.unwrap-id-requires
unwrap-id-requires c =
    let f = c.args.facet.now in
    let m = c.loop-mask.mask in
    let n = number_is f c.len-2.result c.len-2.ensures.simplex c.len-2.ensures.value in
    let l : m < 2 ^ length f = omega (arith, n, c.loop-mask-test.true) in
    subst (λ o. IsSome o) (sym (c.requires.found.at m l)) (c.requires.there m l)
