use Rattle.std.proofs.Common.{◌≡◌, ◌++◌, ◌^◌, length, map, ap, ◌∙◌, arith}
use Rattle.std.specs.List.{range_with_len}
use Rattle.simplex.specs.Simplex.{subset_at}
use Rattle.facet_set.proofs.FaceNumbers.{number_is}
use Rattle.morse_lists.proofs.FaceListLaws.{subset_more}
use Rattle.morse_lists.proofs.all_faces.add_subsets.Goals as goal

pub loop-mask-preserved : goal.loop-mask-preserved
loop-mask-preserved c =
    subset_more c.args.facet.now c.subset.result c.loop-mask.mask c.args.list.now.items c.loop-mask.list.items c.push.new.self.items
    c.in_ok-push.ensures.items c.subset.ensures.value c.loop-mask.invariant

pub returns : goal.returns
returns c =
    let f = c.args.facet.now in
    let whole = number_is f c.len.result c.len.ensures.simplex c.len.ensures.value in
    let end : c.loop-mask.mask ≡ 2 ^ length f = omega (arith, whole, c.loop-mask-test.false, c.loop-mask.auto.mask-end) in
    c.loop-mask.invariant ∙ ap (λ n. c.args.list.now.items ++ map (subset_at f) (range_with_len 0 n)) end
