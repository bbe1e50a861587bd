use Rattle.std.proofs.Common.{◌≡◌, ◌+◌, ◌<◌, true, Some, None, rules, length, take, replicate, pos, sym, ap, ◌∙◌, arith}
use Rattle.std.proofs.lemmas.Int.{ints}
use Rattle.std.proofs.lemmas.List.{length-take-le}
use Rattle.facet_set.specs.Facets.{IsFacets}
use Rattle.facet_set.specs.Numbers.{size, is_pure}
use Rattle.face_vectors.specs.Row.{entries}
use Rattle.shellings.specs.Shellings.{restriction}
use Rattle.shellings.proofs.CheckLaws.{placed, none_checked, next_checked, short_restriction, entry, facet_missing, none_missing, row_counts, row_h, pure_fault}
use Rattle.shellings.proofs.RowLaws.{row_empty}
use Rattle.shellings.proofs.checking.check_shelling.Goals as goal

pub loop-i-init : goal.loop-i-init
loop-i-init c =
    let facets : IsFacets c.args.c.now = record { simplices = c.as_slice-facets.ensures.simplices; complex = c.as_slice-facets.ensures.complex } in
    let pure : is_pure c.args.c.now ≡ true = search rules in
    let row = c.zeros-counts.ensures.value ∙ ap (λ n. replicate (n + 1) (pos 0)) c.size.ensures.value ∙ row_empty (size c.args.c.now + 1) in
    record {
      checked = none_checked c.args.c.now c.args.order.now (entries c.zeros-counts.result) facets pure row;
      len = c.zeros-counts.ensures.len ∙ ap (λ n. n + 1) c.size.ensures.value;
    }

pub raise-requires-clause-place : goal.raise-requires-clause-place
raise-requires-clause-place c =
    let g = placed c.args.c.now (take c.loop-i.i c.args.order.now) c.index-order-i.result c.in-Some.restriction c.good_restriction.result c.good_restriction.ensures c.in-Some.is in
    let same = ap length g.1 in
    let short = short_restriction c.args.c.now c.args.order.now c.loop-i.i c.index-order-i.result (entries c.loop-i.counts) (omega arith) c.index-order-i.is c.loop-i.invariant.checked g.0 in
    omega (arith, same, short)

pub raise-requires-clause-sign : goal.raise-requires-clause-sign
raise-requires-clause-sign c =
    let g = placed c.args.c.now (take c.loop-i.i c.args.order.now) c.index-order-i.result c.in-Some.restriction c.good_restriction.result c.good_restriction.ensures c.in-Some.is in
    let same = ap length g.1 in
    let short = short_restriction c.args.c.now c.args.order.now c.loop-i.i c.index-order-i.result (entries c.loop-i.counts) (omega arith) c.index-order-i.is c.loop-i.invariant.checked g.0 in
    let n = entry c.args.c.now c.args.order.now c.loop-i.i c.index-order-i.result (entries c.loop-i.counts) (omega arith) c.index-order-i.is c.loop-i.invariant.checked c.len.result (omega (arith, same, short)) in
    let is = n.0 in
    omega (arith, ints, is)

pub raise-requires-clause-room : goal.raise-requires-clause-room
raise-requires-clause-room c =
    let g = placed c.args.c.now (take c.loop-i.i c.args.order.now) c.index-order-i.result c.in-Some.restriction c.good_restriction.result c.good_restriction.ensures c.in-Some.is in
    let same = ap length g.1 in
    let short = short_restriction c.args.c.now c.args.order.now c.loop-i.i c.index-order-i.result (entries c.loop-i.counts) (omega arith) c.index-order-i.is c.loop-i.invariant.checked g.0 in
    let n = entry c.args.c.now c.args.order.now c.loop-i.i c.index-order-i.result (entries c.loop-i.counts) (omega arith) c.index-order-i.is c.loop-i.invariant.checked c.len.result (omega (arith, same, short)) in
    let is = n.0 in
    let most = n.1 in
    let few : length (take c.loop-i.i c.args.order.now) < 9223372036854775807 = let t = length-take-le c.loop-i.i c.args.order.now (omega arith) in omega (arith, t) in
    omega (arith, ints, is, most, few)

pub loop-i-preserved : goal.loop-i-preserved
loop-i-preserved c =
    let earlier = take c.loop-i.i c.args.order.now in
    let f = c.index-order-i.result in
    let g = placed c.args.c.now earlier f c.in-Some.restriction c.good_restriction.result c.good_restriction.ensures c.in-Some.is in
    let here : c.len.result ≡ length (restriction earlier f) = c.len.ensures.value ∙ ap length g.1 in
    let short = short_restriction c.args.c.now c.args.order.now c.loop-i.i f (entries c.loop-i.counts) (omega arith) c.index-order-i.is c.loop-i.invariant.checked g.0 in
    record {
      checked = next_checked c.args.c.now c.args.order.now c.loop-i.i f (entries c.loop-i.counts) (omega arith) c.index-order-i.is c.loop-i.invariant.checked (entries c.raise.new.row) g.0 (rw (← here) c.raise.ensures.value) short;
      len = c.raise.ensures.len ∙ c.loop-i.invariant.len;
    }

pub returns-then-order-facets-clause-faults : goal.returns-then-order-facets-clause-faults
returns-then-order-facets-clause-faults c =
    let pure : is_pure c.args.c.now ≡ true = search rules in
    pure_fault c.args.c.now c.args.order.now (Some (length c.args.order.now + 1)) pure
    (facet_missing c.args.c.now c.args.order.now c.loop-i.i (entries c.loop-i.counts) (omega arith) c.loop-i.invariant.checked (λ e. c.if-order-facets.true (e ∙ sym (ap length c.as_slice-facets.ensures.value))))

pub returns-clause-passed : goal.returns-clause-passed
returns-clause-passed c =
    let pure : is_pure c.args.c.now ≡ true = search rules in
    pure_fault c.args.c.now c.args.order.now None pure (none_missing c.args.c.now c.args.order.now c.loop-i.i (entries c.loop-i.counts) (omega arith) c.loop-i.invariant.checked (c.if-order-facets.false ∙ ap length c.as_slice-facets.ensures.value))

pub returns-clause-counts : goal.returns-clause-counts
returns-clause-counts c = row_counts c.args.c.now c.args.order.now c.loop-i.i (entries c.loop-i.counts) (omega arith) c.loop-i.invariant.checked

pub returns-clause-h_vector : goal.returns-clause-h_vector
returns-clause-h_vector c = row_h c.args.c.now c.args.order.now c.loop-i.i (entries c.loop-i.counts) (omega arith) c.loop-i.invariant.checked (c.if-order-facets.false ∙ ap length c.as_slice-facets.ensures.value)
