use Rattle.std.proofs.Common.{◌/◌, ◌%◌, ◌^◌, ◌<◌, rules, arith}
use Rattle.std.proofs.Math.Nat.{div-le_self}
use Rattle.std.specs.Int.{w64}
use Rattle.std.proofs.lemmas.Nat.Bits.{bit_at-trailing_zeros}
use Rattle.shellings.proofs.PlaceLaws.{none_before, none_left, one_next, word_empty}
use Rattle.shellings.proofs.place_set.PlaceSet.next.Goals as goal

pub overflow_add-result : goal.overflow_add-result
overflow_add-result c =
    let w = c.index.result.now in
    let fits : w < 2 ^ 64 = search rules in
    let less = div-le_self w (2 ^ (c.loop-place.place % 64)) in
    let low = bit_at-trailing_zeros w64 (w / 2 ^ (c.loop-place.place % 64)) (omega arith) (omega (arith, less, fits)) in
    let below = low.0 in
    omega (arith, below)

pub returns-then-word-ne0-clause-found : goal.returns-then-word-ne0-clause-found
returns-then-word-ne0-clause-found c =
    let above = c.loop-place.invariant.above in
    (omega (arith, above), one_next c.args.self.now.words.items c.args.from c.loop-place.place c.index.result.now (omega arith) c.index.ensures c.loop-place.invariant (omega arith) (search rules))

pub returns-then-word-ne0-clause-least : goal.returns-then-word-ne0-clause-least
returns-then-word-ne0-clause-least c =
    none_before c.args.self.now.words.items c.args.from c.loop-place.place c.index.result.now (omega arith) c.index.ensures c.loop-place.invariant (omega arith) (search rules)

pub overflow_add-place : goal.overflow_add-place
overflow_add-place c = omega arith

pub loop-place-preserved : goal.loop-place-preserved
loop-place-preserved c = word_empty c.args.self.now.words.items c.args.from c.loop-place.place c.index.result.now (omega arith) c.index.ensures c.loop-place.invariant (omega arith)

pub returns-clause-none : goal.returns-clause-none
returns-clause-none c = λ e. none_left c.args.self.now.words.items c.args.from c.loop-place.place (omega arith) c.loop-place.invariant
