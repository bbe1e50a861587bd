use Rattle.std.proofs.Common.{◌≡◌, ◌<◌, Bool, true, false, ◌||◌, length, get_or, sym, ap, ◌∙◌, arith}
use Rattle.std.specs.Prelude.{◌==◌}
use Rattle.std.proofs.lemmas.Bool.Decides.{nat_tests}
use Rattle.std.proofs.lemmas.List.Folds.{list_any_at, list_any_more}
use Rattle.std.proofs.lemmas.Option.{get_or_from_slice_get}
use Rattle.packed_keys.proofs.key.Key.has.Goals as goal

pub returns-then-label : goal.returns-then-label
returns-then-label c =
    let s = c.args.self.now in
    let k = c.loop-k.k in
    let here : get_or s k 0 ≡ c.label.result = get_or_from_slice_get s k c.label.result 0 c.label.ensures in
    let same = c.if-label.true in
    let test : (c.args.label == get_or s k 0) ≡ true = grind (arith, nat_tests) in
    sym (list_any_at (λ b. c.args.label == b) s k 0 (omega (arith, c.loop-k-test.true, c.len-k-end.ensures.value)) test)

pub loop-k-preserved : goal.loop-k-preserved
loop-k-preserved c =
    let s = c.args.self.now in
    let k = c.loop-k.k in
    let here : get_or s k 0 ≡ c.label.result = get_or_from_slice_get s k c.label.result 0 c.label.ensures in
    let other = c.if-label.false in
    let test : (c.args.label == get_or s k 0) ≡ false = grind (arith, nat_tests) in
    list_any_more (λ b. c.args.label == b) s k 0 (omega (arith, c.loop-k-test.true, c.len-k-end.ensures.value)) ∙ (λ i. c.loop-k.invariant i || test i)
