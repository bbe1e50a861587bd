use Rattle.std.proofs.Common.{◌≡◌, ◌+◌, ◌*◌, ◌^◌, ◌%◌, ◌∙◌, ap, length, min, arith, ℕ}
use Rattle.std.proofs.lemmas.Nat.{one_shl}
use Rattle.constructions.proofs.JoinLaws.{weight_join}
use Rattle.constructions.proofs.joins.join_weight.Goals as goal

pub returns : goal.returns
returns c =
    let sx = c.as_slice.ensures in
    let sy = c.as_slice-2.ensures in
    let power : 1 * 2 ^ (c.size.result + c.size-2.result) % 2 ^ 128 ≡ 2 ^ (c.size.result + c.size-2.result) = one_shl (c.size.result + c.size-2.result) 128 (omega (arith, c.size.ensures.bound, c.size-2.ensures.bound)) in
    c.saturating_mul.ensures
    ∙ ap (λ (n : ℕ). min n 340282366920938463463374607431768211455)
    (ap (λ (p : ℕ). (length c.as_slice.result.now * length c.as_slice-2.result.now) * p) power
    ∙ (λ i. (length (sx.value i) * length (sy.value i)) * 2 ^ (c.size.ensures.value i + c.size-2.ensures.value i)) ∙ weight_join c.args.x.now c.args.y.now sx.simplices sx.complex sy.simplices sy.complex)
