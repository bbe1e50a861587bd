use Rattle.std.proofs.Common.{◌∙◌, ◌++◌, ◌∷◌, [], ◌+◌, ◌≡◌, ap, arith}
use Rattle.std.specs.List.{range_with_len}
use Rattle.constructions.proofs.SphereLaws.{range_more}
use Rattle.constructions.proofs.spheres.labels_to.Goals as goal

pub loop-i-preserved : goal.loop-i-preserved
loop-i-preserved c =
    let next : c.loop-i.i + 1 ≡ 1 + c.loop-i.i = omega arith in
    c.in_ok-push.ensures.items ∙ ap (λ l. l ++ (c.loop-i.i + 1) ∷ []) c.loop-i.invariant ∙ ap (λ b. range_with_len 1 c.loop-i.i ++ b ∷ []) next ∙ range_more 1 c.loop-i.i
