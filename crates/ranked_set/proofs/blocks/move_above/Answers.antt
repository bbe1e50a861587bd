use Rattle.std.proofs.Common.{◌≡◌, ◌-◌, take, ◌++◌, length, drop, ap, ◌∙◌, is_ok, if◌then◌else◌, true, arith}
use Rattle.std.proofs.lemmas.Grind.{common_steps}
use Rattle.ranked_set.proofs.BlockLaws.{take_rest}
use Rattle.ranked_set.proofs.blocks.move_above.Goals as goal

pub returns-clause-items : goal.returns-clause-items
returns-clause-items c =
    let e = c.extend_from_slice.ensures in
    let ok : is_ok c.extend_from_slice.result ≡ true = grind (arith, common_steps, e.succeeds) in
    let r = c.deref.result.now in
    let all : take (length r - 64) (drop 64 r) ≡ drop 64 r = take_rest 64 r in
    e.items ∙ ap (λ b. if b then c.args.upper.now.items ++ take (length r - 64) (drop 64 r) else c.args.upper.now.items) ok
    ∙ ap (λ u. u ++ take (length r - 64) (drop 64 r)) c.requires.empty
    ∙ all ∙ ap (drop 64) c.deref.ensures.value
