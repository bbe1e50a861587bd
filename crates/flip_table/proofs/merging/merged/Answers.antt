use Rattle.std.proofs.Common.{◌++◌, ap, ◌∙◌, inl, inr, ◌⊎◌, ◌≤◌, length}
use Rattle.std.proofs.lemmas.List.{take_rest}
use Rattle.flip_table.proofs.MergeLaws.{merged_end}
use Rattle.flip_table.proofs.merging.merged.Goals as goal
use Rattle.flip_table.proofs.merging.merged.Goals.{then-loop-i-test+else-j-second, else-loop-i-test}

pub returns : goal.returns
returns c =
    let xs = c.args.first.now in
    let ys = c.args.second.now in
    let done : (length xs ≤ c.loop-i.i) ⊎ (length ys ≤ c.loop-i.j) = elim c.loop-i-test.branch [
      | then-loop-i-test+else-j-second w ↦ inr w.if-j-second.false
      | else-loop-i-test w ↦ inl w.loop-i-test.false
    ] in
    c.in_ok-extend-2.ensures.ok
    ∙ (λ z. (c.in_ok-extend.ensures.ok ∙ ap (λ l. c.loop-i.list ++ l) (take_rest xs c.loop-i.i)) z ++ take_rest ys c.loop-i.j z)
    ∙ merged_end xs ys _ c.loop-i.list c.loop-i.i c.loop-i.j done c.loop-i.invariant.so_far
