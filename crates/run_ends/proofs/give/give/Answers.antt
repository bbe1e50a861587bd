use Rattle.std.proofs.Common.{take, drop, arith, ap, ◌∙◌}
use Rattle.run_ends.proofs.Feeding.{read_part}
use Rattle.run_ends.proofs.give.give.Goals as goal

pub returns-clause-given : goal.returns-clause-given
returns-clause-given c =
    read_part c.args.bytes.now c.args.buf.now c.copy_from_slice.new.self c.args.at c.min-count.result (omega arith)
    (c.copy_from_slice.ensures.after ∙ ap (λ k. take k (drop c.args.at c.args.bytes.now)) (omega arith))
