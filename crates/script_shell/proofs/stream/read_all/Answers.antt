use Rattle.std.proofs.Common.{arith}
use Rattle.script_shell.proofs.Streaming.{gave_after}
use Rattle.script_shell.proofs.stream.read_all.Goals as goal

pub returns-in_err-count-clause-gave : goal.returns-in_err-count-clause-gave
returns-in_err-count-clause-gave g c =
    gave_after _ _ _ c.pieces.bytes.items _ _ _ c.pieces.invariant.bytes (omega (arith, c.pieces.invariant.taken, c.pieces.bytes.ok.0)) c.take_piece.ensures.gave
