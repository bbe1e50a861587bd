use Rattle.std.proofs.Common.{ap, ◌∙◌, map, List, ℕ, Bor}
use Rattle.flip_certificate.proofs.GuessedLaws.{pairs_done, pairs_refused}
use Rattle.flip_certificate.proofs.guessing.pairs_in.Goals as goal

pub returns-in_default : goal.returns-in_default
returns-in_default c =
    pairs_refused c.deref-piece-items.result.now c.loop-piece.piece-index c.args.bytes.now (ap (map (λ (p : Bor (List ℕ)). p.now)) c.deref-piece-items.ensures.value ∙ c.in_ok-pieces.ensures) _ c.loop-piece-test.true (rw c.in_default.is at c.in_ok-pair.ensures)

pub returns : goal.returns
returns c =
    pairs_done c.deref-piece-items.result.now c.loop-piece.piece-index c.args.bytes.now (ap (map (λ (p : Bor (List ℕ)). p.now)) c.deref-piece-items.ensures.value ∙ c.in_ok-pieces.ensures) c.loop-piece.pairs c.loop-piece-test.false c.loop-piece.invariant.read c.loop-piece.invariant.good
