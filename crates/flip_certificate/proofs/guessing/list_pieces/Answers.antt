use Rattle.std.proofs.Common.{ap, ◌∙◌, map, arith, rules}
use Rattle.std.specs.Prelude.{◌==◌}
use Rattle.std.proofs.lemmas.Iterator.Consumers.{map_from_collect}
use Rattle.std.proofs.lemmas.Iterator.Splits.{YieldsList-from_slice_split}
use Rattle.flip_certificate.proofs.GuessedLaws.{pieces_are}
use Rattle.flip_certificate.proofs.guessing.list_pieces.Goals as goal
use borrow.Author.Tests.{tests}

pub returns : goal.returns
returns c =
    let bytes = c.args.bytes.now in
    let pieces = c.in_ok-pieces.pieces in
    let h = map_from_collect _ c.collect.ensures.ran (YieldsList-from_slice_split _ (λ b. b == 93) bytes c.split.ensures.rest c.split.ensures.done c.split.ensures.closure (λ x r q k. search (rules, tests))) in
    ap (map (λ p. p.now)) c.truncate.ensures.items
    ∙ pieces_are pieces.items c.saturating_sub.result bytes (omega (arith, pieces.ok.0)) (rw c.in_ok-pieces.was at h)
