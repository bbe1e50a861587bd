use Rattle.simplex.specs.Simplex.{is_simplex}
use Rattle.flip_certificate.specs.Reading.{numbers_in}
use Rattle.flip_certificate.proofs.GuessedLaws.{pieces_not}
use Rattle.flip_certificate.proofs.guessing.simplices_in.Goals as goal

pub returns-in_default : goal.returns-in_default
returns-in_default c = pieces_not numbers_in is_simplex c.args.pieces.now c.loop-piece.piece-index _ c.loop-piece-test.true (rw c.in_default.is at c.in_ok-simplex.ensures)
