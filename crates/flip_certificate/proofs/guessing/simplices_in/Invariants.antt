use Rattle.std.proofs.Common.{◌≡◌, map, take, true}
use Rattle.std.specs.List.{list_all}
use Rattle.simplex.specs.Simplex.{is_simplex}
use Rattle.flip_certificate.specs.Reading.{numbers_in}
use Rattle.flip_certificate.proofs.guessing.simplices_in.Given as goal

abbrev pub invariant-loop-piece : goal.invariant-loop-piece
invariant-loop-piece l = record {
  read : l.simplices ≡ map numbers_in (map (λ p. p.now) (take l.piece-index l.pieces));
  good : list_all is_simplex l.simplices ≡ true;
}
