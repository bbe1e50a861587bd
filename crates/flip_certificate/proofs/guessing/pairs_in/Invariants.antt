use Rattle.std.proofs.Common.{◌≡◌, map, take, true}
use Rattle.std.specs.List.{list_all}
use Rattle.flip_certificate.specs.Lines.{is_pair}
use Rattle.flip_certificate.specs.Reading.{numbers_in, pair_of}
use Rattle.flip_certificate.proofs.guessing.pairs_in.Given as goal

abbrev pub invariant-loop-piece : goal.invariant-loop-piece
invariant-loop-piece l = record {
  read : l.pairs ≡ map (λ b. pair_of (numbers_in b)) (map (λ p. p.now) (take l.piece-index l.piece-items));
  good : list_all is_pair l.pairs ≡ true;
}
