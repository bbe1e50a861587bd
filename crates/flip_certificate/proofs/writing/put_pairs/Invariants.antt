use Rattle.std.proofs.Common.{◌≡◌, ◌∷◌, ◌++◌, take}
use Rattle.std.specs.List.{flat_map}
use Rattle.plain_text.specs.Printing.{simplex_text}
use Rattle.flip_certificate.specs.Lines.{pair_list}
use Rattle.flip_certificate.proofs.writing.put_pairs.Given as goal

abbrev pub invariant-loop-pair : goal.invariant-loop-pair
invariant-loop-pair l = l.out ≡ l.initial.out ++ flat_map (λ p. 44 ∷ simplex_text (pair_list p)) (take l.pair-index l.rest)
