use Rattle.std.proofs.Common.{◌≡◌, map, take, drop}
use Rattle.std.specs.List.{find}
use Rattle.verdicts.specs.Verdicts.{block_of, first_unmet}
use Rattle.verdicts.proofs.ManifoldLaws.{unmet}
use Rattle.verdicts.proofs.manifolds.decide.Given as goal

abbrev pub invariant-loop-vertex : goal.invariant-loop-vertex
invariant-loop-vertex l = record {
  blocks : l.blocks ≡ map (block_of l.c l.budget l.seed) (take l.vertex-index l.vertex-items);
  rest : first_unmet l.c l.budget l.seed ≡ find (unmet l.c l.budget l.seed) (drop l.vertex-index l.vertex-items);
}
