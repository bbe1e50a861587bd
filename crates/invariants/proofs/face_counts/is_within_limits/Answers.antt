use Rattle.std.proofs.Common.{◌≤◌, arith}
use Rattle.simplex.proofs.Decided.{le_at}
use Rattle.facet_set.specs.Numbers.{weight}
use Rattle.face_vectors.specs.declared.counts.TheConstants.{COUNT_LIMIT}
use Rattle.invariants.proofs.Weights.{few_faces}
use Rattle.invariants.proofs.face_counts.is_within_limits.Goals as goal

pub returns-clause-counts : goal.returns-clause-counts
returns-clause-counts c = λ h.
    let l = le_at c.weight.result 2147483648 h in
    let w : weight c.args.c.now ≤ COUNT_LIMIT = omega (arith, l) in
    few_faces c.args.c.now w
