use Rattle.std.proofs.Common.{List, ℕ, sym, subst}
use Rattle.std.specs.Bool.{IsTrue}
use Rattle.simplex.specs.Simplex.{is_simplex, subset_at}
use Rattle.simplex.proofs.Filled.{simplex-subset_at}
use Rattle.packed_keys.proofs.key.Key.subset.Goals as goal

pub among-requires : goal.among-requires
among-requires c =
    subst (λ (s : List ℕ). IsTrue (is_simplex (subset_at s c.args.mask))) (sym c.labels.ensures.value) (simplex-subset_at c.args.s.now c.args.mask c.labels.ensures.simplex)
