use Rattle.std.proofs.Common.{sym, subst, ◌++◌, [], ◌∷◌, List, ℕ}
use Rattle.std.specs.Bool.{IsTrue}
use Rattle.simplex.specs.Simplex.{is_simplex}
use Rattle.simplex.proofs.Filled.{filled_push}
use Rattle.simplex.proofs.simplex.Simplex.push.Goals as goal

pub invariant_of-self : goal.invariant_of-self
invariant_of-self c =
    filled_push c.self.inside.cells c.self.inside.len c.args.label c.self.invariant
    (subst (λ (s : List ℕ). IsTrue (is_simplex (s ++ c.args.label ∷ []))) (sym c.self.view_is) c.requires)
