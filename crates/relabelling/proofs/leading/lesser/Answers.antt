use Rattle.std.proofs.Common.{◌≡◌, ℕ, List, IfOk, sym, subst}
use Rattle.std.specs.Prelude.{Option}
use Rattle.relabelling.specs.Least.{lesser}
use Rattle.relabelling.proofs.leading.lesser.Goals as goal

pub returns-in-Some : goal.returns-in-Some
returns-in-Some c = subst (λ (x : Option (List (ℕ × ℕ))). IfOk c.lesser_than.result (λ o. o ≡ lesser x c.args.second)) (sym c.in-Some.is) c.lesser_than.ensures
