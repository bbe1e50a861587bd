use Rattle.std.proofs.Common.{◌≡◌, ℕ, List, IfOk, sym, subst, Some}
use Rattle.std.specs.Prelude.{Option}
use Rattle.relabelling.specs.Least.{lesser}
use Rattle.relabelling.proofs.leading.lesser_than.Goals as goal

pub returns-in-Some : goal.returns-in-Some
returns-in-Some c = subst (λ (x : Option (List (ℕ × ℕ))). IfOk c.lesser_of_two.result (λ o. o ≡ lesser (Some c.args.first) x)) (sym c.in-Some.is) c.lesser_of_two.ensures
