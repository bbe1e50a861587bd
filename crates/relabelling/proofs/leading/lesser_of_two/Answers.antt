use Rattle.std.proofs.Common.{◌∙◌, ap, sym, cond, Some}
use Rattle.relabelling.proofs.leading.lesser_of_two.Goals as goal

pub returns-then-branch : goal.returns-then-branch
returns-then-branch c = ap (λ v. cond v (Some c.args.second) (Some c.args.first)) (sym c.if-branch.true ∙ c.in_ok-comes_before.ensures)

pub returns : goal.returns
returns c = ap (λ v. cond v (Some c.args.second) (Some c.args.first)) (sym c.if-branch.false ∙ c.in_ok-comes_before.ensures)
