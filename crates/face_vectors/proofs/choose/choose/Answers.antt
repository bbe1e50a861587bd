use Rattle.std.proofs.Common.{◌≤◌, ◌^◌, sym, subst}
use Rattle.face_vectors.proofs.ChooseLaws.{get_or-triangle, choose-le_at}
use Rattle.face_vectors.proofs.choose.choose.Goals as goal

pub returns-clause-value : goal.returns-clause-value
returns-clause-value c = get_or-triangle c.args.n c.args.k _ _ c.requires.things c.requires.chosen

pub returns-clause-small : goal.returns-clause-small
returns-clause-small c =
    subst (λ m. m ≤ 2 ^ 12) (sym (get_or-triangle c.args.n c.args.k _ _ c.requires.things c.requires.chosen)) (choose-le_at c.args.n c.args.k c.requires.things)
