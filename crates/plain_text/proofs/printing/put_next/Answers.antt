use Rattle.std.proofs.Common.{List, ℕ, ◌∷◌, [], sym, ap}
use Rattle.std.proofs.lemmas.List.{append-nil}
use Rattle.std.proofs.lemmas.Result.{on_err_weaker}
use Rattle.plain_text.proofs.FrontLaws.{front_later}
use Rattle.plain_text.proofs.printing.put_next.Goals as goal

pub returns-clause-front : goal.returns-clause-front
returns-clause-front g c =
    let text = g.T.Printed.text c.args.item.now in
    on_err_weaker c.put.result (λ h. front_later c.args.out.now c.push.new.self c.put.new.out (44 ∷ []) text [] (44 ∷ text) c.in_ok-push.ensures.ok h (ap (λ (t : List ℕ). 44 ∷ t) (sym (append-nil text)))) c.put.ensures.front
