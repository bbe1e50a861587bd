use Rattle.std.proofs.Common.{List, ℕ, ◌∷◌, [], ◌++◌, map, refl, ap, ◌∙◌, append_assoc}
use Rattle.std.specs.List.{join_with_byte}
use Rattle.std.proofs.lemmas.Result.{on_err_weaker}
use Rattle.plain_text.proofs.FrontLaws.{front_later, front_from, err_any}
use Rattle.plain_text.proofs.printing.put_list.Goals as goal

pub returns-in_err-put_items-clause-front : goal.returns-in_err-put_items-clause-front
returns-in_err-put_items-clause-front g c =
    let text = join_with_byte 44 (map g.T.Printed.text c.args.items.now) in
    err_any _ _ (front_later c.args.out.now c.push.new.self c.put_items.new.out (91 ∷ []) text (93 ∷ []) (91 ∷ (text ++ 93 ∷ [])) c.in_ok-push.ensures.ok c.in_err-put_items.ensures.front refl)

pub returns-clause-front : goal.returns-clause-front
returns-clause-front g c =
    let text = join_with_byte 44 (map g.T.Printed.text c.args.items.now) in
    on_err_weaker c.push-2.result
    (λ h. front_from c.args.out.now c.push-2.new.self (91 ∷ text) (93 ∷ []) (91 ∷ (text ++ 93 ∷ []))
    (h ∙ c.in_ok-put_items.ensures.text ∙ ap (λ (t : List ℕ). t ++ text) c.in_ok-push.ensures.ok ∙ append_assoc c.args.out.now (91 ∷ []) text) refl)
    c.push-2.ensures.err
