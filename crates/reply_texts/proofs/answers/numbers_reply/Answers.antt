use Rattle.std.proofs.Common.{◌≡◌, ℕ, List, [], ◌∷◌, ◌++◌, map, ap, ◌∙◌}
use Rattle.std.specs.Fmt.{decimal}
use Rattle.plain_text.specs.Printing.{bracketed_text}
use Rattle.reply_texts.proofs.NumberLaws.{number_texts}
use Rattle.reply_texts.proofs.answers.numbers_reply.Goals as goal

pub returns : goal.returns
returns c =
    let word = c.args.word.now in
    let ns = c.args.numbers.now in
    let begun : c.extend.new.self ≡ word = c.in_ok-extend.ensures.ok ∙ ap (λ (t : List ℕ). t ++ word) c.new-text.ensures in
    let texts = ap (λ (ts : List (List ℕ)). bracketed_text ts) (number_texts ns) in
    c.in_ok-push.ensures.ok
    ∙ ap (λ (t : List ℕ). t ++ 10 ∷ [])
    (c.in_ok-put_list.ensures.text ∙ ap (λ (t : List ℕ). t ++ bracketed_text (map decimal ns)) begun ∙ ap (λ (t : List ℕ). word ++ t) texts)
