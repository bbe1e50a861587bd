use Rattle.std.proofs.Common.{◌≡◌, ℕ, ℤ, List, map, pos, ap, ◌∙◌}
use Rattle.std.specs.List.{range_with_len}
use Rattle.std.specs.Prelude.{codes}
use Rattle.facet_set.specs.Numbers.{size}
use Rattle.reply_texts.specs.Replies.{numbers_reply}
use Rattle.script_shell.proofs.Options.{integers_of, option_count}
use Rattle.script_shell.proofs.asking.option_counts.Goals as goal

pub returns-clause-text : goal.returns-clause-text
returns-clause-text c =
    let d = c.args.complex.now in
    let counts : c.as_slice.result.now ≡ map (option_count d) (range_with_len 0 (size d)) = c.as_slice.ensures ∙ c.in_ok-counts.ensures in
    c.in_ok-numbers_reply.ensures
    ∙ ap (λ (ns : List ℕ). numbers_reply (codes "options ") (map pos ns)) counts
    ∙ ap (λ (zs : List ℤ). numbers_reply (codes "options ") zs) (integers_of (option_count d) (range_with_len 0 (size d)))
