use Rattle.std.proofs.Common.{◌≡◌, ◌≤◌, length, ap, ◌∙◌, rules, arith}
use Rattle.std.specs.Ordering.{nat_cmp}
use Rattle.std.proofs.lemmas.List.{with_items_is}
use Rattle.gf2_rank.specs.Ones.{ones}
use Rattle.gf2_rank.specs.Span.{difference}
use Rattle.gf2_rank.proofs.OnesLaws.{ones-xor}
use Rattle.gf2_rank.proofs.ColumnSteps.{added_all}
use Rattle.gf2_rank.proofs.column.Column.add.Goals as goal

pub returns-clause-value : goal.returns-clause-value
returns-clause-value c =
    let a = c.deref_mut.result.now in
    let b = c.deref.result.now in
    let same : length c.deref_mut.result.now ≡ length c.deref.result.now = search rules in
    let most : length c.deref_mut.result.now ≤ length c.deref.result.now = omega arith in
    let count : length c.add_words.new.words ≡ c.args.self.now.words.len = search rules in
    ap ones (with_items_is c.args.self.now.words c.add_words.new.words count)
    ∙ ones-xor a b c.add_words.new.words (added_all a b c.add_words.new.words (length b) most same c.add_words.ensures)
    ∙ ap (λ ws. difference nat_cmp (ones ws) (ones b)) c.deref_mut.ensures.value
    ∙ ap (λ ws. difference nat_cmp (ones c.args.self.now.words.items) (ones ws)) c.deref.ensures.value
