use Rattle.std.proofs.Common.{◌≡◌, ◌+◌, ◌*◌, ◌≤◌, true, length, rules, refl, sym, ap, ◌∙◌, arith}
use Rattle.std.specs.Ordering.{nat_cmp}
use Rattle.std.specs.Int.{trailing_zeros, w64}
use Rattle.simplex.specs.InOrder.{is_member}
use Rattle.gf2_rank.specs.Ones.{ones}
use Rattle.gf2_rank.proofs.OnesLaws.{ones-none, trailing_member}
use Rattle.gf2_rank.proofs.ColumnSteps.{zero_all}
use Rattle.gf2_rank.proofs.column.Column.pivot_row.Goals as goal

pub returns-then-word-ne0-clause-member : goal.returns-then-word-ne0-clause-member
returns-then-word-ne0-clause-member c = trailing_member c.args.self.now.words.items c.loop-k.k c.index-word.result.now (search rules) c.index-word.ensures (omega arith) (search rules)

pub returns-then-word-ne0-clause-none : goal.returns-then-word-ne0-clause-none
returns-then-word-ne0-clause-none c =
    let row = 64 * c.loop-k.k + trailing_zeros w64 c.index-word.result.now in
    let member : is_member nat_cmp row (ones c.args.self.now.words.items) ≡ true =
    trailing_member c.args.self.now.words.items c.loop-k.k c.index-word.result.now (search rules) c.index-word.ensures (omega arith) (search rules) in
    (λ h. cc, λ e. sym member ∙ ap (is_member nat_cmp row) e)

pub returns-clause-none : goal.returns-clause-none
returns-clause-none c =
    let whole : length c.args.self.now.words.items ≤ c.loop-k.k = search rules in
    (λ h. ones-none c.args.self.now.words.items (zero_all c.args.self.now.words.items c.loop-k.k whole c.loop-k.invariant), λ e. refl)
