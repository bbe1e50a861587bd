use Rattle.std.proofs.Common.{◌/◌, ◌%◌, sym, ap, ◌∙◌}
use Rattle.std.specs.Prelude.{◌==◌}
use Rattle.std.specs.Int.{bit_at}
use Rattle.std.proofs.lemmas.List.{get_or_read}
use Rattle.std.proofs.lemmas.Nat.Bits.{shr_and_one}
use Rattle.gf2_rank.specs.Ones.{is_one}
use Rattle.gf2_rank.proofs.OnesLaws.{is_member-ones}
use Rattle.gf2_rank.proofs.column.Column.has.Goals as goal

pub returns : goal.returns
unfolding is_one
returns c =
    let ws = c.args.self.now.words.items in
    let row = c.args.row in
    ap (λ b. b == 1) (shr_and_one c.index.result.now (row % 64))
    ∙ ap (λ w. bit_at w (row % 64) == 1) (get_or_read ws (row / 64) c.index.result.now c.requires c.index.ensures 0)
    ∙ sym (is_member-ones ws row)
