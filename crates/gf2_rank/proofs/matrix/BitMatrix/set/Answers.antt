use Rattle.std.proofs.Common.{◌≡◌, ◌<◌, length, sym, ap, ◌∙◌, arith}
use Rattle.std.proofs.lemmas.List.{length-map}
use Rattle.gf2_rank.specs.declared.column.Column.{Column}
use Rattle.gf2_rank.specs.Matrix.{Matrix, with_one}
use Rattle.gf2_rank.specs.Ones.{ones}
use Rattle.gf2_rank.proofs.ColumnSteps.{set_column}
use Rattle.gf2_rank.proofs.matrix.BitMatrix.set.Goals as goal

pub returns : goal.returns
returns c =
    let count : length c.args.self.now.columns ≡ length c.self.inside.columns.items =
    ap (λ (m : Matrix). length m.columns) (sym c.self.view_is) ∙ length-map c.self.inside.columns.items (λ (d : Column). ones d.words.items) in
    let inside : c.args.col < length c.self.inside.columns.items = omega (arith, c.requires.col) in
    set_column c.self.inside.rows c.args.row c.args.col c.self.inside.columns.items c.index_mut.result.now c.set.new.self inside c.index_mut.ensures.value c.set.ensures.value
    ∙ ap (λ (m : Matrix). with_one m c.args.row c.args.col) c.self.view_is
