use Rattle.std.proofs.Common.{◌≡◌, length, refl, ap, ◌∙◌, map, rules}
use Rattle.std.specs.Ordering.{nat_cmp}
use Rattle.std.proofs.lemmas.List.{with_items_is}
use Rattle.gf2_rank.specs.Columns.{sets}
use Rattle.gf2_rank.specs.Elimination.{cleared}
use Rattle.gf2_rank.specs.Ones.{ones}
use Rattle.gf2_rank.proofs.ColumnSteps.{pivot_reduced, empty_reduced}
use Rattle.gf2_rank.proofs.matrix.rank_of.Goals as goal
use Rattle.gf2_rank.proofs.matrix.rank_of.Goals.{in-Some-pivot_row, in_default-pivot_row}

pub loop-last-preserved : goal.loop-last-preserved
loop-last-preserved c =
    elim c.match-pivot_row.branch [
      | in-Some-pivot_row w ↦
          let count : length w.clear_all.new.columns ≡ c.pop.new.self.len = search rules in
          let items : c.match-pivot_row.columns.items ≡ w.clear_all.new.columns = ap (λ v. v.items) w.columns-is ∙ with_items_is c.pop.new.self w.clear_all.new.columns count in
          rw (items, w.rank-is)
          (pivot_reduced c.args.len c.args.columns.items c.loop-last.columns.items c.pop.new.self.items w.clear_all.new.columns c.in-Some.last w.in-Some-pivot_row.row c.loop-last.rank
          c.in-Some.ensures.items w.in-Some-pivot_row.ensures.member
          (w.clear_all.ensures.value ∙ ap (λ cs. map (cleared nat_cmp w.in-Some-pivot_row.row (ones c.in-Some.last.words.items)) (sets cs)) w.deref_mut.ensures.value)
          w.clear_all.ensures.len c.loop-last.invariant)
      | in_default-pivot_row w ↦ rw (w.columns-is, w.rank-is)
          (empty_reduced c.args.len c.args.columns.items c.loop-last.columns.items c.pop.new.self.items c.in-Some.last c.loop-last.rank
          c.in-Some.ensures.items (w.in_default-pivot_row.ensures.none.0 refl) c.loop-last.invariant)
    ]
