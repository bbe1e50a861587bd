use Rattle.std.proofs.Common.{sym, ◌∙◌}
use Rattle.flip_rules.proofs.SubdivisionLaws.{fresh_label}
use Rattle.flip_table.proofs.kept.new_point.Goals as goal

pub point-requires : goal.point-requires
point-requires c = fresh_label c.args.c.now c.as_slice-facets.ensures.simplices c.in-Some.label (sym c.in_ok-label.ensures ∙ c.in-Some.is)
