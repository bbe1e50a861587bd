use Rattle.std.proofs.Common.{length, ap, subst, sym, ◌∙◌}
use Rattle.std.specs.Prelude.{◌==◌}
use Rattle.std.specs.List.{IsDistinct}
use Rattle.facet_set.specs.Complex.{simplices}
use Rattle.facet_set.proofs.FaceTables.{distinct-filter, sorted_is}
use Rattle.flip_rules.specs.Tallies.{same}
use Rattle.indexmap.specs.IndexMap.{keys}
use Rattle.flip_rules.proofs.tallies.faces_of_size.Goals as goal

pub returns : goal.returns
returns c =
    sorted_is c.in_ok-faces.faces.items c.sort_unstable.new.self.items
    (subst (IsDistinct same) (sym c.in_ok-faces.ensures.faces) (distinct-filter (λ s. length s == c.args.size) (keys c.args.tallies.now) c.in_ok-faces.ensures.unique))
    c.sort_unstable.ensures.permutation c.sort_unstable.ensures.sorted
    ∙ ap simplices c.in_ok-faces.ensures.faces
