use Rattle.std.proofs.Common.{◌∙◌, ap}
use Rattle.std.specs.List.{flat_map}
use Rattle.std.proofs.lemmas.List.Filters.{dedup_is}
use Rattle.facet_set.specs.Complex.{simplices}
use Rattle.facet_set.proofs.GeneratedLaws.{in_order_is}
use Rattle.morse_lists.specs.Cells.{numbered}
use Rattle.morse_lists.proofs.FaceListLaws.{numbered_faces}
use Rattle.morse_lists.proofs.all_faces.all_faces.Goals as goal

pub returns-clause-value : goal.returns-clause-value
returns-clause-value c =
    dedup_is _ _ _ c.dedup.ensures.filtered
    ∙ in_order_is c.in_ok-list.list.items c.sort_unstable.new.self.items c.sort_unstable.ensures.permutation c.sort_unstable.ensures.sorted
    ∙ ap simplices c.in_ok-list.ensures
    ∙ ap (λ l. simplices (flat_map numbered l)) c.as_slice.ensures.value
    ∙ numbered_faces c.args.c.now c.as_slice.ensures.simplices
