use Rattle.std.proofs.Common.{ap, ◌∙◌}
use Rattle.std.specs.Prelude.{◌&&◌, slice_index_or, []}
use Rattle.simplex.specs.Simplex.{is_within}
use Rattle.shellings.specs.Places.{is_one}
use Rattle.shellings.proofs.PlacementLaws.{covered_is}
use Rattle.shellings.proofs.placement.Placement.is_covered.Goals as goal

pub returns-clause-value : goal.returns-clause-value
returns-clause-value c = λ all k.
    c.is_some.ensures ∙ covered_is all c.args.self.now.order c.args.self.now.placed.words.items c.keep_cofaces.new.places.words.items c.args.s.now c.next.result k.placed
    (λ n. c.keep_cofaces.ensures.value all k.stars n ∙ ap (λ l. is_one l n && is_within c.args.s.now (slice_index_or all n [])) c.copy_from.ensures)
    c.next.ensures.found c.next.ensures.none
