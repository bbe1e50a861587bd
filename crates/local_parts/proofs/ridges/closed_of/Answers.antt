use Rattle.std.proofs.Common.{◌-◌, ◌^◌, min, ◌∙◌, ap}
use Rattle.std.specs.Prelude.{◌==◌}
use Rattle.std.specs.List.{list_all}
use Rattle.facet_set.proofs.ComplexLaws.{sets_of}
use Rattle.local_parts.specs.Pieces.{all_ridges, copies, count_at}
use Rattle.local_parts.proofs.RidgeLaws.{closed_is}
use Rattle.local_parts.proofs.ridges.closed_of.Goals as goal

pub returns : goal.returns
returns c =
    let ridges = c.in_ok-ridges.ensures ∙ ap all_ridges c.as_slice.ensures.value in
    c.are_twice.ensures ∙ ap (list_all (λ r. count_at c.in_ok-counts.counts r == 2)) (c.deref-2.ensures.value ∙ ridges)
    ∙ closed_is c.args.c.now (count_at c.in_ok-counts.counts) (sets_of c.args.c.now c.as_slice.ensures.simplices) c.requires (λ t. c.in_ok-counts.ensures t ∙ ap (λ l. min (copies t l) (2 ^ 32 - 1)) (c.deref.ensures.value ∙ ridges))
