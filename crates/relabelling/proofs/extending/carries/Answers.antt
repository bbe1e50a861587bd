use Rattle.std.proofs.Common.{◌∙◌, ap, nat_eq}
use Rattle.std.specs.Cmp.Lexicographic.{pointwise}
use Rattle.facet_set.specs.Flips.{same_facets}
use Rattle.facet_set.specs.Maps.{image}
use Rattle.relabelling.proofs.CarryLaws.{same_lists}
use Rattle.relabelling.proofs.extending.carries.Goals as goal

pub returns : goal.returns
returns c =
    c.eq.ensures ∙ ap (λ x. pointwise (pointwise nat_eq) x c.as_slice-3.result.now) c.as_slice-2.ensures.value ∙ ap (pointwise (pointwise nat_eq) c.in_ok-carried.carried) c.as_slice-3.ensures.value
    ∙ same_lists c.in_ok-carried.carried c.args.d.now ∙ ap (λ x. same_facets x c.args.d.now) (c.in_ok-carried.ensures ∙ ap (image c.args.pairs.now) c.as_slice.ensures.value)
