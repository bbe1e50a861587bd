use Rattle.std.proofs.Common.{◌≡◌, ◌+◌, ◌∙◌, ap, arith}
use Rattle.facet_set.specs.Complex.{generated}
use Rattle.facet_set.specs.Parts.{skeleton}
use Rattle.facet_set.proofs.GeneratedLaws.{if_ok}
use Rattle.local_parts.proofs.SkeletonLaws.{tops, skeleton_is}
use Rattle.local_parts.proofs.skeletons.skeleton.Goals as goal

pub returns : goal.returns
returns c =
    if_ok (λ d. d ≡ generated c.deref.result.now) (λ d. d ≡ skeleton c.args.c.now c.args.k) c.generated.result
    (λ d e. e ∙ ap generated (c.deref.ensures.value ∙ c.in_ok-pieces.ensures ∙ ap (tops (c.min.result + 1)) c.as_slice.ensures.value) ∙ skeleton_is c.args.k (c.min.result + 1) c.args.c.now (omega (arith, c.min.ensures)) c.as_slice.ensures.simplices)
    c.generated.ensures
