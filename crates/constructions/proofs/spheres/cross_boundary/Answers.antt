use Rattle.std.proofs.Common.{◌≡◌, ◌∙◌, ap, subst, arith, List, ℕ}
use Rattle.simplex.specs.Members.{In}
use Rattle.facet_set.specs.Complex.{generated}
use Rattle.facet_set.proofs.GeneratedLaws.{if_ok}
use Rattle.constructions.specs.Spheres.{bdcross, one_of_each}
use Rattle.constructions.proofs.SphereLaws.{both_follow, generated_bdcross}
use Rattle.constructions.proofs.spheres.cross_boundary.Goals as goal

pub with_either-requires : goal.with_either-requires
with_either-requires c = λ s i. both_follow c.args.d c.loop-i.i s c.requires c.loop-i-test.true (subst (λ (l : List (List ℕ)). In s l) (c.deref.ensures.value ∙ c.loop-i.invariant) i)

pub returns : goal.returns
returns c =
    let last : c.loop-i.i ≡ c.args.d = omega (arith, c.loop-i-test.false, c.loop-i.auto.i-end) in
    if_ok (λ d. d ≡ generated c.deref-2.result.now) (λ d. d ≡ bdcross c.args.d) c.generated.result
    (λ d e. e ∙ ap generated (c.deref-2.ensures.value ∙ c.loop-i.invariant ∙ ap one_of_each last) ∙ generated_bdcross c.args.d) c.generated.ensures
