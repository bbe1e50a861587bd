use Rattle.std.proofs.Common.{◌≡◌, ◌∙◌, ap, sym, subst, map, List, ℕ}
use Rattle.std.specs.Bool.{IsTrue}
use Rattle.simplex.specs.Members.{In}
use Rattle.simplex.specs.Simplex.{is_simplex, without}
use Rattle.facet_set.specs.Complex.{generated}
use Rattle.facet_set.proofs.GeneratedLaws.{if_ok}
use Rattle.constructions.specs.Spheres.{bdsimplex}
use Rattle.constructions.proofs.SphereLaws.{without_simplex, generated_bdsimplex}
use Rattle.constructions.proofs.spheres.simplex_boundary.Goals as goal

pub all_without-requires : goal.all_without-requires
all_without-requires c =
    subst (λ (l : List ℕ). (a : ℕ) → In a l → IsTrue (is_simplex (without l a))) (sym (c.deref.ensures.value ∙ c.in_ok-all.ensures)) (λ a i. without_simplex c.args.d a c.requires i)

pub returns : goal.returns
returns c =
    if_ok (λ d. d ≡ generated c.deref-2.result.now) (λ d. d ≡ bdsimplex c.args.d) c.generated.result
    (λ d e. e ∙ ap generated (c.deref-2.ensures.value ∙ c.in_ok-list.ensures ∙ ap (λ (l : List ℕ). map (without l) l) (c.deref.ensures.value ∙ c.in_ok-all.ensures)) ∙ generated_bdsimplex c.args.d) c.generated.ensures
