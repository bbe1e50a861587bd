use Rattle.std.proofs.Common.{◌≡◌, ◌∙◌, ap, sym, subst, None, List, ℕ}
use Rattle.simplex.specs.SimplexFault.{set, simplex_fault}
use Rattle.simplex.specs.Simplex.{without}
use Rattle.facet_set.proofs.SetLaws.{faultless, simplex_again}
use Rattle.constructions.proofs.spheres.without.Goals as goal

pub simplex_of-requires : goal.simplex_of-requires
simplex_of-requires c =
    subst (λ (l : List ℕ). simplex_fault l ≡ None) (sym (c.deref.ensures.value ∙ c.in_ok-rest.ensures)) (faultless (without c.args.labels.now c.args.label) c.requires)

pub returns : goal.returns
returns c = c.simplex_of.ensures.value ∙ ap set (c.deref.ensures.value ∙ c.in_ok-rest.ensures) ∙ simplex_again (without c.args.labels.now c.args.label) c.requires
