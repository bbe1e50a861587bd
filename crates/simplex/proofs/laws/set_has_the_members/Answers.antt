use Rattle.std.proofs.lemmas.Cmp.{nat_cmp_total}
use Rattle.std.specs.FinMap.{nat_cmp-IsAntisymmetric}
use Rattle.simplex.specs.SimplexFault.{set}
use Rattle.simplex.proofs.InOrderLaws.{is_increasing-in_order}
use Rattle.simplex.proofs.Members.{in_order_in, from_in_order, contains_in, in_contains}
use Rattle.simplex.proofs.laws.set_has_the_members.Goals as goal

pub returns : goal.returns
returns c = λ xs. (
  is_increasing-in_order nat_cmp_total xs,
  λ a. (
    λ h. in_contains xs a (from_in_order nat_cmp_total nat_cmp-IsAntisymmetric a xs (contains_in (set xs) a h)),
    λ h. in_contains (set xs) a (in_order_in nat_cmp_total nat_cmp-IsAntisymmetric a xs (contains_in xs a h)),
  ),
)
