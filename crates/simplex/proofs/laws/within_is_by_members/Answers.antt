use Rattle.simplex.proofs.Members.{contains_in, in_contains}
use Rattle.simplex.proofs.SimplexLaws.{within_in, in_within}
use Rattle.simplex.proofs.laws.within_is_by_members.Goals as goal

pub returns : goal.returns
returns c = λ s t. (
  λ h a k. in_contains t a (within_in s t a h (contains_in s a k)),
  λ f. in_within s t (λ a i. contains_in t a (f a (in_contains s a i))),
)
