use Rattle.std.proofs.lemmas.Cmp.{nat_cmp_total}
use Rattle.std.specs.FinMap.{nat_cmp-IsAntisymmetric}
use Rattle.simplex.proofs.Members.{same_sets, contains_in, in_contains}
use Rattle.simplex.proofs.laws.sets_are_their_members.Goals as goal

pub returns : goal.returns
returns c = λ s t h k f.
    same_sets nat_cmp_total nat_cmp-IsAntisymmetric s t h k (λ a i. contains_in t a ((f a).0 (in_contains s a i))) (λ a i. contains_in s a ((f a).1 (in_contains t a i)))
