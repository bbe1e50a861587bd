use Rattle.facet_set.proofs.FaceLaws.{generated_members_lem}
use Rattle.facet_set.proofs.laws.generated_members.Goals as goal

pub returns : goal.returns
returns c = generated_members_lem
