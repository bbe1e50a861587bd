use Rattle.facet_set.proofs.OptionFlips.{option_members_lem, options_increase_lem}
use Rattle.facet_set.proofs.laws.option_flips.Goals as goal

pub returns : goal.returns
returns c = record { members = option_members_lem; order = options_increase_lem }
