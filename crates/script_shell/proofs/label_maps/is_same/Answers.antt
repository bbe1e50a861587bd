use Rattle.std.proofs.Common.{◌∙◌}
use Rattle.facet_set.proofs.GeneratedLaws.{same_is}
use Rattle.script_shell.proofs.label_maps.is_same.Goals as goal

pub returns : goal.returns
returns c = c.eq.ensures ∙ same_is c.args.s.now c.args.t.now
