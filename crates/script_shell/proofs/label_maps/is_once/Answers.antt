use Rattle.std.proofs.Common.{List, ℕ, length, ap, ◌∙◌}
use Rattle.std.specs.Prelude.{◌==◌}
use Rattle.facet_set.proofs.SetLaws.{distinct_test}
use Rattle.script_shell.proofs.label_maps.is_once.Goals as goal

pub returns : goal.returns
returns c = ap (λ (l : List ℕ). length l == length c.args.numbers.now) c.requires ∙ distinct_test c.args.numbers.now
