use Rattle.std.proofs.Common.{◌∙◌, ap, length}
use Rattle.std.specs.Prelude.{◌==◌}
use Rattle.facet_set.proofs.SetLaws.{distinct_test}
use Rattle.cert_replay.proofs.maps.is_distinct.Goals as goal

pub returns : goal.returns
returns c = ap (λ l. length l == length c.args.labels.now) (c.as_slice.ensures.value ∙ c.in_ok-set.ensures) ∙ distinct_test c.args.labels.now
