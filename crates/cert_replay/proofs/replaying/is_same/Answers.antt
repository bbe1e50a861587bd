use Rattle.std.proofs.Common.{◌∙◌}
use Rattle.std.specs.Cmp.Lexicographic.{pointwise}
use Rattle.facet_set.proofs.GeneratedLaws.{same}
use Rattle.cert_replay.proofs.TestLaws.{same_is_same}
use Rattle.cert_replay.proofs.replaying.is_same.Goals as goal

pub returns : goal.returns
returns c = c.eq.ensures ∙ (λ i. pointwise same (c.as_slice.ensures.value i) (c.as_slice-2.ensures.value i)) ∙ same_is_same c.args.c.now c.args.d.now
