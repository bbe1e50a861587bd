use Rattle.std.proofs.Common.{ℕ, ◌∙◌, ap}
use Rattle.std.specs.List.{list_all}
use Rattle.simplex.specs.Simplex.{is_label}
use Rattle.cert_replay.proofs.TestLaws.{second_labels}
use Rattle.cert_replay.proofs.replaying.test_equivalent.Goals as goal

pub image-requires : goal.image-requires
image-requires c = ap (list_all (λ (p : ℕ × ℕ). is_label p.1)) c.as_slice-4.ensures ∙ second_labels c.args.map.now c.requires
