use Rattle.std.proofs.Common.{◌∙◌, ap, ℕ}
use Rattle.std.specs.List.{list_all}
use Rattle.simplex.specs.Simplex.{is_label}
use Rattle.constructions.proofs.GluingLaws.{partner_labels}
use Rattle.constructions.proofs.gluing.handled.Goals as goal

pub image-requires : goal.image-requires
image-requires c = ap (list_all (λ (p : ℕ × ℕ). is_label p.1)) (c.deref-3.ensures.value ∙ c.in_ok-zipped.ensures) ∙ partner_labels c.args.g.now c.args.f.now c.requires.f
