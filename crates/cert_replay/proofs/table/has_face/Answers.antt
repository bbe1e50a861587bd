use Rattle.std.proofs.Common.{◌∙◌, ap}
use Rattle.facet_set.specs.Complex.{is_face}
use Rattle.cert_replay.specs.Corners.{facets_of}
use Rattle.cert_replay.proofs.CornerLaws.{face_at_label}
use Rattle.cert_replay.proofs.table.has_face.Goals as goal

pub returns : goal.returns
returns c =
    let s = c.args.s.now in
    c.lies_in_one.ensures ∙ ap (λ l. is_face l s) (c.deref.ensures.value ∙ c.in_ok-around.ensures) ∙ face_at_label (facets_of c.args.corners.now.keys) c.rare_label-label.result s c.rare_label-label.ensures.member
