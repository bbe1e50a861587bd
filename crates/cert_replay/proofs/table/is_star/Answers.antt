use Rattle.std.proofs.Common.{◌∙◌, ap}
use Rattle.facet_set.specs.Star.{is_counted_star}
use Rattle.cert_replay.specs.Corners.{facets_of}
use Rattle.cert_replay.proofs.CornerLaws.{counted_at}
use Rattle.cert_replay.proofs.table.is_star.Goals as goal

pub returns : goal.returns
returns c =
    let a = c.args.flip.now.a in
    let b = c.args.flip.now.b in
    c.is_counted_star.ensures ∙ ap (λ l. is_counted_star l a b) (c.deref.ensures.value ∙ c.in_ok-around.ensures) ∙ counted_at (facets_of c.args.corners.now.keys) c.rare_label-label.result a b c.rare_label-label.ensures.member
