use Rattle.std.proofs.Common.{◌≡◌, ◌∙◌, map, ap}
use Rattle.facet_set.proofs.GeneratedLaws.{if_ok}
use Rattle.cert_replay.proofs.CornerLaws.{Corner, all_between}
use Rattle.cert_replay.proofs.corners.all_facets.Goals as goal

pub returns : goal.returns
returns c =
    let xs = c.args.corners.now.keys in
    if_ok (λ v. v.items ≡ map (λ (p : Corner). p.1) c.range.result) (λ v. v.items ≡ map (λ (p : Corner). p.1) xs) c.facets_in.result
    (λ v e. e ∙ ap (map (λ (p : Corner). p.1)) (c.range.ensures.between tt ∙ all_between xs)) c.facets_in.ensures
