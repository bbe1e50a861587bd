use Rattle.std.proofs.Common.{◌≡◌, ◌∙◌, map, ap}
use Rattle.std.specs.List.{filter}
use Rattle.simplex.specs.Simplex.{has}
use Rattle.std.proofs.lemmas.Cmp.{nat_list_cmp_total}
use Rattle.simplex.proofs.InOrderLaws.{is_increasing-in_order}
use Rattle.simplex.proofs.FaultLaws.{increasing_from_sorted}
use Rattle.facet_set.proofs.GeneratedLaws.{if_ok}
use Rattle.cert_replay.specs.Corners.{corner_cmp, facets_of}
use Rattle.cert_replay.proofs.CornerLaws.{Corner, at_is, between_is}
use Rattle.cert_replay.proofs.corners.facets_at.Goals as goal

pub returns : goal.returns
returns c =
    let xs = c.args.corners.now.keys in
    if_ok (λ v. v.items ≡ map (λ (p : Corner). p.1) c.range-here.result) (λ v. v.items ≡ filter (λ s. has s c.args.label) (facets_of xs)) c.facets_in.result
    (λ v e. e ∙ ap (map (λ (p : Corner). p.1)) (c.range-here.ensures.between tt ∙ between_is c.args.label xs)
    ∙ at_is (facets_of xs) xs c.args.label (is_increasing-in_order nat_list_cmp_total (map (λ (p : Corner). p.1) xs)) (increasing_from_sorted corner_cmp xs c.range-here.ensures.ordered) c.requires.corners)
    c.facets_in.ensures
