use Rattle.std.proofs.Common.{◌≡◌, ◌<◌, ◌≤◌, [], length, get_or, nat_lt, ap, ◌∙◌, arith}
use Rattle.std.specs.Prelude.{◌&&◌}
use Rattle.simplex.specs.Simplex.{is_within, without}
use Rattle.shellings.proofs.NearLaws.{found_below, narrowed_all, narrowed_more, ridge_within}
use Rattle.shellings.proofs.PlacementLaws.{searched_again, still_placement}
use Rattle.shellings.proofs.RidgeLaws.{stands_at}
use Rattle.shellings.proofs.StarLaws.{read_self}
use Rattle.shellings.proofs.candidates.narrow_near.Goals as goal

pub find_cofaces-requires-clause-vertices : goal.find_cofaces-requires-clause-vertices
find_cofaces-requires-clause-vertices c =
    let known = still_placement c.args.facets.now c.args.placement.now c.loop-label.placement c.loop-label.invariant.searched c.requires.placement in
    ridge_within c.args.facets.now c.args.g.now c.without.result c.loop-label.placement.stars.labels _ (stands_at c.args.facets.now c.args.g.now c.requires.facet) known.labels c.without.ensures.value

pub narrow_found-requires-clause-inside : goal.narrow_found-requires-clause-inside
narrow_found-requires-clause-inside c =
    let known = still_placement c.args.facets.now c.args.placement.now c.loop-label.placement c.loop-label.invariant.searched c.requires.placement in
    λ k e. found_below k (length c.args.facets.now) _ _ (c.find_cofaces.ensures.value c.args.facets.now known k) e

pub loop-label-preserved : goal.loop-label-preserved
loop-label-preserved c =
    let facets = c.args.facets.now in
    let g = c.args.g.now in
    let p = c.loop-label.label-index in
    let items = c.labels-label-items.ensures.value in
    let long = ap length items in
    let below : p < length g = omega (arith, long) in
    let known = still_placement facets c.args.placement.now c.loop-label.placement c.loop-label.invariant.searched c.requires.placement in
    let ridge : c.without.result ≡ without g (get_or g p 0) = c.without.ensures.value ∙ ap (λ l. without g (get_or l p 0)) items in
    record {
      searched = searched_again c.args.placement.now c.loop-label.placement c.find_cofaces.new.self c.loop-label.invariant.searched c.find_cofaces.ensures.searched;
      narrowed = narrowed_more facets g c.find_cofaces.new.self.found.words.items p (get_or g p 0) c.args.candidates.now c.loop-label.candidates c.narrow_found.new.candidates below (read_self g p below)
          (λ i. c.find_cofaces.ensures.value facets known i ∙ ap (λ s. nat_lt i (length facets) && is_within s (get_or facets i [])) ridge) c.narrow_found.ensures c.loop-label.invariant.narrowed;
    }

pub returns-clause-narrowed : goal.returns-clause-narrowed
returns-clause-narrowed c =
    let long = ap length c.labels-label-items.ensures.value in
    let end : length c.args.g.now ≤ c.loop-label.label-index = omega (arith, long) in
    narrowed_all c.args.facets.now c.args.placement.now.order c.args.g.now c.loop-label.label-index c.args.candidates.now c.loop-label.candidates c.requires.setting c.requires.facet end c.loop-label.invariant.narrowed
