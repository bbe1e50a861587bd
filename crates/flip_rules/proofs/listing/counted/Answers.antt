use Rattle.std.proofs.Common.{◌≡◌, ◌+◌, ◌-◌, ◌≤◌, length, ap, subst, ◌∙◌}
use Rattle.std.specs.Prelude.{◌==◌}
use Rattle.std.specs.List.{filter, filter_map}
use Rattle.indexmap.specs.IndexMap.{get, keys}
use Rattle.facet_set.specs.Complex.{simplices}
use Rattle.facet_set.specs.Numbers.{size, faces_of_size}
use Rattle.flip_rules.specs.declared.tallies.Sizes.{Sizes}
use Rattle.flip_rules.specs.Tallies.{same, candidate_at, AreTalliesOf}
use Rattle.flip_rules.proofs.ExchangeLaws.{candidates_are}
use Rattle.flip_rules.proofs.TallyLaws.{keys_are}
use Rattle.flip_rules.proofs.listing.counted.Goals as goal

pub returns : goal.returns
returns c =
    let cs = c.args.c.now in
    let i = c.args.class in
    let z : Sizes = record { gone = size cs - i; come = i + 1 } in
    let ts = c.in_ok-tallies.tallies in
    let are : AreTalliesOf cs z ts = subst (λ fs. AreTalliesOf fs z ts) c.as_slice.ensures.value (subst (λ n. AreTalliesOf c.as_slice.result.now (record { gone = n - i; come = i + 1 }) ts) c.size.ensures.value c.in_ok-tallies.ensures) in
    let faces : c.deref.result.now ≡ faces_of_size cs (size cs - i) =
    c.deref.ensures.value ∙ c.in_ok-faces.ensures ∙ ap (λ n. simplices (filter (λ s. length s == n - i) (keys ts))) c.size.ensures.value ∙ keys_are cs z ts c.as_slice.ensures.simplices are in
    c.from_vec.ensures
    ∙ c.in_ok-found.ensures
    ∙ ap (filter_map (candidate_at (get same ts) (i + 1))) faces
    ∙ candidates_are cs c.as_slice.ensures.simplices c.as_slice.ensures.complex c.requires.pure (subst (λ n. n ≤ 12) c.size.ensures.value c.size.ensures.bound) i c.requires.below (get same ts) are
