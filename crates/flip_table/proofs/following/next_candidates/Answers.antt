use Rattle.std.proofs.Common.{◌≡◌, ◌-◌, ◌<◌, List, map, not, ap, subst, ◌∙◌, arith}
use Rattle.std.specs.List.{filter}
use Rattle.std.specs.Prelude.{nat_le}
use Rattle.std.specs.Result.{IfOk}
use Rattle.facet_set.specs.Complex.{generated}
use Rattle.facet_set.specs.Numbers.{size}
use Rattle.flip_rules.specs.declared.candidate.Candidate.{Candidate}
use Rattle.flip_rules.specs.Candidates.{candidates}
use Rattle.flip_table.specs.Following.{shared, near, is_inside, stayed, seen_in, merged}
use Rattle.flip_table.proofs.FollowingLaws.{nearer, some_facets}
use Rattle.flip_table.proofs.following.next_candidates.Goals as goal

pub returns : goal.returns
returns c =
    let m = c.args.flip.now in
    let d = c.args.next.now in
    let i = c.args.class in
    let some : 0 < size d - i = omega (arith, c.requires.below) in
    let facets : c.deref.result.now ≡ near m (size d - i) d =
    c.deref.ensures.value ∙ c.in_ok-nearer.ensures ∙ (λ z. near m (c.size.ensures.value z - i) (c.requires.around z)) ∙ nearer m (size d - i) d some in
    let found : c.as_slice.result.now ≡ candidates (near m (size d - i) d) i =
    c.as_slice.ensures
    ∙ c.in_ok-found.ensures
    ∙ ap (λ l. candidates l i) (c.in_ok-nearer-2.ensures ∙ ap generated facets ∙ some_facets (λ s. nat_le (size d - i) (shared m s)) d c.requires.complex) in
    let outer : c.deref-2.result.now ≡ map (stayed m) (filter (λ n. not (is_inside m n)) c.args.list.now) = c.deref-2.ensures.value ∙ c.in_ok-outside.ensures in
    let inner : c.deref-3.result.now ≡ map (seen_in d) (filter (is_inside m) (candidates (near m (size d - i) d) i)) =
    c.deref-3.ensures.value ∙ c.in_ok-inside.ensures ∙ ap (λ l. map (seen_in d) (filter (is_inside m) l)) found in
    subst (λ (l : List Candidate). IfOk c.merged.result (λ r. r ≡ l)) (λ z. merged (outer z) (inner z)) c.merged.ensures
