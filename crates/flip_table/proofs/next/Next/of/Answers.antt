use Rattle.std.proofs.Common.{◌+◌, ◌-◌, length, ap, sym, ◌∙◌}
use Rattle.std.proofs.lemmas.List.FromFn.{length-map-range_with_len}
use Rattle.facet_set.specs.Numbers.{size}
use Rattle.flip_rules.specs.Candidates.{candidates}
use Rattle.flip_table.specs.Following.{next_lists}
use Rattle.flip_table.specs.Kept.{candidate_lists, new_point}
use Rattle.flip_table.proofs.FollowingLaws.{lists_follow, size_same}
use Rattle.flip_table.proofs.PointLaws.{same_point}
use Rattle.flip_table.proofs.next.Next.of.Goals as goal

pub next_lists-requires : goal.next_lists-requires
next_lists-requires c =
    let m = c.args.flip.now in
    ap length c.requires.candidates
    ∙ length-map-range_with_len (λ k. candidates c.args.c.now (k + 1)) 0 (size c.args.c.now - 1)
    ∙ ap (λ n. n - 1) (sym (ap size c.in_ok-present.ensures.value ∙ size_same c.args.c.now m c.as_slice-facets.ensures.simplices c.as_slice-facets.ensures.complex c.inverse-back.ensures.a c.inverse-back.ensures.b c.requires.allowed))

pub next_point-requires : goal.next_point-requires
next_point-requires c la lb =
    let m = c.args.flip.now in
    c.requires.point
    ∙ same_point c.args.c.now m c.as_slice-facets.ensures.simplices c.as_slice-facets.ensures.complex c.inverse-back.ensures.a c.inverse-back.ensures.b c.requires.allowed la lb
    ∙ ap new_point (sym c.in_ok-present.ensures.value)

pub returns-clause-next : goal.returns-clause-next
returns-clause-next c =
    let m = c.args.flip.now in
    let e = c.in_ok-present.ensures.value in
    record {
      passes = c.requires.passes;
      flipped = e;
      inverse_allowed = c.in_ok-present.ensures.back.0;
      inverse_back = c.in_ok-present.ensures.back.1;
      candidates =
          c.in_ok-candidates.ensures
          ∙ (λ z. next_lists m (e z) (c.requires.candidates z))
          ∙ lists_follow c.args.c.now m c.as_slice-facets.ensures.simplices c.as_slice-facets.ensures.complex c.inverse-back.ensures.a c.inverse-back.ensures.b c.requires.allowed
          ∙ ap candidate_lists (sym e);
      pointed = c.in_ok-point.ensures;
    }
