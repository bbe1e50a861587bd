use Rattle.std.proofs.Common.{◌≡◌, length, get_or, [], ◌∷◌, ◌++◌, Some, None, rules, sym, ap, ◌∙◌, subst, arith}
use Rattle.std.specs.Prelude.{◌==◌}
use Rattle.std.specs.Vec.{with_items}
use Rattle.std.proofs.lemmas.List.{with_items_is}
use Rattle.shellings.specs.Candidates.{AreKept}
use Rattle.shellings.specs.Greedy.{next_good, places}
use Rattle.shellings.specs.Placement.{IsPlacement}
use Rattle.shellings.specs.Shellings.{is_shelling}
use Rattle.shellings.proofs.GreedyLaws.{IsGrown, all_narrowed, grown_end, grown_more, whole_is}
use Rattle.shellings.proofs.greedy.greedy_of.Goals as goal
use Rattle.shellings.proofs.greedy.greedy_of.Goals.{else-loop-test, then-loop-test+in-None}

pub loop-preserved : goal.loop-preserved
loop-preserved c =
    let all = c.as_slice-facets.result.now in
    let l = c.next_good.new.placement.order in
    let k = c.in-Some.k in
    let facets : all ≡ c.args.c.now = c.as_slice-facets.ensures.value in
    let order : l ≡ c.loop.placement.order = c.in-Some.ensures.searched.order in
    let pushed : c.place.new.placement.order ≡ l ++ get_or all k [] ∷ [] = c.in_ok-place-in-Some.ensures.order in
    let grown : IsGrown all c.loop.counter l = rw (facets, order) c.loop.invariant.grown in
    let good : next_good all l ≡ Some (get_or all k []) = ap (next_good all) order ∙ sym c.in-Some.ensures.value in
    let count : length c.next_good.new.candidates ≡ c.loop.candidates.len = search rules in
    let same : c.deref_mut-in-Some.result.now ≡ c.next_good.new.candidates = c.deref_mut-in-Some.ensures.value ∙ with_items_is c.loop.candidates c.next_good.new.candidates count in
    let kept : AreKept all l c.deref_mut-in-Some.result.now = rw (same, order) c.in-Some.ensures.kept in
    let next = all_narrowed all l k c.deref_mut-in-Some.result.now c.place.new.candidates grown.part.setting c.in-Some.ensures.place kept c.in_ok-place-in-Some.ensures.narrowed in
    let placed : length c.place.new.candidates ≡ (with_items c.loop.candidates c.next_good.new.candidates).len = search rules in
    let items = with_items_is (with_items c.loop.candidates c.next_good.new.candidates) c.place.new.candidates placed in
    record {
      grown = rw (pushed, ← facets) (grown_more all c.loop.counter l (get_or all k []) grown good);
      placement = subst (λ f. IsPlacement f c.place.new.placement) facets c.in_ok-place-in-Some.ensures.placement;
      kept = rw (pushed, ← facets) (subst (λ ks. AreKept all (l ++ get_or all k [] ∷ []) ks) (sym items) next);
    }

pub returns-clause-value : goal.returns-clause-value
returns-clause-value c =
    let facets = ap length c.as_slice-facets.ensures.value in
    elim c.loop-test.branch [
      | else-loop-test w ↦
          let end : c.loop.counter ≡ length c.args.c.now = omega (arith, facets) in
          ap (λ p. p.order) w.placement-is ∙ c.loop.invariant.grown.is ∙ ap (places c.args.c.now) end
      | then-loop-test+in-None w ↦
          let none : next_good c.args.c.now c.loop.placement.order ≡ None =
          ap (λ f. next_good f c.loop.placement.order) (sym c.as_slice-facets.ensures.value) ∙ sym w.in-None.ensures.value in
          ap (λ p. p.order) w.placement-is ∙ w.in-None.ensures.searched.order
          ∙ grown_end c.args.c.now c.loop.counter (length c.args.c.now) c.loop.placement.order c.loop.invariant.grown none (omega (arith, facets))
    ]

pub returns-clause-whole : goal.returns-clause-whole
returns-clause-whole c =
    let same : c.loop-test.placement.order ≡ c.loop.placement.order = elim c.loop-test.branch [
      | else-loop-test w ↦ ap (λ p. p.order) w.placement-is
      | then-loop-test+in-None w ↦ ap (λ p. p.order) w.placement-is ∙ w.in-None.ensures.searched.order
    ] in
    whole_is c.args.c.now c.loop.counter c.loop.placement.order _ c.loop.invariant.grown
    (ap (λ n. n == length c.as_slice-facets.result.now) (c.len.ensures ∙ ap length same) ∙ ap (λ f. length c.loop.placement.order == length f) c.as_slice-facets.ensures.value)
    ∙ ap (is_shelling c.args.c.now) (sym same)
