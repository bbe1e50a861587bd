use Rattle.std.proofs.Common.{◌≡◌, ℕ, ◌+◌, ◌<◌, ◌≤◌, false, not, [], length, get_or, refl, sym, ap, ◌∙◌, subst, arith}
use borrow.Author.Count.{below_more}
use Rattle.shellings.specs.Candidates.{AreKept}
use Rattle.shellings.specs.Placement.{IsSearched}
use Rattle.shellings.specs.Shellings.{is_good}
use Rattle.shellings.proofs.GreedyLaws.{all_closed, find_at, find_none}
use Rattle.shellings.proofs.NearLaws.{good_when, rest_within}
use Rattle.shellings.proofs.PlacementLaws.{searched_again, still_placement}
use Rattle.shellings.proofs.StarLaws.{read_in}
use Rattle.shellings.proofs.candidates.next_good.Goals as goal
use Rattle.shellings.proofs.candidates.next_good.Goals.{then-candidates-i+else-not-is_covered, else-candidates-i}

pub is_covered-requires-clause-vertices : goal.is_covered-requires-clause-vertices
is_covered-requires-clause-vertices c =
    let facets = c.args.facets.now in
    let i = c.loop-i.i in
    let known = still_placement facets c.args.placement.now c.loop-i.placement c.loop-i.invariant.searched c.requires.placement in
    rest_within facets c.index-facets-i.result _ c.minus.result c.loop-i.placement.stars.labels (read_in facets i c.index-facets-i.result (omega arith) c.index-facets-i.is) known.labels c.minus.ensures.value

pub returns-then-not-is_covered-clause-value : goal.returns-then-not-is_covered-clause-value
returns-then-not-is_covered-clause-value c =
    let facets = c.args.facets.now in
    let l = c.args.placement.now.order in
    let i = c.loop-i.i in
    let within : i < length facets = omega arith in
    let known = still_placement facets c.args.placement.now c.loop-i.placement c.loop-i.invariant.searched c.requires.placement in
    let good = good_when facets l c.loop-i.placement.order i c.index-facets-i.result c.minus.result c.loop-i.candidates c.index-candidates-i-then-candidates-i.result c.is_covered.result
    c.requires.setting c.loop-i.invariant.kept within c.index-facets-i.is c.minus.ensures.value c.loop-i.invariant.searched.order (c.is_covered.ensures.value facets known) in
    sym (find_at (is_good facets l) facets i [] within c.loop-i.invariant.none (good ∙ ap not c.if-not-is_covered.true))

pub loop-i-preserved : goal.loop-i-preserved
loop-i-preserved c =
    let facets = c.args.facets.now in
    let l = c.args.placement.now.order in
    let i = c.loop-i.i in
    let within : i < length facets = omega arith in
    let known = still_placement facets c.args.placement.now c.loop-i.placement c.loop-i.invariant.searched c.requires.placement in
    let goes_on : is_good facets l (get_or facets i []) ≡ false → (j : ℕ) → j < i + 1 → is_good facets l (get_or facets j []) ≡ false =
    λ bad. below_more (λ j. is_good facets l (get_or facets j []) ≡ false) i c.loop-i.invariant.none bad in
    elim c.if-candidates-i.branch [
      | then-candidates-i+else-not-is_covered w ↦
          let good = good_when facets l c.loop-i.placement.order i w.index-facets-i.result w.minus.result c.loop-i.candidates w.index-candidates-i-then-candidates-i.result w.is_covered.result
          c.requires.setting c.loop-i.invariant.kept within w.index-facets-i.is w.minus.ensures.value c.loop-i.invariant.searched.order (w.is_covered.ensures.value facets known) in
          let bad : is_good facets l (get_or facets i []) ≡ false = good ∙ ap not w.if-not-is_covered.false in
          record {
            searched = subst (λ p. IsSearched c.args.placement.now p) (sym w.placement-is) (searched_again c.args.placement.now c.loop-i.placement w.is_covered.new.self c.loop-i.invariant.searched w.is_covered.ensures.searched);
            kept = subst (λ ks. AreKept facets l ks) (sym w.candidates-is)
                (all_closed facets l i c.loop-i.candidates _ w.index-candidates-i-then-candidates-i-2.result c.loop-i.invariant.kept within w.index-candidates-i-then-candidates-i-2.is refl bad);
            none = goes_on bad;
          }
      | else-candidates-i w ↦ record {
        searched = subst (λ p. IsSearched c.args.placement.now p) (sym w.placement-is) c.loop-i.invariant.searched;
        kept = subst (λ ks. AreKept facets l ks) (sym w.candidates-is) c.loop-i.invariant.kept;
        none = goes_on ((c.loop-i.invariant.kept.each i c.index-candidates-i.result within).closed w.if-candidates-i.false);
      }
    ]

pub returns-clause-value : goal.returns-clause-value
returns-clause-value c =
    let end : length c.args.facets.now ≤ c.loop-i.i = omega arith in
    sym (find_none (is_good c.args.facets.now c.args.placement.now.order) c.args.facets.now [] (λ j h. c.loop-i.invariant.none j (omega arith)))
