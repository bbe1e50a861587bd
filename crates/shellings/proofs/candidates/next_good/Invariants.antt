use Rattle.std.proofs.Common.{◌≡◌, ℕ, ◌<◌, false, [], get_or}
use Rattle.shellings.specs.Candidates.{AreKept}
use Rattle.shellings.specs.Placement.{IsSearched}
use Rattle.shellings.specs.Shellings.{is_good}
use Rattle.shellings.proofs.candidates.next_good.Given as goal

abbrev pub invariant-loop-i : goal.invariant-loop-i
invariant-loop-i l = record {
  searched : IsSearched l.initial.placement l.placement;
  kept : AreKept l.facets l.initial.placement.order l.candidates;
  none : (j : ℕ) → j < l.i → is_good l.facets l.initial.placement.order (get_or l.facets j []) ≡ false;
}
