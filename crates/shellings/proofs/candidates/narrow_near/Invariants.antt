use Rattle.shellings.specs.Placement.{IsSearched}
use Rattle.shellings.proofs.NearLaws.{AreNarrowedTo}
use Rattle.shellings.proofs.candidates.narrow_near.Given as goal

abbrev pub invariant-loop-label : goal.invariant-loop-label
invariant-loop-label l = record {
  searched : IsSearched l.initial.placement l.placement;
  narrowed : AreNarrowedTo l.facets l.g l.label-index l.initial.candidates l.candidates;
}
