use Rattle.std.proofs.Common.{List, ℕ, subst}
use Rattle.relabelling.specs.Ridges.{TellsEnds}
use Rattle.relabelling.proofs.extending.Ways.new.Goals as goal

pub returns-clause-ways : goal.returns-clause-ways
returns-clause-ways c = record {
  simplices = c.as_slice-facets.ensures.simplices;
  complex = c.as_slice-facets.ensures.complex;
  closed = c.requires;
  d_simplices = c.as_slice-targets.ensures.simplices;
  c_told = subst (λ (l : List (List ℕ)). TellsEnds c.in_ok-c_ends.c_ends l) c.as_slice-facets.ensures.value c.in_ok-c_ends.ensures;
  d_told = subst (λ (l : List (List ℕ)). TellsEnds c.in_ok-d_ends.d_ends l) c.as_slice-targets.ensures.value c.in_ok-d_ends.ensures;
}
