use Rattle.std.proofs.Common.{◌≡◌, ◌≤◌, ◌<◌, ◌-◌, ℕ, true, false, [], length, get_or}
use Rattle.shellings.specs.declared.candidates.Candidate.{Candidate}
use Rattle.shellings.specs.Candidates.{IsNarrowed}
use Rattle.shellings.specs.Places.{is_one}
use Rattle.shellings.proofs.candidates.narrow_found.Given as goal

abbrev pub invariant-loop-i : goal.invariant-loop-i
invariant-loop-i l = record {
  whole : length l.candidates ≡ length l.initial.candidates;
  within : l.from ≤ length l.facets;
  done : (i : ℕ) (k : Candidate) → i < l.from → is_one l.found.words.items i ≡ true → IsNarrowed (get_or l.facets i []) l.g (get_or l.initial.candidates i k) (get_or l.candidates i k);
  missed : (i : ℕ) (k : Candidate) → is_one l.found.words.items i ≡ false → get_or l.candidates i k ≡ get_or l.initial.candidates i k;
  rest : (i : ℕ) (k : Candidate) → l.from ≤ i → get_or l.candidates i k ≡ get_or l.initial.candidates i k;
}

abbrev pub decreases-loop-i : goal.decreases-loop-i
decreases-loop-i l = length l.facets - l.from
