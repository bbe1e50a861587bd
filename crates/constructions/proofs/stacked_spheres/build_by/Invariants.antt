use Rattle.std.proofs.Common.{◌≡◌, ◌+◌, ◌-◌, ◌*◌, true, length}
use Rattle.facet_set.specs.Flips.{after}
use Rattle.seeded_words.specs.Words.{words_from}
use Rattle.simplex.specs.InOrder.{is_increasing}
use Rattle.simplex.specs.Simplex.{simplex_cmp}
use Rattle.constructions.specs.Stacked.{stackings, stacked}
use Rattle.constructions.proofs.StackedLaws.{IsStack}
use Rattle.constructions.proofs.stacked_spheres.build_by.Given as goal

abbrev pub invariant-loop-k : goal.invariant-loop-k
invariant-loop-k g l = record {
  value : after l.facets.members (stackings l.facets.members (words_from (l.n - l.k) l.words)) ≡ stacked l.d l.n l.fn.seed;
  stack : IsStack l.d (l.d + 2 + l.k) l.facets.members;
  count : length l.facets.members ≡ l.d + 2 + l.d * l.k;
  rising : is_increasing simplex_cmp l.facets.members ≡ true;
}
