use Rattle.indexmap.specs.IndexMap.{get}
use Rattle.facet_set.proofs.FaceNumbers.{AreAfter}
use Rattle.flip_rules.specs.Tallies.{same, is_sized, put_facet}
use Rattle.flip_rules.proofs.tallies.add_facet.Given as goal

abbrev pub invariant-loop-mask : goal.invariant-loop-mask
invariant-loop-mask l = AreAfter put_facet (is_sized l.sizes) l.facet l.mask (get same l.initial.tallies) (get same l.tallies)
