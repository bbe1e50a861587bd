use Rattle.std.proofs.Common.{◌≡◌, ◌+◌}
use Rattle.facet_set.specs.Numbers.{size}
use Rattle.face_vectors.specs.Row.{entries}
use Rattle.shellings.proofs.CheckLaws.{IsChecked}
use Rattle.shellings.proofs.checking.check_shelling.Given as goal

abbrev pub invariant-loop-i : goal.invariant-loop-i
invariant-loop-i l = record {
  checked : IsChecked l.c l.order l.i (entries l.counts);
  len : l.counts.len ≡ size l.c + 1;
}
