use Rattle.std.proofs.Common.{◌*◌, ◌-◌, length}
use Rattle.shellings.proofs.PlaceLaws.{NoneFrom}
use Rattle.shellings.proofs.place_set.PlaceSet.next.Given as goal

abbrev pub invariant-loop-place : goal.invariant-loop-place
invariant-loop-place l = NoneFrom l.self.words.items l.from l.place

abbrev pub decreases-loop-place : goal.decreases-loop-place
decreases-loop-place l = 64 * length l.self.words.items - l.place
