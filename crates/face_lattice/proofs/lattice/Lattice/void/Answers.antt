use Rattle.std.proofs.Common.{[], ◌∷◌, refl, subst, sym, arith}
use Rattle.face_lattice.specs.Lattice.{IsRoomOf}
use Rattle.face_lattice.specs.Slots.{cell_at}
use Rattle.face_lattice.proofs.LatticeLaws.{void_kept}
use Rattle.face_lattice.proofs.NeedLaws.{none_idle}
use Rattle.face_lattice.proofs.PlaceLaws.{no_room}
use Rattle.face_lattice.proofs.lattice.Lattice.void.Goals as goal

pub invariant_of-result : goal.invariant_of-result
invariant_of-result c = record {
  kept = (void_kept c.new.result _ c.new.ensures refl refl).kept;
  ready = subst (λ r. IsRoomOf r (cell_at c.new.result)) (sym c.new-2.ensures.items) (no_room (cell_at c.new.result));
  wide = omega (arith, c.in_ok-places.ensures.capacity);
  needed = none_idle c.new.result _ c.new.ensures;
}

pub returns-clause-facets : goal.returns-clause-facets
returns-clause-facets c = (void_kept c.new.result (0 ∷ 0 ∷ 0 ∷ 0 ∷ 0 ∷ 0 ∷ 0 ∷ 0 ∷ 0 ∷ 0 ∷ 0 ∷ 0 ∷ 0 ∷ []) c.new.ensures refl refl).facets
