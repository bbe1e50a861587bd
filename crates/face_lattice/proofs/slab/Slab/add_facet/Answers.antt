use Rattle.std.proofs.Common.{ap}
use Rattle.face_lattice.proofs.SlabLaws.{slab_set}
use Rattle.face_lattice.proofs.slab.Slab.add_facet.Goals as goal

pub invariant_of-self : goal.invariant_of-self
invariant_of-self c = slab_set _ c.self.inside.slots.items _ _ c.args.id c.index_mut.result.now c.add_facet.new.self c.self.invariant c.index_mut.ensures.value (ap (λ w. w.face) c.add_facet.ensures) (ap (λ w. w.used) c.add_facet.ensures)
