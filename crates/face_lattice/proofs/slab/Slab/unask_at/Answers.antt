use Rattle.std.proofs.Common.{ap, refl, ◌∙◌, arith}
use Rattle.face_lattice.specs.Slots.{id_of}
use Rattle.face_lattice.proofs.SlabLaws.{slab_set}
use Rattle.face_lattice.proofs.slab.Slab.unask_at.Goals as goal

pub index_mut-requires : goal.index_mut-requires
index_mut-requires c =
    let led = c.self.invariant.led c.requires.0 c.args.id (ap (λ v. id_of v c.requires.0) c.self.view_is ∙ c.requires.1) in
    omega (arith, led.within, c.self.inside.slots.ok.0)

pub invariant_of-self : goal.invariant_of-self
invariant_of-self c = slab_set _ c.self.inside.slots.items _ _ c.args.id c.index_mut.result.now _ c.self.invariant c.index_mut.ensures.value refl refl
