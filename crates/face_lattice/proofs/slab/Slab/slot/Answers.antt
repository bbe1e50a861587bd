use Rattle.std.proofs.Common.{ap, ◌∙◌, arith}
use Rattle.face_lattice.specs.Slots.{id_of}
use Rattle.face_lattice.proofs.slab.Slab.slot.Goals as goal

pub index-requires : goal.index-requires
index-requires c =
    let led = c.self.invariant.led c.requires.0 c.args.id (ap (λ v. id_of v c.requires.0) c.self.view_is ∙ c.requires.1) in
    omega (arith, led.within, c.self.inside.slots.ok.0)
