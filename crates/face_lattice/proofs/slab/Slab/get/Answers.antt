use Rattle.std.proofs.Common.{sym, arith}
use Rattle.face_lattice.proofs.slab.Slab.get.Goals as goal

pub index-requires : goal.index-requires
index-requires c = let led = c.self.invariant.led c.args.s.now c.in-Some.id.now (sym c.in-Some.ensures.value) in omega (arith, led.within, c.self.inside.slots.ok.0)
