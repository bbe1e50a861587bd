use Rattle.std.proofs.Common.{◌∙◌, ap, arith}
use Rattle.facet_set.specs.Numbers.{size}
use Rattle.face_lattice.specs.Lattice.{LatticeState}
use Rattle.face_lattice.proofs.KeyLaws.{size_is}
use Rattle.face_lattice.proofs.lattice.Lattice.size.Goals as goal

pub returns-clause-value : goal.returns-clause-value
returns-clause-value c = size_is _ c.self.inside.counts c.loop-n.size c.self.invariant.kept.simplices c.self.invariant.kept.counts_are (λ m l k. c.loop-n.invariant.all m (omega (arith, l, c.loop-n-test.false)) k) c.loop-n.invariant.some ∙ ap (λ (l : LatticeState). size l.facets) c.self.view_is
