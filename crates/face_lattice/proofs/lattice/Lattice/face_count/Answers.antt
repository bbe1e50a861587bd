use Rattle.std.proofs.Common.{ap, ◌∙◌, arith}
use Rattle.std.specs.Option.{unwrap_or}
use Rattle.facet_set.specs.Numbers.{face_count}
use Rattle.face_lattice.specs.Lattice.{LatticeState}
use Rattle.face_lattice.proofs.lattice.Lattice.face_count.Goals as goal

pub returns : goal.returns
returns c =
    c.unwrap_or.ensures
    ∙ ap (λ o. unwrap_or o 0) c.copied.ensures
    ∙ c.get.ensures.lookup.4 (omega arith) 0
    ∙ c.self.invariant.kept.counts_are c.args.size
    ∙ ap (λ (l : LatticeState). face_count l.facets c.args.size) c.self.view_is
