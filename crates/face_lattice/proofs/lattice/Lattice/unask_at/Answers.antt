use Rattle.std.proofs.Common.{cond, sym, ap, ◌∙◌}
use Rattle.simplex.specs.Simplex.{without}
use Rattle.face_lattice.specs.Lattice.{askers_in}
use Rattle.face_lattice.proofs.IdLaws.{has_is_same}
use Rattle.face_lattice.proofs.lattice.Lattice.unask_at.Goals as goal

pub returns-clause-asked : goal.returns-clause-asked
returns-clause-asked c =
    let old = c.args.self.now in
    λ s. c.unask.ensures.asked s ∙ ap (λ b. cond b (without (askers_in old s) c.args.asker) (askers_in old s)) (sym (has_is_same old c.simplex_of-face.result c.args.id c.requires.0 c.requires.1 c.simplex_of-face.ensures.value s))
