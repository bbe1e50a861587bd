use Rattle.std.proofs.Common.{sym, subst}
use Rattle.verdicts.specs.Ready.{IsReady}
use Rattle.verdicts.proofs.VertexLinks.{link_ready, vertex_label, vertex_face}
use Rattle.verdicts.proofs.manifolds.walk_on_link.Goals as goal

pub link_of-requires-clause-label : goal.link_of-requires-clause-label
link_of-requires-clause-label c = vertex_label c.args.c.now c.args.vertex c.requires.ready.start c.requires.ready.pure c.requires.vertex

pub link_of-requires-clause-face : goal.link_of-requires-clause-face
link_of-requires-clause-face c = vertex_face c.args.c.now c.args.vertex c.requires.ready.start c.requires.ready.pure c.requires.vertex

pub walk_from-requires : goal.walk_from-requires
walk_from-requires c =
    subst (λ d. IsReady 1 d c.args.budget) (sym c.in_ok-link.ensures) (link_ready c.args.c.now c.args.vertex c.requires.ready.start c.requires.ready.pure c.requires.vertex c.args.budget c.requires.ready.room)
