use Rattle.std.proofs.Common.{◌++◌, ◌∷◌, [], get_or, length, refl}
use Rattle.relabelling.specs.Colours.{colour}
use Rattle.relabelling.proofs.LeadLaws.{marks_kept, refined_kept, refined_nowhere}
use Rattle.relabelling.proofs.search.told.Goals as goal

pub returns-then-not-fits-clause-apart : goal.returns-then-not-fits-clause-apart
returns-then-not-fits-clause-apart c =
    refined_nowhere c.args.sought.now.c.now c.args.sought.now.d.now (c.args.images.now ++ c.args.target ∷ []) (colour c.in_ok-of_c.of_c) (colour c.in_ok-of_d.of_d)
    (marks_kept c.args.sought.now.c.now c.args.sought.now.d.now c.args.sought.now.vertices.now c.args.images.now (get_or c.args.sought.now.vertices.now (length c.args.images.now) 0) c.args.target c.requires.vertices c.requires.room refl
    (colour c.args.colours.now.of_c) (colour c.args.colours.now.of_d) c.requires.kept (colour c.in_ok-of_c.of_c) (colour c.in_ok-of_d.of_d) c.in_ok-of_c.ensures c.in_ok-of_d.ensures)
    (c.in_ok-fits.ensures.apart c.if-not-fits.true)

pub returns-clause-kept : goal.returns-clause-kept
returns-clause-kept c =
    refined_kept c.args.sought.now.c.now c.args.sought.now.d.now (c.args.images.now ++ c.args.target ∷ []) (colour c.in_ok-of_c.of_c) (colour c.in_ok-of_d.of_d) (colour c.refine.new.colours.of_c) (colour c.refine.new.colours.of_d)
    (marks_kept c.args.sought.now.c.now c.args.sought.now.d.now c.args.sought.now.vertices.now c.args.images.now (get_or c.args.sought.now.vertices.now (length c.args.images.now) 0) c.args.target c.requires.vertices c.requires.room refl
    (colour c.args.colours.now.of_c) (colour c.args.colours.now.of_d) c.requires.kept (colour c.in_ok-of_c.of_c) (colour c.in_ok-of_d.of_d) c.in_ok-of_c.ensures c.in_ok-of_d.ensures)
    c.in_ok-fits.ensures.kept
