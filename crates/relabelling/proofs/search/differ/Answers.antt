use Rattle.std.proofs.Common.{◌∙◌, get_or, length, refl, sym}
use Rattle.std.specs.Prelude.{◌==◌}
use Rattle.simplex.proofs.Decided.{false_at, not_true, equal_from}
use Rattle.relabelling.specs.Colours.{colour}
use Rattle.relabelling.proofs.LeadLaws.{apart_nowhere}
use Rattle.relabelling.proofs.search.differ.Goals as goal

pub returns : goal.returns
returns c = λ d.
    apart_nowhere c.args.sought.now.c.now c.args.sought.now.d.now c.args.sought.now.vertices.now c.args.images.now (get_or c.args.sought.now.vertices.now (length c.args.images.now) 0) c.args.target c.requires.vertices c.requires.room refl
    (colour c.args.colours.now.of_c) (colour c.args.colours.now.of_d) c.requires.kept
    (λ e. false_at (c.colour-own.result == c.colour-other.result) (not_true (c.colour-own.result == c.colour-other.result) d) (equal_from c.colour-own.result c.colour-other.result (c.colour-own.ensures ∙ e ∙ sym c.colour-other.ensures)))
