use Rattle.std.proofs.Common.{ap, map, sym, ◌∙◌}
use Rattle.std.specs.Prelude.{slice_get}
use Rattle.facet_set.specs.Flips.{options}
use Rattle.flip_rules.specs.Tallies.{flip_of}
use Rattle.flip_table.specs.Session.{Standing}
use Rattle.flip_table.proofs.KeptOptions.{no_point, pointed}
use Rattle.flip_table.proofs.session.Session.subdivision_at.Goals as goal

pub returns-in-None : goal.returns-in-None
returns-in-None c =
    ap (λ l. slice_get l c.args.k) (no_point c.self.inside.present (sym c.self.invariant.0.pointed ∙ c.in-None.is))
    ∙ ap (λ (s : Standing). slice_get (options s.present 0) c.args.k) c.self.view_is

pub returns-in-Some : goal.returns-in-Some
returns-in-Some c =
    let d = c.self.inside.present in
    let b = c.in-Some.b in
    c.subdivided.ensures
    ∙ ap (λ l. slice_get (map (λ a. flip_of a b) l) c.args.k) c.as_slice.ensures.value
    ∙ ap (λ l. slice_get l c.args.k) (pointed d c.as_slice.ensures.simplices c.as_slice.ensures.complex b (sym c.self.invariant.0.pointed ∙ c.in-Some.is))
    ∙ ap (λ (s : Standing). slice_get (options s.present 0) c.args.k) c.self.view_is
