use Rattle.std.proofs.Common.{length, ap, sym, ◌∙◌}
use Rattle.std.proofs.lemmas.List.{length-map}
use Rattle.facet_set.specs.Flips.{options}
use Rattle.flip_rules.specs.Tallies.{flip_of}
use Rattle.flip_table.specs.Session.{Standing}
use Rattle.flip_table.proofs.KeptOptions.{no_point, pointed}
use Rattle.flip_table.proofs.session.Session.subdivision_count.Goals as goal

pub returns-in-Some : goal.returns-in-Some
returns-in-Some c =
    let d = c.self.inside.present in
    let b = c.in-Some.field-0 in
    ap length c.as_slice.ensures.value
    ∙ sym (length-map d (λ a. flip_of a b))
    ∙ ap length (pointed d c.as_slice.ensures.simplices c.as_slice.ensures.complex b (sym c.self.invariant.0.pointed ∙ c.in-Some.is))
    ∙ ap (λ (s : Standing). length (options s.present 0)) c.self.view_is

pub returns-in-None : goal.returns-in-None
returns-in-None c =
    ap length (no_point c.self.inside.present (sym c.self.invariant.0.pointed ∙ c.in-None.is))
    ∙ ap (λ (s : Standing). length (options s.present 0)) c.self.view_is
