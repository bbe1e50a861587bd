use Rattle.std.proofs.Common.{◌≡◌, [], Some, false, true, sym, ap, ◌∙◌, append-nil, is_some}
use Rattle.std.specs.Prelude.{flat_map}
use Rattle.script_text.specs.Fronts.{before}
use Rattle.script_text.specs.Grammar.{parts_of, part_tokens, form_tokens}
use Rattle.script_text.specs.Tokens.{tokens}
use Rattle.script_text.proofs.PartLaws.{none_first, none_next, too_many, next_part, next_normal}
use Rattle.script_text.proofs.PieceLaws.{over, over_only}
use Rattle.script_text.proofs.parts.read_form.Goals as goal

pub returns-in_default-clause-none : goal.returns-in_default-clause-none
returns-in_default-clause-none c e = none_first _ (c.in_ok-first.ensures.none (ap is_some c.in_default.is))

pub returns-in_default-2-clause-none : goal.returns-in_default-2-clause-none
returns-in_default-2-clause-none c e = none_next (parts_of c.parts.form) _ (tokens c.parts.rest.now) c.parts.invariant.0 more (c.in_ok-part.ensures.none (ap is_some c.in_default-2.is))
  where
    more : tokens c.parts.rest.now ≡ Some [] → ⊥
    more h = let b : false ≡ true = sym c.parts-test.true ∙ c.is_blank.ensures ∙ over_only c.parts.rest.now h in cc

pub returns-in_default-with-clause-none : goal.returns-in_default-with-clause-none
returns-in_default-with-clause-none c e =
    too_many c.parts.form c.in-Some-2.part _ (tokens c.parts.rest.now) (tokens c.in-Some-2.next.now) c.parts.invariant.0
    (rw c.in-Some-2.is at c.in_ok-part.ensures.some) c.in_default-with.ensures

pub parts-preserved : goal.parts-preserved
parts-preserved c = (
  next_part (parts_of c.parts.form) _ c.in-Some-2.part _ (tokens c.parts.rest.now) _ c.in-Some-with.ensures c.parts.invariant.0 (rw c.in-Some-2.is at c.in_ok-part.ensures.some),
  next_normal (parts_of c.parts.form) _ c.in-Some-2.part c.in-Some-with.ensures c.parts.invariant.1 (rw c.in-Some-2.is at c.in_ok-part.ensures.normal),
)

pub returns-clause-some : goal.returns-clause-some
returns-clause-some c =
    c.parts.invariant.0 ∙ ap (before (flat_map part_tokens (parts_of c.parts.form))) (over c.parts.rest.now (sym c.is_blank.ensures ∙ c.parts-test.false))
    ∙ ap Some (append-nil (form_tokens c.parts.form))
