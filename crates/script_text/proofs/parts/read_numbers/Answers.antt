use Rattle.std.proofs.Common.{List, ℕ, refl, sym, ap, ◌∙◌, arith, map}
use Rattle.script_text.specs.Grammar.{closed}
use Rattle.script_text.specs.Fronts.{before, number}
use Rattle.script_text.specs.Tokens.{tokens}
use Rattle.script_text.proofs.PartLaws.{followed, no_item, no_divider, last_item, next_item, number_apart}
use Rattle.script_text.proofs.parts.read_numbers.Goals as goal

pub returns-in_default-clause-none : goal.returns-in_default-clause-none
returns-in_default-clause-none c e = no_item number number_apart c.items.numbers _ _ c.items.invariant.0 (c.in_default.ensures.none refl)

pub returns-then-last-clause-some : goal.returns-then-last-clause-some
returns-then-last-clause-some c =
    last_item number c.items.numbers c.in-Some.n _ _ _ _ c.items.invariant.0 c.in-Some.ensures.some (rw c.if-last.true at c.in-Some-read_divider.ensures.some)
    ∙ ap (λ (ns : List ℕ). before (closed (map number ns)) (tokens c.in-Some-read_divider.next.now)) (sym c.in_ok-push.ensures.ok)

pub returns-in_default-read_divider-clause-none : goal.returns-in_default-read_divider-clause-none
returns-in_default-read_divider-clause-none c e =
    no_divider number number_apart c.items.numbers c.in-Some.n _ _ _ c.items.invariant.0 c.in-Some.ensures.some (c.in_default-read_divider.ensures.none refl)

pub items-preserved : goal.items-preserved
items-preserved c = (
  next_item number c.items.numbers c.in-Some.n _ _ _ _ c.items.invariant.0 c.in-Some.ensures.some (rw c.if-last.false at c.in-Some-read_divider.ensures.some)
      ∙ ap (λ (ns : List ℕ). before (followed number ns) (tokens c.in-Some-read_divider.next.now)) (sym c.in_ok-push.ensures.ok),
  omega (arith, c.in-Some.ensures.shorter, c.in-Some-read_divider.ensures.shorter),
)
