use Rattle.std.proofs.Common.{List, ℕ, refl, sym, ap, ◌∙◌, arith, map, is_some}
use Rattle.script_text.specs.Grammar.{closed, list}
use Rattle.script_text.specs.Fronts.{before}
use Rattle.script_text.specs.Tokens.{tokens}
use Rattle.script_text.proofs.PartLaws.{followed, no_item, no_divider, last_item, next_item, list_apart}
use Rattle.script_text.proofs.parts.read_more_lists.Goals as goal

pub returns-in_default-clause-none : goal.returns-in_default-clause-none
returns-in_default-clause-none c e = no_item list list_apart c.items.lists _ _ c.items.invariant.0 (c.in_ok-list.ensures.none (ap is_some c.in_default.is))

pub returns-then-last-clause-some : goal.returns-then-last-clause-some
returns-then-last-clause-some c =
    last_item list c.items.lists c.in-Some.list _ _ _ _ c.items.invariant.0 (rw c.in-Some.is at c.in_ok-list.ensures.some) (rw c.if-last.true at c.in-Some-read_divider.ensures.some)
    ∙ ap (λ (ns : List (List ℕ)). before (closed (map list ns)) (tokens c.in-Some-read_divider.next.now)) (sym c.in_ok-push.ensures.ok)

pub returns-in_default-read_divider-clause-none : goal.returns-in_default-read_divider-clause-none
returns-in_default-read_divider-clause-none c e =
    no_divider list list_apart c.items.lists c.in-Some.list _ _ _ c.items.invariant.0 (rw c.in-Some.is at c.in_ok-list.ensures.some) (c.in_default-read_divider.ensures.none refl)

pub items-preserved : goal.items-preserved
items-preserved c = (
  next_item list c.items.lists c.in-Some.list _ _ _ _ c.items.invariant.0 (rw c.in-Some.is at c.in_ok-list.ensures.some) (rw c.if-last.false at c.in-Some-read_divider.ensures.some)
      ∙ ap (λ (ns : List (List ℕ)). before (followed list ns) (tokens c.in-Some-read_divider.next.now)) (sym c.in_ok-push.ensures.ok),
  omega (arith, rw c.in-Some.is at c.in_ok-list.ensures.shorter, c.in-Some-read_divider.ensures.shorter),
)
