use Rattle.std.proofs.Common.{◌≡◌, ◌∙◌, ℕ, List, IfOk, IfSome, ap, subst}
use Rattle.std.specs.Prelude.{Option}
use Rattle.facet_set.specs.Connection.{is_strong}
use Rattle.relabelling.specs.Bijections.{first_map}
use Rattle.relabelling.proofs.leading.led.Goals as goal

pub led_by-requires-clause-strong : goal.led_by-requires-clause-strong
led_by-requires-clause-strong c = ap is_strong c.in_ok-ways.ensures.c ∙ c.requires.strong

pub returns : goal.returns
returns c =
    subst (λ (x : Option (List (ℕ × ℕ))). IfOk c.led_by.result (λ o. IfSome o (λ m. m ≡ x))) (ap (λ l. first_map l c.in_ok-ways.ways.d.now) c.in_ok-ways.ensures.c ∙ ap (first_map c.args.c.now) c.in_ok-ways.ensures.d) c.led_by.ensures
