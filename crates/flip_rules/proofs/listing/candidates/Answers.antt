use Rattle.std.proofs.Common.{sym, ◌∙◌, arith}
use Rattle.flip_rules.proofs.ExchangeLaws.{no_candidates_impure, no_candidates_above}
use Rattle.flip_rules.proofs.listing.candidates.Goals as goal
use Rattle.flip_rules.proofs.listing.candidates.Goals.{then-not-is_pure-via-then-not-is_pure, then-not-is_pure-via-else-not-is_pure+then-size-class}

pub returns-then-not-is_pure : goal.returns-then-not-is_pure
returns-then-not-is_pure c = elim c.then-not-is_pure.branch [
  | then-not-is_pure-via-then-not-is_pure w ↦ c.new.ensures ∙ no_candidates_impure c.args.c.now c.args.class (sym c.is_pure.ensures ∙ w.if-not-is_pure.true)
  | then-not-is_pure-via-else-not-is_pure+then-size-class w ↦ c.new.ensures ∙ no_candidates_above c.args.c.now c.args.class (omega (arith, w.size.ensures.value, w.if-size-class.true))
]
