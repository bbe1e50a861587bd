use Rattle.std.proofs.Common.{rules, tests, ◌≡◌, refl, sym, ◌∙◌, Option, Some, None}
use Rattle.std.specs.Prelude.{option_map}
use Rattle.std.proofs.lemmas.Iterator.Consumers.{nth_from_yields_List, YieldsList-from_filter_map}
use Rattle.std.proofs.lemmas.Iterator.{YieldsList-from_slice}
use Rattle.flip_rules.specs.Candidates.{open_flip}
use Rattle.flip_table.proofs.kept.open_at.Goals as goal

pub returns : goal.returns
returns c =
    sym (unchanged c.nth.result)
    ∙ nth_from_yields_List c.nth.result c.nth.new.self c.args.k c.nth.ensures.ran
    (YieldsList-from_filter_map _ open_flip (YieldsList-from_slice c.args.list.now cc) c.filter_map.ensures.closure (λ x r q k. search (rules, tests)))
  where
    unchanged : {X : Type 0} (o : Option X) → option_map (λ x. x) o ≡ o
    unchanged None = refl
    unchanged (Some x) = refl
