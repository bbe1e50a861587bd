use Rattle.std.proofs.Common.{◌∙◌, rules, tests}
use Rattle.std.proofs.lemmas.Iterator.{YieldsList-from_slice}
use Rattle.std.proofs.lemmas.Iterator.Search.{position_from_yields_List}
use Rattle.std.proofs.lemmas.Iterator.Adapters.{position_from-zero}
use Rattle.plain_text.specs.Bytes.{is_text}
use Rattle.shell_names.specs.State.{Named}
use Rattle.shell_names.proofs.StateLaws.{found}
use Rattle.shell_names.proofs.names.place_of.Goals as goal

pub returns : goal.returns
returns c =
    let test = λ (n : Named). is_text n.name c.args.name.now in
    let all = c.args.entries.now in
    found all c.args.name.now c.position.result
    (position_from_yields_List test _ _ c.position.result c.position.ensures.ran (YieldsList-from_slice all cc) (λ x b q k. search (rules, tests)) ∙ position_from-zero test all)
