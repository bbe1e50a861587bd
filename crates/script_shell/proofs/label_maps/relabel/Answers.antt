use Rattle.std.proofs.Common.{map, ap, sym, ◌∙◌, subst}
use Rattle.std.specs.List.{list_all}
use Rattle.constructions.specs.Relabelling.{relabel_tests}
use Rattle.script_shell.specs.Commands.{is_pair, pair_of}
use Rattle.script_shell.specs.Stops.{StopsAt}
use Rattle.script_shell.proofs.Refusals.{if_err}
use Rattle.script_shell.proofs.Renaming.{call_tests}
use Rattle.script_shell.proofs.label_maps.relabel.Goals as goal

pub returns-clause-refused : goal.returns-clause-refused
returns-clause-refused c =
    let x = c.args.complex.now in
    let lists = c.args.lists.now in
    let same = call_tests x lists c.in_ok-pairs.pairs (c.in_ok-pairs.ensures.pairs ∙ ap (map pair_of) c.as_slice.ensures) (ap (list_all is_pair) (sym c.as_slice.ensures) ∙ c.in_ok-pairs.ensures.all) in
    if_err c.constructed.result _ _ (λ e h. subst (StopsAt e) same h) (c.constructed.ensures.refused (relabel_tests x c.in_ok-pairs.pairs) c.relabel.ensures.faults)
