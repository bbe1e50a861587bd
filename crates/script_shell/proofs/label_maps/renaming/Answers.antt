use Rattle.std.proofs.Common.{◌≡◌, true, sym, ◌∙◌}
use Rattle.std.specs.List.{list_all}
use Rattle.simplex.specs.Simplex.{is_label}
use Rattle.script_shell.proofs.Renaming.{olds, news, same_pairs, labels_are}
use Rattle.script_shell.proofs.label_maps.renaming.Goals as goal

pub returns-clause-pairs : goal.returns-clause-pairs
returns-clause-pairs c =
    let lists = c.args.lists.now in
    let old : list_all is_label (olds lists) ≡ true = c.in_ok-is_map.ensures.labels c.if-not-branch.false in
    let new : list_all is_label (news lists) ≡ true = sym (labels_are lists) ∙ sym c.gives_labels.ensures ∙ c.if-not-gives_labels.false in
    c.in_ok-pairs_of.ensures ∙ same_pairs lists old new
