use Rattle.std.proofs.Common.{List, ℕ, slice_index_or, sym, ◌∙◌, rules, tests}
use Rattle.std.proofs.lemmas.Iterator.{YieldsList-from_slice}
use Rattle.std.proofs.lemmas.Iterator.Search.{all_from_yields_List}
use Rattle.simplex.specs.Simplex.{is_label}
use Rattle.script_shell.proofs.Renaming.{labels_at}
use Rattle.script_shell.proofs.label_maps.gives_labels.Goals as goal

pub returns : goal.returns
returns c =
    let test = λ (l : List ℕ). is_label (slice_index_or l 1 0) in
    let lists = c.args.lists.now in
    all_from_yields_List test _ _ c.all.result c.all.ensures.ran (YieldsList-from_slice lists cc) (λ x b q k. search (rules, tests)) ∙ sym (labels_at lists)
