use Rattle.std.proofs.Common.{◌≡◌, true, ◌&&◌, List, ℕ, sym, ap, subst, ◌∙◌}
use Rattle.std.specs.List.{list_all}
use Rattle.simplex.specs.Simplex.{is_label, is_same}
use Rattle.simplex.specs.SimplexFault.{set}
use Rattle.std.proofs.lemmas.Bool.{false≢true}
use Rattle.facet_set.specs.Complex.{verts}
use Rattle.facet_set.specs.Maps.{is_distinct}
use Rattle.script_shell.specs.Commands.{is_pair}
use Rattle.script_shell.proofs.Renaming.{olds, news, renaming_is, and_true, and_false}
use Rattle.script_shell.proofs.label_maps.is_map.Goals as goal
use Rattle.script_shell.proofs.label_maps.is_map.Goals.{then-pairs+then-whole, then-pairs+else-whole, else-pairs}

pub returns-clause-value : goal.returns-clause-value
returns-clause-value c =
    let lists = c.args.lists.now in
    let vs = verts c.args.complex.now in
    let whole : c.in_ok-whole.whole ≡ (is_distinct (olds lists) && is_same (set (olds lists)) vs) =
    c.in_ok-whole.ensures.value ∙ ap (λ (l : List ℕ). is_distinct l && is_same (set l) vs) (c.deref.ensures.value ∙ c.in_ok-old.ensures) in
    let apart : c.in_ok-apart.apart ≡ is_distinct (news lists) =
    c.in_ok-apart.ensures ∙ ap (λ (l : List ℕ). is_distinct l) (c.deref-2.ensures.value ∙ c.in_ok-new.ensures) in
    let renaming = renaming_is lists c.args.complex.now c.in_ok-whole.whole c.in_ok-apart.apart whole apart in
    let all : c.if-pairs.result ≡ (c.are_pairs-pairs.result && (c.in_ok-whole.whole && c.in_ok-apart.apart)) = elim c.if-pairs.branch [
      | then-pairs+then-whole w ↦ and_true c.are_pairs-pairs.result _ _ w.if-pairs.true (and_true c.in_ok-whole.whole c.in_ok-apart.apart _ w.if-whole.true w.result-is)
      | then-pairs+else-whole w ↦ and_true c.are_pairs-pairs.result _ _ w.if-pairs.true (and_false c.in_ok-whole.whole c.in_ok-apart.apart _ w.if-whole.false (w.result-is ∙ w.if-whole.false))
      | else-pairs w ↦ and_false c.are_pairs-pairs.result _ _ w.if-pairs.false (w.result-is ∙ w.if-pairs.false)
    ] in
    all
    ∙ ap (λ b. b && (c.in_ok-whole.whole && c.in_ok-apart.apart)) c.are_pairs-pairs.ensures
    ∙ ap (λ b. list_all is_pair lists && b) renaming

pub returns-clause-labels : goal.returns-clause-labels
returns-clause-labels c =
    λ e.
    let old : c.deref.result.now ≡ olds c.args.lists.now = c.deref.ensures.value ∙ c.in_ok-old.ensures in
    let whole : c.in_ok-whole.whole ≡ true = elim c.if-pairs.branch [
      | then-pairs+then-whole w ↦ w.if-whole.true
      | then-pairs+else-whole w ↦ absurd (false≢true (sym w.if-whole.false ∙ sym w.result-is ∙ e))
      | else-pairs w ↦ absurd (false≢true (sym w.if-pairs.false ∙ sym w.result-is ∙ e))
    ] in
    subst (λ (l : List ℕ). list_all is_label l ≡ true) old (c.in_ok-whole.ensures.labels whole)
