use Rattle.std.proofs.Common.{◌≡◌, true, ◌&&◌, List, ℕ, sym, ap, subst, ◌∙◌}
use Rattle.std.specs.List.{list_all}
use Rattle.simplex.specs.Simplex.{is_label, is_same}
use Rattle.simplex.specs.SimplexFault.{set}
use Rattle.std.proofs.lemmas.Bool.{false≢true}
use Rattle.facet_set.specs.Complex.{verts}
use Rattle.facet_set.specs.Maps.{is_distinct}
use Rattle.script_shell.proofs.Renaming.{labels_by_set, and_true, and_false}
use Rattle.script_shell.proofs.label_maps.are_vertices.Goals as goal
use Rattle.script_shell.proofs.label_maps.are_vertices.Goals.{then-once, else-once}

pub returns-clause-value : goal.returns-clause-value
returns-clause-value c =
    let ns = c.args.numbers.now in
    let vs = verts c.args.complex.now in
    let once : c.is_once-once.result ≡ is_distinct ns = c.is_once-once.ensures in
    let whole : c.is_same-whole.result ≡ is_same (set ns) vs =
    c.is_same-whole.ensures ∙ ap (λ (l : List ℕ). is_same l c.deref-3.result.now) (c.deref-2.ensures.value ∙ c.in_ok-set.ensures) ∙ ap (λ (l : List ℕ). is_same (set ns) l) (c.deref-3.ensures.value ∙ c.in_ok-vertices.ensures.value) in
    let all : c.if-once.result ≡ (c.is_once-once.result && c.is_same-whole.result) = elim c.if-once.branch [
      | then-once w ↦ and_true c.is_once-once.result c.is_same-whole.result _ w.if-once.true w.result-is
      | else-once w ↦ and_false c.is_once-once.result c.is_same-whole.result _ w.if-once.false (w.result-is ∙ w.if-once.false)
    ] in
    all ∙ ap (λ b. b && c.is_same-whole.result) once ∙ ap (λ b. is_distinct ns && b) whole

pub returns-clause-labels : goal.returns-clause-labels
returns-clause-labels c =
    λ e.
    let ns = c.args.numbers.now in
    let vs = verts c.args.complex.now in
    let labels : list_all is_label vs ≡ true = subst (λ (l : List ℕ). list_all is_label l ≡ true) c.in_ok-vertices.ensures.value c.in_ok-vertices.ensures.labels in
    let whole : is_same (set ns) vs ≡ c.is_same-whole.result =
    sym (c.is_same-whole.ensures ∙ ap (λ (l : List ℕ). is_same l c.deref-3.result.now) (c.deref-2.ensures.value ∙ c.in_ok-set.ensures) ∙ ap (λ (l : List ℕ). is_same (set ns) l) (c.deref-3.ensures.value ∙ c.in_ok-vertices.ensures.value)) in
    let same : c.is_same-whole.result ≡ true = elim c.if-once.branch [
      | then-once w ↦ sym w.result-is ∙ e
      | else-once w ↦ absurd (false≢true (sym w.if-once.false ∙ sym w.result-is ∙ e))
    ] in
    labels_by_set ns vs (whole ∙ same) labels
