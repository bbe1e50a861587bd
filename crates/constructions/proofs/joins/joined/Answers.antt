use Rattle.std.proofs.Common.{◌≡◌, ◌∙◌, ap, subst, arith, List, ℕ}
use Rattle.std.specs.List.{list_all}
use Rattle.simplex.specs.Members.{In}
use Rattle.simplex.specs.Simplex.{is_label}
use Rattle.facet_set.specs.Complex.{generated, verts}
use Rattle.facet_set.proofs.GeneratedLaws.{if_ok}
use Rattle.constructions.specs.Joins.{join, moved}
use Rattle.constructions.specs.Relabelling.{renumbering}
use Rattle.constructions.proofs.NumberLaws.{renumbering_labels}
use Rattle.constructions.proofs.JoinLaws.{unions, fit_labels, fit_size, moved_from, from_moved, pair_fits, generated_join}
use Rattle.constructions.proofs.joins.joined.Goals as goal

pub image-requires : goal.image-requires
image-requires c =
    ap (list_all (λ (p : ℕ × ℕ). is_label p.1)) (c.deref.ensures.value ∙ c.in_ok-pairs.ensures.value ∙ (λ i. renumbering (c.max_label.ensures i) ((c.as_slice.ensures ∙ c.in_ok-vertices.ensures.value) i)))
    ∙ renumbering_labels _ (verts c.args.y.now) (fit_labels c.args.x.now c.args.y.now c.requires)

pub unions-requires : goal.unions-requires
unions-requires c = λ s t i j.
    let sx = c.as_slice-3.ensures in
    let sy = c.as_slice-2.ensures in
    let k = subst (λ (l : List (List ℕ)). In s l) sx.value i in
    let l = subst (λ (l : List (List ℕ)). In t l) (moved_from c.args.x.now c.args.y.now c.as_slice-2.result.now c.as_slice-4.result.now c.max_label.result c.as_slice.result.now c.deref.result.now c.max_label.ensures (c.as_slice.ensures ∙ c.in_ok-vertices.ensures.value) (c.deref.ensures.value ∙ c.in_ok-pairs.ensures.value) sy.value
    (c.as_slice-4.ensures.value ∙ c.in_ok-moved.ensures)) j in
    let r = from_moved c.args.x.now c.args.y.now sx.simplices sx.complex sy.simplices sy.complex t l in
    let fits = pair_fits c.args.x.now c.args.y.now sx.simplices sx.complex sy.simplices sy.complex s t k l in
    let small = fit_size c.args.x.now c.args.y.now s r.0 k r.1 c.requires in
    omega (arith, fits, small)

pub returns : goal.returns
returns c =
    let sx = c.as_slice-3.ensures in
    let sy = c.as_slice-2.ensures in
    let moved_as : c.as_slice-4.result.now ≡ moved c.args.x.now c.args.y.now = moved_from c.args.x.now c.args.y.now c.as_slice-2.result.now c.as_slice-4.result.now c.max_label.result c.as_slice.result.now c.deref.result.now c.max_label.ensures (c.as_slice.ensures ∙ c.in_ok-vertices.ensures.value) (c.deref.ensures.value ∙ c.in_ok-pairs.ensures.value) sy.value
    (c.as_slice-4.ensures.value ∙ c.in_ok-moved.ensures) in
    if_ok (λ d. d ≡ generated c.deref-2.result.now) (λ d. d ≡ join c.args.x.now c.args.y.now) c.generated.result
    (λ d e. e ∙ ap generated (c.deref-2.ensures.value ∙ c.in_ok-list.ensures ∙ (λ i. unions (sx.value i) (moved_as i))) ∙ generated_join c.args.x.now c.args.y.now sx.simplices sx.complex sy.simplices sy.complex)
    c.generated.ensures
