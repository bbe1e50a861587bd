use Rattle.std.proofs.Common.{◌≡◌, ◌+◌, ◌≤◌, ◌++◌, ◌∙◌, ap, sym, subst, map, length, List, ℕ}
use Rattle.std.specs.List.{list_all, zip}
use Rattle.simplex.specs.Simplex.{is_label, label_limit}
use Rattle.simplex.specs.SimplexFault.{set}
use Rattle.facet_set.specs.Complex.{generated}
use Rattle.facet_set.specs.Numbers.{greatest}
use Rattle.facet_set.specs.Maps.{relabelled}
use Rattle.facet_set.proofs.GeneratedLaws.{if_ok}
use Rattle.facet_set.proofs.ComplexLaws.{sets_of}
use Rattle.constructions.specs.Gluing.{all_but, sum_of}
use Rattle.constructions.specs.Relabelling.{renumbering}
use Rattle.constructions.proofs.GluingLaws.{summable, glued_labels, generated_sum}
use Rattle.constructions.proofs.gluing.summed.Goals as goal

pub glued-requires : goal.glued-requires
glued-requires c =
    subst (λ (l : List ℕ). greatest c.args.x.now + length l ≤ label_limit) (sym c.requires.others) (summable c.args.x.now c.args.f.now c.args.y.now c.args.g.now c.requires.passed).labels

pub facets_of_both-requires-clause-labels : goal.facets_of_both-requires-clause-labels
facets_of_both-requires-clause-labels c =
    ap (list_all (λ (p : ℕ × ℕ). is_label p.1)) (c.deref.ensures.value ∙ c.in_ok-pairs.ensures ∙ ap (λ l. zip c.args.g.now c.args.f.now ++ renumbering (greatest c.args.x.now) l) c.requires.others)
    ∙ glued_labels c.args.x.now c.args.f.now c.args.y.now c.args.g.now (summable c.args.x.now c.args.f.now c.args.y.now c.args.g.now c.requires.passed) c.requires.f c.requires.g

pub returns : goal.returns
returns c =
    let pairs = c.deref.ensures.value ∙ c.in_ok-pairs.ensures ∙ ap (λ l. zip c.args.g.now c.args.f.now ++ renumbering (greatest c.args.x.now) l) c.requires.others in
    if_ok (λ d. d ≡ generated c.deref-2.result.now) (λ d. d ≡ sum_of c.args.x.now c.args.f.now c.args.y.now c.args.g.now) c.generated.result
    (λ d e. e
    ∙ ap generated (c.deref-2.ensures.value ∙ c.in_ok-list.ensures ∙ (λ i. all_but (set c.args.f.now) (c.as_slice.ensures.value i) ++ map (relabelled (pairs i)) (all_but (set c.args.g.now) (c.as_slice-2.ensures.value i))))
    ∙ generated_sum c.args.x.now c.args.f.now c.args.y.now c.args.g.now (summable c.args.x.now c.args.f.now c.args.y.now c.args.g.now c.requires.passed) c.requires.f c.requires.g (sets_of c.args.x.now c.as_slice.ensures.simplices) (sets_of c.args.y.now c.as_slice-2.ensures.simplices))
    c.generated.ensures
