use Rattle.std.proofs.Common.{ap, sym, subst, ◌∙◌, ◌≡◌, List, ℕ, true, not, map}
use Rattle.std.specs.List.{filter}
use Rattle.std.specs.Result.{IfOk}
use Rattle.std.proofs.lemmas.Result.{IfOk-weaker}
use Rattle.simplex.specs.Simplex.{is_within, union, without}
use Rattle.facet_set.specs.Flips.{allowed, flip}
use Rattle.facet_set.proofs.FlipLaws.{flips_back_lem}
use Rattle.facet_set.proofs.BallLaws.{few_labels}
use Rattle.flip_rules.specs.Members.{HasBoth}
use Rattle.flip_rules.proofs.FlippedList.{generated-flip}
use Rattle.flip_rules.proofs.flipping.apply.Goals as goal

pub put_ball-requires : goal.put_ball-requires
put_ball-requires c =
    few_labels c.args.c.now c.args.flip.now.a c.args.flip.now.b c.as_slice.ensures.simplices c.as_slice.ensures.complex c.inverse-back.ensures.a c.inverse-back.ensures.b c.requires

pub returns-clause-value : goal.returns-clause-value
returns-clause-value c =
    let a = c.args.flip.now.a in
    let b = c.args.flip.now.b in
    let both : HasBoth c.as_slice-2.result.now (filter (λ s. not (is_within a s)) c.args.c.now) (map (λ x. union b (without a x)) a) =
    subst (λ l. HasBoth l (filter (λ s. not (is_within a s)) c.args.c.now) (map (λ x. union b (without a x)) a)) (sym c.as_slice-2.ensures.value)
    (subst (λ l. HasBoth c.put_ball.new.list.items l (map (λ x. union b (without a x)) a)) (c.in_ok-list.ensures ∙ ap (λ l. filter (λ s. not (is_within a s)) l) c.as_slice.ensures.value) c.in_ok-put_ball.ensures) in
    let f = generated-flip c.args.c.now c.as_slice-2.result.now a b c.as_slice.ensures.simplices c.as_slice.ensures.complex c.inverse-back.ensures.a c.inverse-back.ensures.b c.requires both in
    subst (λ (l : List (List ℕ)). IfOk c.generated.result (λ d. d ≡ l)) f c.generated.ensures

pub returns-clause-back : goal.returns-clause-back
returns-clause-back c =
    let a = c.args.flip.now.a in
    let b = c.args.flip.now.b in
    let P : List (List ℕ) → Type 0 = λ d. (allowed d b a ≡ true) × (flip d b a ≡ c.args.c.now) in
    IfOk-weaker c.generated.result (λ d. d ≡ flip c.args.c.now a b) P (λ d e. subst P (sym e) (flips_back_lem c.args.c.now a b c.as_slice.ensures.simplices c.as_slice.ensures.complex c.inverse-back.ensures.a c.inverse-back.ensures.b c.requires))
    (returns-clause-value c)
