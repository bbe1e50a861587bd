use Rattle.std.proofs.Common.{◌&&◌, not, [], ◌∷◌, Some, sym, ap, ◌∙◌}
use Rattle.simplex.specs.Simplex.{has, is_simplex, is_within, union}
use Rattle.simplex.proofs.InOrderLaws.{and_both}
use Rattle.flip_plans.proofs.FitLaws.{all_in, pushed, too_many}
use Rattle.flip_plans.proofs.asked.inside.Goals as goal

pub returns-then-len-eq-LEN_LIMIT : goal.returns-then-len-eq-LEN_LIMIT
returns-then-len-eq-LEN_LIMIT c =
    sym (too_many (λ x. not (has c.args.s.now x) && not (is_within c.args.flip.now.a (union c.args.s.now (x ∷ [])))) c.args.labels.now c.loop-label.key c.loop-label.label-index c.loop-label-test.true c.loop-label.invariant (and_both _ _ (ap not (sym c.has.ensures ∙ c.if-not-has.true)) (ap not (sym c.completes.ensures ∙ c.if-not-completes.true))) (sym c.len.ensures.value ∙ c.if-len-eq-LEN_LIMIT.true))

pub push-key-requires : goal.push-key-requires
push-key-requires c =
    pushed (λ x. not (has c.args.s.now x) && not (is_within c.args.flip.now.a (union c.args.s.now (x ∷ [])))) c.args.labels.now c.loop-label.key c.loop-label.label-index c.requires c.loop-label-test.true c.loop-label.invariant (and_both _ _ (ap not (sym c.has.ensures ∙ c.if-not-has.true)) (ap not (sym c.completes.ensures ∙ c.if-not-completes.true))) c.len.ensures.simplex (λ e. c.if-len-eq-LEN_LIMIT.false (c.len.ensures.value ∙ e))

pub returns : goal.returns
returns c =
    ap Some c.simplex.ensures.value ∙ all_in (λ x. not (has c.args.s.now x) && not (is_within c.args.flip.now.a (union c.args.s.now (x ∷ [])))) c.args.labels.now c.loop-label.key c.loop-label.label-index c.loop-label-test.false c.loop-label.invariant (ap is_simplex (sym c.simplex.ensures.value) ∙ c.simplex.ensures.simplex)
