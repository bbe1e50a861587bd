use Rattle.std.proofs.Common.{◌||◌, not, Some, sym, ap, ◌∙◌}
use Rattle.simplex.specs.Simplex.{has, is_simplex}
use Rattle.flip_plans.proofs.FitLaws.{all_in, pushed, too_many}
use Rattle.flip_plans.proofs.asked.outside.Goals as goal

pub returns-then-len-eq-LEN_LIMIT : goal.returns-then-len-eq-LEN_LIMIT
returns-then-len-eq-LEN_LIMIT c =
    sym (too_many (λ x. not (has c.args.flip.now.a x || has c.args.flip.now.b x)) c.args.labels.now c.loop-label.key c.loop-label.label-index c.loop-label-test.true c.loop-label.invariant (ap not (sym c.is_of_join.ensures ∙ c.if-not-is_of_join.true)) (sym c.len.ensures.value ∙ c.if-len-eq-LEN_LIMIT.true))

pub push-key-requires : goal.push-key-requires
push-key-requires c =
    pushed (λ x. not (has c.args.flip.now.a x || has c.args.flip.now.b x)) c.args.labels.now c.loop-label.key c.loop-label.label-index c.requires c.loop-label-test.true c.loop-label.invariant (ap not (sym c.is_of_join.ensures ∙ c.if-not-is_of_join.true)) c.len.ensures.simplex (λ e. c.if-len-eq-LEN_LIMIT.false (c.len.ensures.value ∙ e))

pub returns : goal.returns
returns c =
    ap Some c.simplex.ensures.value ∙ all_in (λ x. not (has c.args.flip.now.a x || has c.args.flip.now.b x)) c.args.labels.now c.loop-label.key c.loop-label.label-index c.loop-label-test.false c.loop-label.invariant (ap is_simplex (sym c.simplex.ensures.value) ∙ c.simplex.ensures.simplex)
