use Rattle.std.proofs.Common.{◌≡◌, ◌≤◌, ◌+◌, ◌^◌, ◌&&◌, not, ap, ◌∙◌, sym, subst, nat_eq, arith}
use Rattle.std.specs.HashSet.{contains}
use Rattle.std.specs.Cmp.Lexicographic.{pointwise}
use Rattle.facet_set.proofs.GeneratedLaws.{no_face, reached_is, last_number, and_true}
use Rattle.simplex.proofs.Filled.{short_of}
use Rattle.facet_set.proofs.generated.take_out_faces.Goals as goal

pub returns-then-len-shortest : goal.returns-then-len-shortest
returns-then-len-shortest c = λ t h n.
    sym (and_true _ _ (ap not (no_face c.args.s.now t c.len.ensures.simplex h (omega (arith, c.if-len-shortest.true, c.len.ensures.value, n)))))

pub returns : goal.returns
returns c = λ t h n.
    c.loop-mask.invariant t n
    ∙ ap (λ v. contains (pointwise nat_eq) c.args.free.now t && not v)
    (reached_is c.args.s.now t c.loop-mask.mask c.len.ensures.simplex h
    (subst (λ k. c.loop-mask.mask + 1 ≡ 2 ^ k) c.len-2.ensures.value
    (last_number c.len-2.result c.loop-mask.mask (subst (λ k. k ≤ 12) (sym c.len-2.ensures.value) (short_of c.args.s.now c.len.ensures.simplex)) c.loop-mask-test.false c.loop-mask.auto.mask-end)))
