use Rattle.std.proofs.Common.{◌≡◌, ◌<◌, true, nat_eq, length, ◌∙◌, sym, subst, List, ℕ, inl, inr}
use Rattle.std.specs.HashSet.{contains}
use Rattle.std.specs.Cmp.Lexicographic.{pointwise}
use Rattle.facet_set.proofs.GeneratedLaws.{taken_in}
use Rattle.facet_set.proofs.generated.shorter.Goals as goal

pub loop-s-preserved : goal.loop-s-preserved
loop-s-preserved c = λ s i h. elim (taken_in c.args.members.now c.loop-s.s-index c.s-item.result s c.loop-s-test.true i) [
  | inl j ↦ c.in_ok-add_shorter.ensures.more s (c.loop-s.invariant s j h)
  | inr e ↦ subst (λ (t : List ℕ). length t < c.args.longest → contains (pointwise nat_eq) c.add_shorter.new.set t ≡ true) (sym (e ∙ sym c.s-item.is)) c.in_ok-add_shorter.ensures.here h
]
