use Rattle.std.proofs.Common.{◌∙◌, sym}
use mathlib.Core.Bool.{true≢false}
use Rattle.simplex.proofs.Decided.{equal_at}
use Rattle.packed_keys.proofs.WordLaws.{seen}
use Rattle.packed_keys.proofs.OrderLaws.{equal_last}
use Rattle.packed_keys.proofs.key.KeyPartialEq.eq.Goals as goal
use Rattle.packed_keys.proofs.key.KeyPartialEq.eq.Goals.{then-self-other, else-self-other, then-self-other-2, else-self-other-2}

pub returns-then-self-other-3 : goal.returns-then-self-other-3
returns-then-self-other-3 c =
    elim c.if-self-other-2.branch [
      | then-self-other-2 v ↦ elim c.if-self-other.branch [
        | then-self-other w ↦
            equal_last _ _ _ _ _ _ _ _ _ _ (seen _ _ _ _ _ c.self.invariant c.self.view_is) (seen _ _ _ _ _ c.other.invariant c.other.view_is)
            w.if-self-other.true (equal_at _ _ (sym w.value-is ∙ v.if-self-other-2.true)) (equal_at _ _ (sym v.value-is ∙ c.if-self-other-3.true))
        | else-self-other w ↦ absurd (w.if-self-other.false (equal_at _ _ (sym w.value-is ∙ v.if-self-other-2.true)))
      ]
      | else-self-other-2 v ↦ absurd (true≢false (sym c.if-self-other-3.true ∙ v.value-is ∙ v.if-self-other-2.false))
    ]
