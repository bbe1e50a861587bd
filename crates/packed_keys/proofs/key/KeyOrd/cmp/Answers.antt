use Rattle.std.proofs.Common.{◌∙◌}
use Rattle.packed_keys.proofs.WordLaws.{seen}
use Rattle.packed_keys.proofs.OrderLaws.{by_first_word, by_second, by_third, by_fourth}
use Rattle.packed_keys.proofs.key.KeyOrd.cmp.Goals as goal

pub returns-then-self-other : goal.returns-then-self-other
returns-then-self-other c =
    c.cmp.ensures ∙ by_first_word _ _ _ _ _ _ _ _ _ _ (seen _ _ _ _ _ c.self.invariant c.self.view_is) (seen _ _ _ _ _ c.other.invariant c.other.view_is) c.if-self-other.true

pub returns-then-self-other-2 : goal.returns-then-self-other-2
returns-then-self-other-2 c =
    c.cmp-then-self-other-2.ensures
    ∙ by_second _ _ _ _ _ _ _ _ _ _ (seen _ _ _ _ _ c.self.invariant c.self.view_is) (seen _ _ _ _ _ c.other.invariant c.other.view_is) c.if-self-other.false c.if-self-other-2.true

pub returns-then-self-other-3 : goal.returns-then-self-other-3
returns-then-self-other-3 c =
    c.cmp-then-self-other-3.ensures
    ∙ by_third _ _ _ _ _ _ _ _ _ _ (seen _ _ _ _ _ c.self.invariant c.self.view_is) (seen _ _ _ _ _ c.other.invariant c.other.view_is)
    c.if-self-other.false c.if-self-other-2.false c.if-self-other-3.true

pub returns : goal.returns
returns c =
    c.cmp-2.ensures
    ∙ by_fourth _ _ _ _ _ _ _ _ _ _ (seen _ _ _ _ _ c.self.invariant c.self.view_is) (seen _ _ _ _ _ c.other.invariant c.other.view_is)
    c.if-self-other.false c.if-self-other-2.false c.if-self-other-3.false
