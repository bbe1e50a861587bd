use Rattle.std.proofs.Common.{◌∙◌, ap, length, ◌-◌, List, ℕ}
use Rattle.std.specs.List.{slice_get}
use Rattle.ranked_set.proofs.BlockLaws.{below_last}
use Rattle.ranked_set.proofs.blocks.Block.is_below.Goals as goal

pub returns-in-Some : goal.returns-in-Some
returns-in-Some c =
    c.lt.ensures ∙ below_last c.args.s.now c.in-Some.last.now c.args.self.now c.requires.rising
    (c.in-Some.ensures.value ∙ ap (λ (l : List (List ℕ)). slice_get l (length l - 1)) (c.deref.ensures.value ∙ c.self.view_is))
