use Rattle.std.proofs.Common.{◌≡◌, ◌∷◌, ◌++◌, take}
use Rattle.std.specs.List.{flat_map}
use Rattle.reply_texts.specs.Replies.{flip_text}
use Rattle.reply_texts.proofs.flips.put_flips.Given as goal

abbrev pub invariant-loop-flip : goal.invariant-loop-flip
invariant-loop-flip l = l.out ≡ l.initial.out ++ flat_map (λ y. 44 ∷ flip_text y) (take l.flip-index l.rest)
