use Rattle.std.proofs.Common.{◌≡◌, ◌++◌, ◌∷◌, [], map, take}
use Rattle.relabelling.proofs.flags.Flag.add_longer.Given as goal

abbrev pub invariant-loop-label : goal.invariant-loop-label
invariant-loop-label l = l.next.items ≡ l.fn.next.items ++ map (λ a. l.order ++ a ∷ []) (take l.label-index l.label-items)
