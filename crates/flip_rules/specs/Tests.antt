-- Whether a flip is allowed, and why not.
use Rattle.std.specs.Prelude.{ℕ, Bool, List, [], ◌∷◌}
use Rattle.std.specs.List.{zip}
use Rattle.simplex.specs.declared.flip.Flip.{Flip}
use Rattle.facet_set.specs.Flips.{flip_parts}
use Rattle.flip_rules.specs.declared.flip_fault.FlipFault.{FlipFault}
use Rattle.flip_rules.specs.declared.flip_fault.FlipFault.TheVariants.{NotPure, Size, Overlap, Star, Present}

-- the five parts in order, each beside its fault
abbrev pub flip_tests : List (List ℕ) → Flip → List (Bool × FlipFault)
flip_tests c m = zip (flip_parts c m.a m.b) (NotPure ∷ Size ∷ Overlap ∷ Star ∷ Present ∷ [])
