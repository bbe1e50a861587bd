-- How a place is cleared by a set that has it.
use Rattle.std.specs.Prelude.{List, if◌then◌else◌}
use Rattle.std.specs.declared.cmp.Ordering.{Ordering}
use Rattle.simplex.specs.InOrder.{is_member}
use Rattle.gf2_rank.specs.Span.{difference}

-- the set t, with u added where t has the place
abbrev pub cleared : {X : Type 0} → (X → X → Ordering) → X → List X → List X → List X
cleared cmp place u t = if is_member cmp place t then difference cmp t u else t
