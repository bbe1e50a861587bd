-- Laws of the walk.
use Rattle.std.specs.Prelude.{ℕ, ◌<◌, List, length, IsTrue, IsSome}
use Rattle.std.specs.List.{list_all}
use Rattle.simplex.specs.Simplex.{is_simplex, label_limit}
use Rattle.facet_set.specs.Complex.{is_complex, verts}
use Rattle.facet_set.specs.Numbers.{size, is_pure}
use Rattle.annealer.specs.Walk.{pick}

-- while a label is free, there is always a pick
abbrev pub AlwaysPicks : Type 0
AlwaysPicks =
    (c : List (List ℕ)) (heat w : ℕ) → IsTrue (list_all is_simplex c) → IsTrue (is_complex c) → IsTrue (is_pure c) → 0 < size c → length (verts c) < label_limit
    → IsSome (pick c heat w)
