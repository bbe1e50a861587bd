-- The invariants of a complex, the first in which two differ, and those of spheres.
use Rattle.std.specs.Prelude.{ℕ, ◌-◌, pos, ◌+ℤ◌, ◌-ℤ◌, true, List, [], ◌∷◌, nat_le, ◌==◌, Option, if◌then◌else◌}
use Rattle.std.specs.Bool.{beq}
use Rattle.std.specs.Ordering.{int_eq}
use Rattle.simplex.specs.FirstFailing.{first_failing}
use Rattle.facet_set.specs.Connection.{is_closed, components as number_of_components}
use Rattle.facet_set.specs.Numbers.{f_vector, size}
use Rattle.face_vectors.specs.Vectors.{alternating, signed}
use Rattle.invariants.specs.declared.invariants.Invariants.{Invariants}
use Rattle.invariants.specs.declared.difference.Difference.{Difference}
use Rattle.invariants.specs.declared.difference.Difference.TheVariants.{Dim, Closed, Euler, Components}

-- the dimension, closedness, the Euler characteristic, and from dimension 1 on the number of components
abbrev pub invariants_of : List (List ℕ) → Invariants
invariants_of c = record {
  dim = pos (size c) -ℤ pos 1;
  closed = is_closed c;
  euler = alternating (f_vector c);
  components = if nat_le 2 (size c) then number_of_components c else 0;
}

-- those of the sphere of dimension d: it is closed, its Euler characteristic is 1 + (-1)^d, and from dimension 1 on it is connected
abbrev pub sphere_invariants : ℕ → Invariants
sphere_invariants d = record {
  dim = pos d;
  closed = true;
  euler = pos 1 +ℤ signed d (pos 1);
  components = if nat_le 1 d then 1 else 0;
}

-- the first invariant in which the two differ, if there is one
abbrev pub first_difference : Invariants → Invariants → Option Difference
first_difference x y = first_failing (
    (int_eq x.dim y.dim, Dim x.dim y.dim)
    ∷ (beq x.closed y.closed, Closed x.closed y.closed)
    ∷ (int_eq x.euler y.euler, Euler x.euler y.euler)
    ∷ (x.components == y.components, Components x.components y.components)
    ∷ [])

-- the first invariant in which the complex differs from the spheres of its dimension, if there is one
abbrev pub reason : List (List ℕ) → Option Difference
reason c = first_difference (invariants_of c) (sphere_invariants (size c - 1))
