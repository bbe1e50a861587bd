-- The bijection with the least list of images, as bijections are tried one after another.
use Rattle.std.specs.Prelude.{◌≡◌, ℕ, ◌<◌, false, List, map, length, slice_get, slice_index_or, Option, None, Some, IsTrue, if◌then◌else◌}
use Rattle.std.specs.List.{list_all}
use Rattle.simplex.specs.Members.{In}
use Rattle.simplex.specs.Simplex.{is_label}
use Rattle.facet_set.specs.Complex.{verts}
use Rattle.facet_set.specs.Connection.{is_strong}
use Rattle.relabelling.specs.Bijections.{is_map_to, comes_before}
use Rattle.relabelling.specs.Colours.{KeepsColours}

-- the one of the two with the lesser list of images, of those that there are
abbrev pub lesser : Option (List (ℕ × ℕ)) → Option (List (ℕ × ℕ)) → Option (List (ℕ × ℕ))
lesser None o = o
lesser (Some m) None = Some m
lesser (Some m) (Some n) = if comes_before n m then Some n else Some m

-- there is one, and the bijection does not come before it
abbrev pub Reaches : Option (List (ℕ × ℕ)) → List (ℕ × ℕ) → Type 0
Reaches o m = (n : List (ℕ × ℕ)) × (o ≡ Some n) × (comes_before m n ≡ false)

-- there is one, and its first image is below the label
abbrev pub IsBeaten : Option (List (ℕ × ℕ)) → ℕ → Type 0
IsBeaten o a = (n : List (ℕ × ℕ)) × (p : ℕ × ℕ) × (o ≡ Some n) × (slice_get n 0 ≡ Some p) × (p.1 < a)

-- if there is one, it carries c to d
abbrev pub IsMap : List (List ℕ) → List (List ℕ) → Option (List (ℕ × ℕ)) → Type 0
IsMap c d o = (m : List (ℕ × ℕ)) → o ≡ Some m → IsTrue (is_map_to c d m)

-- after o comes n, which is no greater than o and than all bijections with the property
pub record Improves (c d : List (List ℕ)) (o n : Option (List (ℕ × ℕ))) (P : List (ℕ × ℕ) → Type 0) : Type 0 where
  pub map : IsMap c d o → IsMap c d n
  pub kept : (m : List (ℕ × ℕ)) → Reaches o m → Reaches n m
  pub reached : (m : List (ℕ × ℕ)) → IsTrue (is_map_to c d m) → P m → Reaches n m

-- a facet of a strong complex that has its first vertex, and colours that each bijection keeps
pub record IsReady (c d : List (List ℕ)) (vs start : List ℕ) (f g : ℕ → ℕ) : Type 0 where
  pub strong : IsTrue (is_strong c)
  pub vertices : vs ≡ verts c
  pub labels : IsTrue (list_all is_label vs)
  pub as_many : length (verts c) ≡ length (verts d)
  pub facet : In start c
  pub some : 0 < length start
  pub first : slice_index_or start 0 0 ≡ slice_index_or vs 0 0
  pub room : 0 < length vs
  pub kept : (m : List (ℕ × ℕ)) → IsTrue (is_map_to c d m) → KeepsColours c f g m

-- each label of the simplex, with the simplex
abbrev pub with_each : List ℕ → List (ℕ × List ℕ)
with_each s = map (λ a. (a, s)) s
