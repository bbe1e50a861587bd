-- Valid certificates, and the first fault of one that is not.
use Rattle.std.specs.Prelude.{ℕ, ◌+◌, Bool, ◌&&◌, List, [], ◌∷◌, ◌++◌, map, length, nat_le, nat_eq, ◌==◌, Option, if◌then◌else◌}
use Rattle.std.specs.List.{list_all}
use Rattle.std.specs.Cmp.Lexicographic.{pointwise}
use Rattle.simplex.specs.declared.flip.Flip.{Flip}
use Rattle.simplex.specs.FirstFailing.{first_failing}
use Rattle.facet_set.specs.Complex.{verts}
use Rattle.facet_set.specs.Numbers.{is_pure, size}
use Rattle.facet_set.specs.Parts.{link}
use Rattle.facet_set.specs.Flips.{allowed, after, goes, flip, same_facets, is_simplex_boundary}
use Rattle.facet_set.specs.Maps.{image, is_map}
use Rattle.flip_certificate.specs.Count.{stopped}
use Rattle.flip_certificate.specs.declared.block.Block.{Block}
use Rattle.flip_certificate.specs.declared.certificate.Certificate.{Certificate}
use Rattle.flip_certificate.specs.declared.certificate.Certificate.TheVariants.{Sphere, Equivalent, Manifold}

-- whether the complex is pure of at least so many labels a facet
abbrev pub is_pure_from : ℕ → List (List ℕ) → Bool
is_pure_from n c = is_pure c && nat_le n (size c)

-- whether the flips carry the complex to the boundary of a simplex
abbrev pub is_sphere : List (List ℕ) → List Flip → Bool
is_sphere c ms = is_pure_from 1 c && goes c ms && is_simplex_boundary (after c ms)

-- the vertices of the blocks
abbrev pub block_vertices : List Block → List ℕ
block_vertices blocks = map (λ (b : Block). b.vertex) blocks

-- the link of a vertex
abbrev pub vertex_link : List (List ℕ) → ℕ → List (List ℕ)
vertex_link c v = link c (v ∷ [])

-- whether the list shows what it is to show
abbrev pub is_valid : Certificate → Bool
is_valid (Sphere c ms) = is_sphere c ms
is_valid (Equivalent c d first m second) =
    is_pure_from 1 c && is_pure_from 1 d && goes c first && is_map m (after c first)
    && goes (image m (after c first)) second && same_facets (after (image m (after c first)) second) d
is_valid (Manifold c blocks) =
    is_pure_from 2 c && pointwise nat_eq (block_vertices blocks) (verts c)
    && list_all (λ (b : Block). is_sphere (vertex_link c b.vertex) b.flips) blocks

-- the faults that stand for what can fail: a start or target, the flip with a number, the map, the list of blocks at a place, and the
-- last complex, of a vertex or of 0
pub record Faults (F : Type 0) : Type 0 where
  pub at_start : F
  pub at_flip : ℕ → F
  pub at_map : F
  pub at_block : ℕ → F
  pub at_end : ℕ → F

-- how many flips go, one after another
abbrev pub flips_that_go : List (List ℕ) → List Flip → ℕ
flips_that_go c [] = 0
flips_that_go c (m ∷ ms) = if allowed c m.a m.b then 1 + flips_that_go (flip c m.a m.b) ms else 0

-- the first place, from 1, at which the lists differ
abbrev pub first_difference : List ℕ → List ℕ → ℕ
first_difference [] ys = 1
first_difference (x ∷ xs) [] = 1
first_difference (x ∷ xs) (y ∷ ys) = if x == y then 1 + first_difference xs ys else 1

-- the number of the first flip that does not go, where so many stand before; it stops at the last that 64 bits hold
abbrev pub first_stuck : ℕ → List (List ℕ) → List Flip → ℕ
first_stuck before c ms = stopped (before + flips_that_go c ms + 1)

-- the tests of flips on a complex, where so many flips stand before, and of the last complex
abbrev pub sphere_tests : {F : Type 0} → Faults F → ℕ → ℕ → List (List ℕ) → List Flip → List (Bool × F)
sphere_tests faults before vertex c ms =
    (goes c ms, faults.at_flip (first_stuck before c ms)) ∷ (is_simplex_boundary (after c ms), faults.at_end vertex) ∷ []

-- the tests block by block
abbrev pub block_tests : {F : Type 0} → Faults F → ℕ → List (List ℕ) → List Block → List (Bool × F)
block_tests faults before c [] = []
block_tests faults before c (b ∷ bs) =
    sphere_tests faults before b.vertex (vertex_link c b.vertex) b.flips ++ block_tests faults (before + length b.flips) c bs

-- the tests in their order, each beside the fault where it fails
abbrev pub tests : {F : Type 0} → Faults F → Certificate → List (Bool × F)
tests faults (Sphere c ms) = (is_pure_from 1 c, faults.at_start) ∷ sphere_tests faults 0 0 c ms
tests faults (Equivalent c d first m second) =
    let reached = after c first in
    (is_pure_from 1 c && is_pure_from 1 d, faults.at_start)
    ∷ (goes c first, faults.at_flip (first_stuck 0 c first))
    ∷ (is_map m reached, faults.at_map)
    ∷ (goes (image m reached) second, faults.at_flip (first_stuck (length first) (image m reached) second))
    ∷ (same_facets (after (image m reached) second) d, faults.at_end 0)
    ∷ []
tests faults (Manifold c blocks) =
    (is_pure_from 2 c, faults.at_start)
    ∷ (pointwise nat_eq (block_vertices blocks) (verts c), faults.at_block (first_difference (block_vertices blocks) (verts c)))
    ∷ block_tests faults 0 c blocks

-- the fault of the first test that fails, if one does
abbrev pub first_fault : {F : Type 0} → Faults F → Certificate → Option F
first_fault faults c = first_failing (tests faults c)
