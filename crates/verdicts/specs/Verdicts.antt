-- The verdicts.
--     sphere_of c budget seed            yes where the walk met, with its flips
--     equivalent_of c d budget seed      yes where some bijection carries the goal of the one walk to that of the other
--     manifold_of c budget seed          yes where the walk on the link of each vertex met
use Rattle.std.specs.Prelude.{ℕ, ◌+◌, Bool, not, List, map, Option, Some, None, if◌then◌else◌}
use Rattle.std.specs.List.{find}
use Rattle.simplex.specs.declared.flip.Flip.{Flip}
use Rattle.facet_set.specs.Complex.{verts}
use Rattle.facet_set.specs.Flips.{undoing}
use Rattle.annealer.specs.Walk.{walk, has_met, to_goal, goal}
use Rattle.relabelling.specs.Bijections.{first_map}
use Rattle.flip_certificate.specs.Valid.{vertex_link}
use Rattle.flip_certificate.specs.declared.block.Block.{Block}
use Rattle.flip_certificate.specs.declared.certificate.Certificate.TheVariants.{Sphere, Equivalent, Manifold}
use Rattle.verdicts.specs.declared.verdict.Verdict.{Verdict}
use Rattle.verdicts.specs.declared.verdict.Verdict.TheVariants.{Yes, Undecided, UndecidedAt}

-- the flips of the walk to its goal, its goal, and whether it met a simplex boundary
abbrev pub found : List (List ℕ) → ℕ → ℕ → List Flip
found c budget seed = to_goal c (walk c seed budget)

abbrev pub reached : List (List ℕ) → ℕ → ℕ → List (List ℕ)
reached c budget seed = goal c (walk c seed budget)

abbrev pub meets : List (List ℕ) → ℕ → ℕ → Bool
meets c budget seed = has_met c (walk c seed budget)

-- the flips that a walk spent in vain: its budget where it did not meet
abbrev pub spent : List (List ℕ) → ℕ → ℕ → ℕ
spent c budget seed = if meets c budget seed then 0 else budget

abbrev pub sphere_of : List (List ℕ) → ℕ → ℕ → Verdict
sphere_of c budget seed = if meets c budget seed then Yes (Sphere c (found c budget seed)) else Undecided budget

abbrev pub equivalence_by : Option (List (ℕ × ℕ)) → List (List ℕ) → List (List ℕ) → ℕ → ℕ → Verdict
equivalence_by (Some m) c d budget seed = Yes (Equivalent c d (found c budget seed) m (undoing (found d budget seed)))
equivalence_by None c d budget seed = Undecided (spent c budget seed + spent d budget seed)

abbrev pub equivalent_of : List (List ℕ) → List (List ℕ) → ℕ → ℕ → Verdict
equivalent_of c d budget seed = equivalence_by (first_map (reached c budget seed) (reached d budget seed)) c d budget seed

-- a block for each vertex, with the flips of the walk on its link
abbrev pub block_of : List (List ℕ) → ℕ → ℕ → ℕ → Block
block_of c budget seed v = record { vertex = v; flips = found (vertex_link c v) budget seed }

abbrev pub blocks_of : List (List ℕ) → ℕ → ℕ → List Block
blocks_of c budget seed = map (block_of c budget seed) (verts c)

-- the first vertex whose link's walk did not meet
abbrev pub first_unmet : List (List ℕ) → ℕ → ℕ → Option ℕ
first_unmet c budget seed = find (λ v. not (meets (vertex_link c v) budget seed)) (verts c)

abbrev pub manifold_by : Option ℕ → List (List ℕ) → ℕ → ℕ → Verdict
manifold_by (Some v) c budget seed = UndecidedAt v budget
manifold_by None c budget seed = Yes (Manifold c (blocks_of c budget seed))

abbrev pub manifold_of : List (List ℕ) → ℕ → ℕ → Verdict
manifold_of c budget seed = manifold_by (first_unmet c budget seed) c budget seed
