-- What makes the verdicts believable: each yes is a sound certificate of the complexes asked about, and each undecided answer
-- belongs to a walk that made its whole budget and met no simplex boundary.
use Rattle.std.specs.Prelude.{◌≡◌, ℕ, List, None, IsTrue}
use Rattle.simplex.specs.FirstFailing.{first_failing}
use Rattle.facet_set.specs.Flips.{undoing}
use Rattle.flip_certificate.specs.Lines.{is_start}
use Rattle.flip_certificate.specs.Valid.{is_pure_from}
use Rattle.flip_certificate.specs.declared.certificate.Certificate.{Certificate}
use Rattle.flip_certificate.specs.declared.certificate.Certificate.TheVariants.{Sphere, Equivalent, Manifold}
use Rattle.verdicts.specs.Sound.{IsSound, UndecidedInVain, CountedInVain}
use Rattle.verdicts.specs.Tests.{sphere_tests, equivalent_tests, manifold_tests}
use Rattle.verdicts.specs.Verdicts.{found, blocks_of, sphere_of, equivalent_of, manifold_of}
use Rattle.verdicts.specs.declared.verdict.Verdict.TheVariants.{Yes}

-- the flips of the walk carry the complex to the boundary of a simplex
abbrev pub SphereYes : Type 0
SphereYes =
    (c : List (List ℕ)) (budget seed : ℕ) (k : Certificate) → IsTrue (is_start c) → IsTrue (is_pure_from 1 c) → sphere_of c budget seed ≡ Yes k
    → IsSound k × (k ≡ Sphere c (found c budget seed))

-- the flips of the one walk, a map, and the inverses of the flips of the other walk carry the one complex to the other
abbrev pub EquivalentYes : Type 0
EquivalentYes =
    (c d : List (List ℕ)) (budget seed : ℕ) (k : Certificate) → IsTrue (is_start c) → IsTrue (is_start d) → IsTrue (is_pure_from 1 c) → IsTrue (is_pure_from 1 d)
    → equivalent_of c d budget seed ≡ Yes k
    → IsSound k × ((m : List (ℕ × ℕ)) × (k ≡ Equivalent c d (found c budget seed) m (undoing (found d budget seed))))

-- the flips of each walk carry the link of its vertex to the boundary of a simplex
abbrev pub ManifoldYes : Type 0
ManifoldYes =
    (c : List (List ℕ)) (budget seed : ℕ) (k : Certificate) → IsTrue (is_start c) → IsTrue (is_pure_from 2 c) → manifold_of c budget seed ≡ Yes k
    → IsSound k × (k ≡ Manifold c (blocks_of c budget seed))

-- where the tests pass, no sphere is undecided but by a walk in vain
abbrev pub SphereVain : Type 0
SphereVain =
    (c : List (List ℕ)) (budget seed : ℕ) → IsTrue (is_start c) → first_failing (sphere_tests c budget) ≡ None → UndecidedInVain c budget seed (sphere_of c budget seed)

-- no equivalence is undecided but by a walk in vain, from the one complex or from the other
abbrev pub EquivalentVain : Type 0
EquivalentVain =
    (c d : List (List ℕ)) (budget seed : ℕ) → IsTrue (is_start c) → IsTrue (is_start d) → first_failing (equivalent_tests c d budget) ≡ None
    → CountedInVain c d budget seed (equivalent_of c d budget seed)

-- no manifold is undecided but by a walk in vain, from the link of a vertex
abbrev pub ManifoldVain : Type 0
ManifoldVain =
    (c : List (List ℕ)) (budget seed : ℕ) → IsTrue (is_start c) → first_failing (manifold_tests c budget) ≡ None → UndecidedInVain c budget seed (manifold_of c budget seed)
