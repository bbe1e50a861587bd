-- What makes a verdict one to rely on.
use Rattle.std.specs.Prelude.{◌≡◌, ◌⊎◌, ℕ, true, false, List, length, IsTrue}
use Rattle.simplex.specs.Members.{In}
use Rattle.facet_set.specs.Complex.{verts}
use Rattle.annealer.specs.Walk.{walk, has_met}
use Rattle.flip_certificate.specs.Lines.{is_held, is_shaped}
use Rattle.flip_certificate.specs.Valid.{is_valid, vertex_link}
use Rattle.flip_certificate.specs.declared.certificate.Certificate.{Certificate}
use Rattle.verdicts.specs.declared.verdict.Verdict.{Verdict}
use Rattle.verdicts.specs.declared.verdict.Verdict.TheVariants.{Yes, Undecided, UndecidedAt}

-- a certificate that is valid and can be written
pub record IsSound (k : Certificate) : Type 0 where
  pub valid : IsTrue (is_valid k)
  pub held : IsTrue (is_held k)
  pub shaped : IsTrue (is_shaped k)

-- the certificate of a yes is sound
abbrev pub YesIsSound : Verdict → Type 0
YesIsSound (Yes k) = IsSound k
YesIsSound (Undecided spent) = Unit {0}
YesIsSound (UndecidedAt vertex spent) = Unit {0}

-- the walk made its whole budget and did not meet a simplex boundary
pub record WalkedInVain (c : List (List ℕ)) (budget seed : ℕ) : Type 0 where
  pub made : length (walk c seed budget) ≡ budget
  pub unmet : has_met c (walk c seed budget) ≡ false

-- an undecided answer belongs to a walk in vain: from the complex, or from the link of the vertex that it names
abbrev pub UndecidedInVain : List (List ℕ) → ℕ → ℕ → Verdict → Type 0
UndecidedInVain c budget seed (Yes k) = Unit {0}
UndecidedInVain c budget seed (Undecided spent) = WalkedInVain c budget seed
UndecidedInVain c budget seed (UndecidedAt vertex spent) = In vertex (verts c) × WalkedInVain (vertex_link c vertex) budget seed

-- the walk met a simplex boundary, or it was in vain
abbrev pub MetOrInVain : List (List ℕ) → ℕ → ℕ → Type 0
MetOrInVain c budget seed = (has_met c (walk c seed budget) ≡ true) ⊎ WalkedInVain c budget seed

-- of two walks one at least was in vain, and each met a simplex boundary or was in vain
pub record OneInVain (c d : List (List ℕ)) (budget seed : ℕ) : Type 0 where
  pub some : WalkedInVain c budget seed ⊎ WalkedInVain d budget seed
  pub first : MetOrInVain c budget seed
  pub second : MetOrInVain d budget seed

-- an undecided answer belongs to two walks of which one at least was in vain, and each that did not meet was
abbrev pub CountedInVain : List (List ℕ) → List (List ℕ) → ℕ → ℕ → Verdict → Type 0
CountedInVain c d budget seed (Yes k) = Unit {0}
CountedInVain c d budget seed (Undecided spent) = OneInVain c d budget seed
CountedInVain c d budget seed (UndecidedAt vertex spent) = ⊥
