-- What makes the spelling and the tests believable.
use Rattle.std.specs.Prelude.{◌≡◌, ◌↔◌, ◌≤◌, ◌<◌, ℕ, ◌+◌, false, List, [], ◌++◌, take, length, slice_get, Some, Ok, Err, IsTrue}
use Rattle.std.specs.Option.{is_none}
use Rattle.simplex.specs.declared.flip.Flip.{Flip}
use Rattle.facet_set.specs.Flips.{allowed, after, goes}
use Rattle.flip_certificate.specs.declared.certificate.Certificate.{Certificate}
use Rattle.flip_certificate.specs.Lines.{Spells, IsFormLine}
use Rattle.flip_certificate.specs.Reading.{reading}
use Rattle.flip_certificate.specs.Valid.{Faults, is_valid, first_fault, flips_that_go, first_difference}

-- no text is that of two certificates
abbrev pub OneCertificate : Type 0
OneCertificate = (c d : Certificate) (bytes : List ℕ) → Spells c bytes → Spells d bytes → c ≡ d

-- no certificate has two texts
abbrev pub OneText : Type 0
OneText = (c : Certificate) (bytes others : List ℕ) → Spells c bytes → Spells c others → bytes ≡ others

-- no certificate's text is a proper front of another's
abbrev pub NoneBeginsAnother : Type 0
NoneBeginsAnother = (c d : Certificate) (bytes rest : List ℕ) → Spells c (bytes ++ rest) → Spells d bytes → rest ≡ []

-- a certificate is valid exactly where none of the tests fails
abbrev pub ValidHasNoFault : {F : Type 0} → Faults F → Type 0
ValidHasNoFault faults = (c : Certificate) → is_valid c ≡ is_none (first_fault faults c)

-- a certificate is read exactly where it is spelled
abbrev pub ReadsTheSpelled : Type 0
ReadsTheSpelled = (bytes : List ℕ) (c : Certificate) → (reading bytes ≡ Ok c) ↔ Spells c bytes

-- where none is read, the line answered is the first behind the most lines with which some spelling begins
abbrev pub FormLines : Type 0
FormLines = (bytes : List ℕ) (line : ℕ) → reading bytes ≡ Err line → IsFormLine bytes line

-- the first n flips go one after another, and the next one, if there is one, is not allowed where it stands
pub record GoJustSoFar (c : List (List ℕ)) (ms : List Flip) (n : ℕ) : Type 0 where
  pub within : n ≤ length ms
  pub going : IsTrue (goes c (take n ms))
  pub stuck : (m : Flip) → slice_get ms n ≡ Some m → allowed (after c (take n ms)) m.a m.b ≡ false

-- so many flips go just so far: the flip that a fault names is the first that is not allowed
abbrev pub FirstStuck : Type 0
FirstStuck = (c : List (List ℕ)) (ms : List Flip) (n : ℕ) → (flips_that_go c ms ≡ n) ↔ GoJustSoFar c ms n

-- the lists agree before the place n, counted from 1, and differ at it: by a number, or since one of them has ended
pub record DifferFirstAt (xs ys : List ℕ) (n : ℕ) : Type 0 where
  pub alike : (k : ℕ) → k + 1 < n → slice_get xs k ≡ slice_get ys k
  pub apart : (k : ℕ) → k + 1 ≡ n → slice_get xs k ≡ slice_get ys k → ⊥

-- lists that are not one differ first at the place that is named
abbrev pub FirstDifference : Type 0
FirstDifference = (xs ys : List ℕ) → (xs ≡ ys → ⊥) → DifferFirstAt xs ys (first_difference xs ys)
