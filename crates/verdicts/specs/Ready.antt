-- A complex that a walk can begin with.
use Rattle.std.specs.Prelude.{ℕ, ◌+◌, ◌≤◌, List, length, IsTrue}
use Rattle.simplex.specs.Simplex.{label_limit}
use Rattle.facet_set.specs.Complex.{verts}
use Rattle.flip_certificate.specs.Lines.{is_start}
use Rattle.flip_certificate.specs.Valid.{is_pure_from}

-- the list is that of the facets of a complex, pure of at least n labels a facet, with labels left for so many flips
pub record IsReady (n : ℕ) (c : List (List ℕ)) (budget : ℕ) : Type 0 where
  pub start : IsTrue (is_start c)
  pub pure : IsTrue (is_pure_from n c)
  pub room : length (verts c) + budget ≤ label_limit
