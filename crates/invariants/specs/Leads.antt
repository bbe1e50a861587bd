-- What leads from one complex to another.
use Rattle.std.specs.Prelude.{ℕ, List, IsTrue, ◌&&◌, Bool}
use Rattle.std.specs.List.{list_all}
use Rattle.simplex.specs.Simplex.{is_label, is_simplex}
use Rattle.simplex.specs.declared.flip.Flip.{Flip}
use Rattle.facet_set.specs.Flips.{allowed, flip}
use Rattle.facet_set.specs.Maps.{image, is_map}

-- whether the sets of the flip are simplices
abbrev pub is_flip : Flip → Bool
is_flip m = is_simplex m.a && is_simplex m.b

-- whether the pairs give each vertex a label, and no two vertices one
abbrev pub is_relabelling : List (ℕ × ℕ) → List (List ℕ) → Bool
is_relabelling m c = is_map m c && list_all (λ p. is_label p.1) m

-- a finite list of steps that leads from one complex to another, each an allowed flip or a bijection of the vertices to labels
pub data Leads : List (List ℕ) → List (List ℕ) → Type 0 where
  here : {c : List (List ℕ)} → Leads c c
  flipped : {c d : List (List ℕ)} (m : Flip) → IsTrue (is_flip m) → IsTrue (allowed c m.a m.b) → Leads (flip c m.a m.b) d → Leads c d
  renamed : {c d : List (List ℕ)} (m : List (ℕ × ℕ)) → IsTrue (is_relabelling m c) → Leads (image m c) d → Leads c d
