-- What is read off the cells of a list of facets.
use Rattle.std.proofs.Common.{◌≡◌, ℕ, ◌<◌, Bool, true, false, cond, List, [], Option, Some, None, IfSome, ltb, refl, ◌∙◌, arith}
use Rattle.std.specs.Bool.{IsTrue}
use Rattle.std.specs.Prelude.{◌==◌}
use Rattle.std.specs.Option.{option_map}
use Rattle.std.proofs.lemmas.Bool.Decides.{nat_tests}
use Rattle.simplex.specs.Simplex.{is_simplex}
use Rattle.facet_set.specs.Complex.{is_face}
use Rattle.facet_set.specs.Flips.{link_vertices}
use Rattle.facet_set.specs.Numbers.{degree}
use Rattle.face_lattice.proofs.CellLaws.{IsRead, read_at, is_there, or_blank, some_with, no_facet_no_face_lem}
use Rattle.face_lattice.specs.States.{CellState, shown}
use Rattle.face_lattice.specs.Slots.{seen}
use Rattle.face_lattice.specs.Slots.{AreCellsOf}

abbrev pub degree_or : Option CellState → ℕ
degree_or None = 0
degree_or (Some x) = x.degree

abbrev pub up_or : Option CellState → List ℕ
up_or None = []
up_or (Some x) = x.up

pub record IsReadOf (c : List (List ℕ)) (s : List ℕ) (o : Option CellState) : Type 0 where
  pub degree_is : degree_or o ≡ degree c s
  pub up_is : up_or o ≡ link_vertices c s

read_off : (c : List (List ℕ)) (s : List ℕ) (o : Option CellState) → IsRead c s (is_there (seen (option_map shown o))) (or_blank (seen (option_map shown o)))
    → IfSome o (λ x. x.degree ≡ 0 → x.up ≡ []) → IsReadOf c s o
read_off c s None r g = record { degree_is = r.degree_is; up_is = r.up_is }
read_off c s (Some x) r g = by (x.degree == 0) refl r
  where
    by : (b : Bool) → (x.degree == 0) ≡ b → IsRead c s (is_there (cond b None (Some (shown x)))) (or_blank (cond b None (Some (shown x)))) → IsReadOf c s (Some x)
    by true e r = let z : x.degree ≡ 0 = grind (arith, nat_tests) in record { degree_is = z ∙ r.degree_is; up_is = g z ∙ r.up_is }
    by false e r = record { degree_is = r.degree_is; up_is = r.up_is }

pub read_of : (c : List (List ℕ)) (cells : List ℕ → Option CellState) (s : List ℕ) → AreCellsOf c cells → IsTrue (is_simplex s) → IsReadOf c s (cells s)
read_of c cells s h i = read_off c s (cells s) (read_at c s (seen (option_map shown (cells s))) i (h.seen s)) (h.blank s)

pub some_degree : (c : List (List ℕ)) (s : List ℕ) (n : ℕ) → n ≡ degree c s → ltb 0 n ≡ is_face c s
some_degree c s n e = by (is_face c s) refl
  where
    by : (v : Bool) → is_face c s ≡ v → ltb 0 n ≡ v
    by true f = let l = some_with c s f in let g : 0 < n = omega (arith, l, e) in grind (arith, nat_tests)
    by false f = let z : n ≡ 0 = e ∙ (no_facet_no_face_lem c s).1 f in grind (arith, nat_tests)
