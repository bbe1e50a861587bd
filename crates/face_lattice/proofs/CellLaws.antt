-- What is kept at the faces of facets.
use Rattle.std.proofs.Common.{◌≡◌, ℕ, suc, ◌<◌, ◌≤◌, Bool, true, false, cond, ◌&&◌, ◌||◌, List, [], ◌∷◌, ◌++◌, length, length-append, Option, Some, None, IfSome, refl, sym, ap, ◌∙◌, subst, arith}
use mathlib.Core.Bool.{true≢false}
use Rattle.std.specs.Bool.{IsTrue}
use Rattle.simplex.specs.Simplex.{is_simplex, is_within, minus}
use Rattle.facet_set.specs.Complex.{is_face, facets_with, verts}
use Rattle.facet_set.specs.Flips.{link_vertices}
use Rattle.facet_set.specs.Numbers.{degree}
use Rattle.facet_set.proofs.FaceTables.{none_with, link_more, kept_more}
use Rattle.face_lattice.specs.Laws.{NoFacetNoFace}
use Rattle.face_lattice.specs.Cells.{FaceCell, blank, cell_of, kept_at, with_facet, put_facet, after_facet}

-- ---- the facets with a face
pub some_with : (c : List (List ℕ)) (s : List ℕ) → is_face c s ≡ true → 0 < degree c s
some_with [] s h = cc
some_with (t ∷ c) s h = by (is_within s t) h (some_with c s)
  where
    by : (b : Bool) → (b || is_face c s) ≡ true → (is_face c s ≡ true → 0 < degree c s) → 0 < length (cond b (t ∷ facets_with c s) (facets_with c s))
    by true k rest = omega arith
    by false k rest = rest k

pub degree_within : (c : List (List ℕ)) (s : List ℕ) → degree c s ≤ length c
degree_within [] s = omega arith
degree_within (t ∷ c) s = by (is_within s t) (degree_within c s)
  where
    by : (b : Bool) → degree c s ≤ length c → length (cond b (t ∷ facets_with c s) (facets_with c s)) ≤ suc (length c)
    by true h = omega (arith, h)
    by false h = omega (arith, h)

-- ---- one facet more
pub cell_is : (d e : ℕ) (up vp : List ℕ) → d ≡ e → up ≡ vp → let x : FaceCell = record { degree = d; up = up } in let y : FaceCell = record { degree = e; up = vp } in x ≡ y
cell_is d e up vp p q = λ i. record { degree = p i; up = q i }

-- the cell of a face that lies in just these facets
abbrev among : List (List ℕ) → List ℕ → FaceCell
among fs s = record { degree = length fs; up = minus (verts fs) s }

one_more : (fs : List (List ℕ)) (f s : List ℕ) → among (fs ++ f ∷ []) s ≡ with_facet f s (among fs s)
one_more fs f s = cell_is _ _ _ _ (length-append fs (f ∷ [])) (link_more fs f s)

-- what is kept under one facet more
pub cells_more : (c : List (List ℕ)) (f s : List ℕ) → kept_at (c ++ f ∷ []) s ≡ after_facet f s (kept_at c s)
cells_more c f s = kept_more among put_facet (one_more []) one_more c f s

-- ---- what is read off
pub few_at : (c : List (List ℕ)) (s : List ℕ) (n : ℕ) (k : Option FaceCell) → k ≡ kept_at c s → length c < n → IfSome k (λ cell. cell.degree < n)
few_at c s n k e l = subst (λ x. IfSome x (λ cell. cell.degree < n)) (sym e) (by (is_simplex s && is_face c s))
  where
    by : (b : Bool) → IfSome (cond b (Some (cell_of c s)) None) (λ cell. cell.degree < n)
    by true = omega (arith, degree_within c s)
    by false = tt

pub record IsRead (c : List (List ℕ)) (s : List ℕ) (face : Bool) (cell : FaceCell) : Type 0 where
  pub face_is : is_face c s ≡ face
  pub degree_is : cell.degree ≡ degree c s
  pub up_is : cell.up ≡ link_vertices c s

abbrev pub or_blank : Option FaceCell → FaceCell
or_blank None = blank
or_blank (Some cell) = cell

abbrev pub is_there : Option FaceCell → Bool
is_there None = false
is_there (Some cell) = true

pub read_at : (c : List (List ℕ)) (s : List ℕ) (k : Option FaceCell) → IsTrue (is_simplex s) → k ≡ kept_at c s → IsRead c s (is_there k) (or_blank k)
read_at c s k h e = subst (λ x. IsRead c s (is_there x) (or_blank x)) (sym (e ∙ ap (λ b. cond (b && is_face c s) (Some (cell_of c s)) None) h)) (by (is_face c s) refl)
  where
    by : (b : Bool) → is_face c s ≡ b → IsRead c s (is_there (cond b (Some (cell_of c s)) None)) (or_blank (cond b (Some (cell_of c s)) None))
    by true f = record { face_is = f; degree_is = refl; up_is = refl }
    by false f = let k = none_with c s f in record { face_is = f; degree_is = sym (ap length k); up_is = sym (ap (λ fs. minus (verts fs) s) k) }

-- a face lies in a facet
pub zero_where : (c : List (List ℕ)) (s : List ℕ) (cell : FaceCell) (n : ℕ) → n ≡ cell.degree → IsRead c s true cell → (n ≡ 0 → is_face c s ≡ false) × (is_face c s ≡ false → n ≡ 0)
zero_where c s cell n e r =
    let some = some_with c s r.face_is in
    (λ z. absurd (omega (arith, e, r.degree_is, some, z)), λ f. absurd (true≢false (sym r.face_is ∙ f)))

pub no_facet_no_face_lem : NoFacetNoFace
no_facet_no_face_lem c s = (λ z. off (is_face c s) (some_with c s) z, λ f. ap length (none_with c s f))
  where
    off : (v : Bool) → (v ≡ true → 0 < degree c s) → degree c s ≡ 0 → v ≡ false
    off true f z = absurd (omega (arith, f refl, z))
    off false f z = refl
