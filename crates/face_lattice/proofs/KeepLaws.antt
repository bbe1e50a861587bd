-- What the passes require of the cells of a list of facets, and what leaves these cells as they are.
use Rattle.std.proofs.Common.{◌≡◌, ℕ, ◌<◌, ◌-◌, ◌^◌, Bool, true, false, cond, ◌&&◌, List, [], length, Option, Some, None, IfSome, IsSomeAnd, refl, sym, ap, ◌∙◌, subst, arith}
use Rattle.std.specs.Prelude.{◌==◌}
use Rattle.std.specs.Option.{option_map}
use Rattle.std.proofs.lemmas.Bool.Decides.{nat_tests}
use Rattle.simplex.specs.Simplex.{is_simplex, subset_at}
use Rattle.simplex.proofs.SubsetLaws.{subset_within}
use Rattle.simplex.proofs.Filled.{simplex-subset_at}
use Rattle.facet_set.specs.Complex.{is_face}
use Rattle.facet_set.specs.Numbers.{degree}
use Rattle.face_lattice.specs.Cells.{FaceCell, cell_of, kept_at, same}
use Rattle.facet_set.proofs.GeneratedLaws.{same_at}
use Rattle.face_lattice.proofs.CellLaws.{degree_within}
use Rattle.face_lattice.specs.States.{CellState, shown}
use Rattle.face_lattice.specs.Slots.{cell_at, kept, seen, or_blank, unless_idle, AreCellsOf}
use Rattle.face_lattice.proofs.Statements.{DegreesAreFew, FacesArePresent, NotesKeep, RoomKeeps, PutBackKeeps}
use Rattle.face_lattice.proofs.ListLaws.{old_at, none_is, or_this}

pub present : FacesArePresent
present c f v s h k l =
    let o = old_at c f (cell_at v) s h (subset_at f k) (simplex-subset_at f k s) (subset_within f k) in
    subst (λ x. IsSomeAnd x (λ (y : CellState). 0 < y.degree)) (sym o.is) o.some

few_at : (c : List (List ℕ)) (t : List ℕ) (o : Option CellState) → length c < 2 ^ 64 - 1 → seen (option_map shown o) ≡ kept_at c t → IfSome o (λ x. x.degree < 2 ^ 64 - 1)
few_at c t None l e = tt
few_at c t (Some x) l e = by (x.degree == 0) refl (is_simplex t && is_face c t) e
  where
    by : (b : Bool) → (x.degree == 0) ≡ b → (v : Bool) → cond b None (Some (shown x)) ≡ cond v (Some (cell_of c t)) None → x.degree < 2 ^ 64 - 1
    by true q v g = let z : x.degree ≡ 0 = grind (arith, nat_tests) in omega (arith, z)
    by false q true g = let d : x.degree ≡ degree c t = ap (λ o. (or_this (shown x) o).degree) g in omega (arith, d, degree_within c t, l)
    by false q false g = absurd (none_is (shown x) (sym g))

pub few : DegreesAreFew
few c v l h t = few_at c t (cell_at v t) l (h.seen t)

-- whether a blank cell has no link vertices is told by what is kept
abbrev IsClear : Option FaceCell → Type 0
IsClear o = IfSome o (λ x. x.degree ≡ 0 → x.up ≡ [])

clear_at : (o : Option CellState) → IfSome o (λ x. x.degree ≡ 0 → x.up ≡ []) → IsClear (option_map shown o)
clear_at None h = tt
clear_at (Some x) h = h

clear_from : (o : Option CellState) → IsClear (option_map shown o) → IfSome o (λ x. x.degree ≡ 0 → x.up ≡ [])
clear_from None h = tt
clear_from (Some x) h = h

pub room_keeps : RoomKeeps
room_keeps c old new h k = record {
  seen = λ t. ap seen (k t) ∙ h.seen t;
  blank = λ t. clear_from (cell_at new t) (subst (λ o. IsClear o) (sym (k t)) (clear_at (cell_at old t) (h.blank t)));
}

seen_blank : (o : Option FaceCell) → seen (Some (or_blank o)) ≡ seen o
seen_blank None = refl
seen_blank (Some x) = refl

clear_blank : (o : Option FaceCell) → IsClear o → IsClear (Some (or_blank o))
clear_blank None h = λ z. refl
clear_blank (Some x) h = h

pub note_keeps : NotesKeep
note_keeps c p old new h k = record {
  seen = λ t. ap seen (k t) ∙ by t (p t) ∙ h.seen t;
  blank = λ t. clear_from (cell_at new t) (subst (λ o. IsClear o) (sym (k t)) (none_left t (p t)));
}
  where
    by : (t : List ℕ) (b : Bool) → seen (cond b (Some (or_blank (kept old t))) (kept old t)) ≡ seen (kept old t)
    by t true = seen_blank (kept old t)
    by t false = refl

    none_left : (t : List ℕ) (b : Bool) → IsClear (cond b (Some (or_blank (kept old t))) (kept old t))
    none_left t true = clear_blank (kept old t) (clear_at (cell_at old t) (h.blank t))
    none_left t false = clear_at (cell_at old t) (h.blank t)

pub seen_unless : (o : Option CellState) → seen (option_map shown (unless_idle o)) ≡ seen (option_map shown o)
seen_unless None = refl
seen_unless (Some x) = by (x.degree == 0) (length x.askers == 0) refl
  where
    by : (b v : Bool) → (x.degree == 0) ≡ b → seen (option_map shown (cond (b && v) None (Some x))) ≡ cond (x.degree == 0) None (Some (shown x))
    by true true e = sym (ap (λ v. cond v None (Some (shown x))) e)
    by true false e = refl
    by false v e = refl

pub blank_unless : (o : Option CellState) → IfSome o (λ x. x.degree ≡ 0 → x.up ≡ []) → IfSome (unless_idle o) (λ x. x.degree ≡ 0 → x.up ≡ [])
blank_unless None h = tt
blank_unless (Some x) h = by (x.degree == 0 && length x.askers == 0)
  where
    by : (b : Bool) → IfSome (cond b None (Some x)) (λ (y : CellState). y.degree ≡ 0 → y.up ≡ [])
    by true = tt
    by false = h

pub put_back_keeps : PutBackKeeps
put_back_keeps c p old new h k = record {
  seen = λ t. ap (λ o. seen (option_map shown o)) (k t) ∙ by t (p t) ∙ h.seen t;
  blank = λ t. subst (λ o. IfSome o (λ (x : CellState). x.degree ≡ 0 → x.up ≡ [])) (sym (k t)) (none_left t (p t));
}
  where
    by : (t : List ℕ) (b : Bool) → seen (option_map shown (cond b (unless_idle (old t)) (old t))) ≡ seen (option_map shown (old t))
    by t true = seen_unless (old t)
    by t false = refl

    none_left : (t : List ℕ) (b : Bool) → IfSome (cond b (unless_idle (old t)) (old t)) (λ x. x.degree ≡ 0 → x.up ≡ [])
    none_left t true = blank_unless (old t) (h.blank t)
    none_left t false = h.blank t

-- one blank cell given back
pub one_back : (c : List (List ℕ)) (s : List ℕ) (old new : List ℕ → Option CellState) → AreCellsOf c old → ((t : List ℕ) → new t ≡ cond (same s t) (unless_idle (old s)) (old t)) → AreCellsOf c new
one_back c s old new h k = put_back_keeps c (same s) old new h (λ t. k t ∙ by t (same s t) refl)
  where
    by : (t : List ℕ) (b : Bool) → same s t ≡ b → cond b (unless_idle (old s)) (old t) ≡ cond b (unless_idle (old t)) (old t)
    by t true e = ap (λ u. unless_idle (old u)) (same_at s t e)
    by t false e = refl
