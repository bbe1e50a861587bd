-- Which cells nobody needs.
use Rattle.std.proofs.Common.{◌≡◌, ℕ, ◌<◌, true, false, cond, List, length, get_or, Some, sym, ap, ◌∙◌}
use mathlib.Core.Bool.{true≢false}
use Rattle.std.specs.Bool.{IsTrue}
use Rattle.std.proofs.lemmas.List.Folds.{list_any_at}
use Rattle.simplex.specs.Simplex.{is_simplex, is_within}
use Rattle.simplex.proofs.Members.{In}
use Rattle.facet_set.specs.Complex.{is_face}
use Rattle.facet_set.proofs.ComplexLaws.{face_at}
use Rattle.simplex.proofs.Decided.{false_from}
use Rattle.simplex.proofs.SubsetLaws.{subset_within}
use Rattle.facet_set.proofs.FaceNumbers.{kept_after}
use Rattle.facet_set.proofs.GeneratedLaws.{is_reached, reached_at}
use Rattle.face_lattice.specs.Slots.{SlabState, cell_at, kept, put_blank, asked_at, HasNoMoreIdle}
use Rattle.face_lattice.specs.States.{is_idle}
use Rattle.face_lattice.proofs.LastLaws.{idle_alike}

outside : (f : List ℕ) (n : ℕ) (t : List ℕ) → is_within t f ≡ false → is_reached f n t ≡ false
outside f n t w = false_from _ (λ r. let q = reached_at f n t r in true≢false (sym (subset_within f q.0) ∙ ap (λ u. is_within u f) (sym q.2) ∙ w))

-- cells are made within an outer set alone
pub idle_outside : (old new : SlabState) (f : List ℕ) (n : ℕ) → ((t : List ℕ) → kept new t ≡ kept_after put_blank f n (kept old) t) → ((t : List ℕ) → asked_at new t ≡ asked_at old t)
    → (t : List ℕ) → is_within t f ≡ false → is_idle (cell_at new t) ≡ is_idle (cell_at old t)
idle_outside old new f n k a t w =
    idle_alike (cell_at new t) (cell_at old t) (k t ∙ ap (λ b. cond b (Some (put_blank f t (kept old t))) (kept old t)) (outside f n t w)) (a t)

pub idle_same : (old new : SlabState) → ((t : List ℕ) → kept new t ≡ kept old t) → ((t : List ℕ) → asked_at new t ≡ asked_at old t) → (t : List ℕ) → is_idle (cell_at new t) ≡ is_idle (cell_at old t)
idle_same old new k a t = idle_alike (cell_at new t) (cell_at old t) (k t) (a t)

pub still_not : (old new : SlabState) (t : List ℕ) → HasNoMoreIdle old new → is_idle (cell_at old t) ≡ false → is_idle (cell_at new t) ≡ false
still_not old new t h e = false_from _ (λ i. true≢false (sym (h t i) ∙ e))

-- what is a face of no simplex of the list is none of each
pub none_of : (list : List (List ℕ)) (i : ℕ) (d t : List ℕ) → i < length list → is_face list t ≡ false → is_within t (get_or list i d) ≡ false
none_of list i d t l w = false_from _ (λ h. true≢false (sym (list_any_at (is_within t) list i d l h) ∙ w))

pub each_gone : (list : List (List ℕ)) (v : SlabState) → ((s : List ℕ) → In s list → (t : List ℕ) → IsTrue (is_simplex t) → IsTrue (is_within t s) → is_idle (cell_at v t) ≡ false)
    → (t : List ℕ) → IsTrue (is_simplex t) → is_face list t ≡ true → is_idle (cell_at v t) ≡ false
each_gone list v h t st f = let s = face_at list t f in h s.0 s.1 t st s.2
