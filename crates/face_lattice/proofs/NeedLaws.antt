-- A cell that nobody needs is there for room alone.
use Rattle.std.proofs.Common.{◌≡◌, ℕ, Bool, true, false, not, cond, ◌&&◌, List, [], length, Option, Some, None, refl, sym, ap, ◌∙◌}
use mathlib.Core.Bool.{true≢false}
use Rattle.std.specs.Bool.{IsTrue}
use Rattle.std.specs.Prelude.{◌==◌, slice_index_or}
use Rattle.std.specs.Option.{option_map}
use Rattle.simplex.specs.Simplex.{is_same, is_simplex, is_within}
use Rattle.simplex.proofs.Decided.{not_from}
use Rattle.simplex.proofs.Members.{in_filter}
use Rattle.facet_set.specs.Complex.{is_face}
use Rattle.facet_set.proofs.ComplexLaws.{face_at, face_from, same_from as set_from}
use Rattle.face_lattice.specs.Lattice.{all_but}
use Rattle.face_lattice.specs.Slots.{SlabState, no_slot, id_of, cell_at, after_more, after_less, after_put_back, beside, unless_idle, HasNoMoreIdle}
use Rattle.face_lattice.specs.States.{CellState, is_idle, put_more, put_less}
use Rattle.face_lattice.proofs.LastLaws.{busy_put}

abbrev pub AreForRoom : (List ℕ → Option CellState) → List (List ℕ) → Type 0
AreForRoom cells room = (s : List ℕ) → IsTrue (is_simplex s) → is_idle (cells s) ≡ true → is_face room s ≡ true

pub none_idle : (v : SlabState) (room : List (List ℕ)) → ((s : List ℕ) → id_of v s ≡ None) → AreForRoom (cell_at v) room
none_idle v room n s st h = absurd (true≢false (sym h ∙ ap (λ o. is_idle (option_map (λ i. (slice_index_or v.slots i no_slot).cell) o)) (n s)))

-- room is given up
pub for_none : (v w : SlabState) (room : List (List ℕ)) → AreForRoom (cell_at v) room → HasNoMoreIdle v w → ((t : List ℕ) → IsTrue (is_simplex t) → is_face room t ≡ true → is_idle (cell_at w t) ≡ false) → AreForRoom (cell_at w) []
for_none v w room h fewer gone t st i = absurd (true≢false (sym i ∙ gone t st (h t st (fewer t i))))

-- room is made where there was none
pub for_these : (v w : SlabState) (list : List (List ℕ)) → AreForRoom (cell_at v) [] → ((t : List ℕ) → is_face list t ≡ false → is_idle (cell_at w t) ≡ is_idle (cell_at v t)) → AreForRoom (cell_at w) list
for_these v w list h k t st i = by (is_face list t) refl
  where
    by : (b : Bool) → is_face list t ≡ b → is_face list t ≡ true
    by true e = e
    by false e = absurd (true≢false (sym (h t st (sym (k t e) ∙ i))))

-- one facet more
more_busy : (f t : List ℕ) (o : Option CellState) → is_idle (Some (put_more f t o)) ≡ false
more_busy f t None = busy_put 0 true
more_busy f t (Some x) = busy_put x.degree (length x.askers == 0)

outside_rest : (room : List (List ℕ)) (f t : List ℕ) → is_within t f ≡ false → is_face room t ≡ true → is_face (all_but f room) t ≡ true
outside_rest room f t w h =
    let r = face_at room t h in
    let other : not (is_same f r.0) ≡ true = not_from (is_same f r.0) (λ e. true≢false (sym r.2 ∙ ap (is_within t) (sym (set_from f r.0 e)) ∙ w)) in
    face_from (all_but f room) t r.0 (in_filter (λ s. not (is_same f s)) r.0 room r.1 other) r.2

pub for_rest : (v w : SlabState) (room : List (List ℕ)) (f : List ℕ) → AreForRoom (cell_at v) room → ((t : List ℕ) → cell_at w t ≡ after_more f t (cell_at v t)) → AreForRoom (cell_at w) (all_but f room)
for_rest v w room f h k t st i = by (is_within t f) refl
  where
    at : (b : Bool) → is_within t f ≡ b → is_idle (cond b (Some (put_more f t (cell_at v t))) (cell_at v t)) ≡ true
    at b e = ap is_idle (sym (k t ∙ (λ j. cond (st j && e j) (Some (put_more f t (cell_at v t))) (cell_at v t)))) ∙ i

    by : (b : Bool) → is_within t f ≡ b → is_face (all_but f room) t ≡ true
    by true e = absurd (true≢false (sym (at true e) ∙ more_busy f t (cell_at v t)))
    by false e = outside_rest room f t e (h t st (at false e))

pub not_idle : (o : Option CellState) → is_idle (unless_idle o) ≡ false
not_idle o = by (is_idle o) refl
  where
    by : (b : Bool) → is_idle o ≡ b → is_idle (cond b None o) ≡ false
    by true e = refl
    by false e = e

-- one facet less
pub for_same : (v w u : SlabState) (room : List (List ℕ)) (f : List ℕ) → AreForRoom (cell_at v) room → ((t : List ℕ) → cell_at w t ≡ after_less f (cell_at v) t) → ((t : List ℕ) → cell_at u t ≡ after_put_back f t (cell_at w t))
    → AreForRoom (cell_at u) room
for_same v w u room f h k g t st i = by (is_simplex t && is_within t f) refl (ap is_idle (sym (g t)) ∙ i)
  where
    by : (b : Bool) → (is_simplex t && is_within t f) ≡ b → is_idle (cond b (unless_idle (cell_at w t)) (cell_at w t)) ≡ true → is_face room t ≡ true
    by true e j = absurd (true≢false (sym j ∙ not_idle (cell_at w t)))
    by false e j = h t st (ap is_idle (sym (k t ∙ ap (λ b. cond b (Some (put_less (beside 1 f (cell_at v) t) (cell_at v t))) (cell_at v t)) e)) ∙ j)

-- askers that go where there is no room
pub for_fewer : (v w : SlabState) (p : List ℕ → Bool) (g : List ℕ → Option CellState) (room : List (List ℕ)) → AreForRoom (cell_at v) room → ((t : List ℕ) → cell_at w t ≡ cond (p t) (unless_idle (g t)) (cell_at v t)) → AreForRoom (cell_at w) room
for_fewer v w p g room h k t st i = by (p t) (ap is_idle (sym (k t)) ∙ i)
  where
    by : (b : Bool) → is_idle (cond b (unless_idle (g t)) (cell_at v t)) ≡ true → is_face room t ≡ true
    by true j = absurd (true≢false (sym j ∙ not_idle (g t)))
    by false j = h t st j
