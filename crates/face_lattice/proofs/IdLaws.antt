-- What has an id, and who asks.
use Rattle.std.proofs.Common.{◌≡◌, ℕ, Bool, true, false, not, cond, ◌&&◌, ◌||◌, List, [], ◌∷◌, length, ltb, Option, Some, None, IsSome, refl, sym, ap, ◌∙◌, inl, inr, arith}
use mathlib.Core.Bool.{true≢false}
use Rattle.std.specs.Bool.{IsTrue}
use Rattle.std.specs.Prelude.{◌==◌, unwrap_or}
use Rattle.std.specs.Map.{lookup}
use Rattle.std.proofs.lemmas.Bool.Decides.{nat_tests}
use Rattle.simplex.specs.Simplex.{is_simplex, without}
use Rattle.simplex.proofs.Decided.{agree, or_cases, or_left, or_right}
use Rattle.simplex.proofs.InOrderLaws.{and_both}
use Rattle.facet_set.specs.Complex.{facets_with, is_face, verts}
use Rattle.facet_set.proofs.FaceNumbers.{same_from}
use Rattle.facet_set.proofs.GeneratedLaws.{same_at}
use Rattle.face_lattice.specs.Cells.{same}
use Rattle.face_lattice.specs.Lattice.{LatticeState, IsLattice, AreIdsNeeded, askers_in, facets_in, has_id, id_in, is_held}
use Rattle.face_lattice.specs.Slots.{SlabState, askers_of, asked_at, cell_at, id_of, AreCellsOf}
use Rattle.face_lattice.specs.States.{CellState, HasRoom, asked, is_busy, is_idle}
use Rattle.face_lattice.proofs.AskLaws.{some_id_at, some_id_from, used_cell}
use Rattle.face_lattice.proofs.HoldLaws.{askers_are, asked_there, held_busy}
use Rattle.face_lattice.proofs.LastLaws.{busy_id}
use Rattle.face_lattice.proofs.PlaceLaws.{is_some_and}
use Rattle.face_lattice.proofs.ReadLaws.{degree_or, read_of, some_degree}
use Rattle.face_lattice.proofs.ViewLaws.{id_from}

-- who asks, before and after
pub asked_seen : (l : LatticeState) (v w : SlabState) (p : List ℕ → Bool) (g : List ℕ → List ℕ) → l.askers ≡ askers_of v → ((t : List ℕ) → asked_at w t ≡ cond (p t) (g (asked_at v t)) (asked_at v t))
    → (t : List ℕ) → unwrap_or (lookup (same t) (askers_of w)) [] ≡ cond (p t) (g (askers_in l t)) (askers_in l t)
asked_seen l v w p g e k t = askers_are w t ∙ k t ∙ sym (ap (λ xs. cond (p t) (g xs) xs) (asked_there l v t e))

pub asked_still : (l : LatticeState) (v w : SlabState) → l.askers ≡ askers_of v → ((t : List ℕ) → asked_at w t ≡ asked_at v t) → (t : List ℕ) → unwrap_or (lookup (same t) (askers_of w)) [] ≡ askers_in l t
asked_still l v w e k t = askers_are w t ∙ k t ∙ sym (asked_there l v t e)

-- what is held, as the slab has it
held_in : (c : List (List ℕ)) (v : SlabState) (s : List ℕ) → Bool
held_in c v s = (is_simplex s && is_face c s) || not (length (asked_at v s) == 0)

held_is : (c : List (List ℕ)) (v : SlabState) (s : List ℕ) → ((is_simplex s && is_face c s) || not (length (unwrap_or (lookup (same s) (askers_of v)) []) == 0)) ≡ ((is_simplex s && is_face c s) || not (length (asked_at v s) == 0))
held_is c v s = ap (λ xs. (is_simplex s && is_face c s) || not (length xs == 0)) (askers_are v s)

pub ids_of_held : (v w : SlabState) (c : List (List ℕ)) → AreCellsOf c (cell_at w) → ((t : List ℕ) → is_busy (cell_at w t) ≡ true → id_of w t ≡ id_of v t)
    → (s : List ℕ) → ((is_simplex s && is_face c s) || not (length (unwrap_or (lookup (same s) (askers_of w)) []) == 0)) ≡ true → id_of w s ≡ id_of v s
ids_of_held v w c are k s h = k s (held_busy c w s are (sym (held_is c w s) ∙ h))

-- what is held with fewer askers is held
pub held_more : (mid new : LatticeState) (s : List ℕ) (b : Bool) (a : ℕ) → new.facets ≡ mid.facets → askers_in new s ≡ cond b (without (askers_in mid s) a) (askers_in mid s) → is_held new s ≡ true → is_held mid s ≡ true
held_more mid new s b a f k h =
    elim (or_cases (is_simplex s && is_face new.facets s) _ h) [
      | inl i ↦ or_left (is_simplex s && is_face mid.facets s) _ (ap (λ c. is_simplex s && is_face c s) (sym f) ∙ i)
      | inr i ↦ or_right (is_simplex s && is_face mid.facets s) _ (by b (askers_in mid s) (ap (λ xs. not (length xs == 0)) (sym k) ∙ i))
    ]
  where
    by : (b : Bool) (xs : List ℕ) → not (length (cond b (without xs a) xs) == 0) ≡ true → not (length xs == 0) ≡ true
    by true [] h = h
    by true (x ∷ xs) h = let e : (length (x ∷ xs) == 0) ≡ false = grind (arith, nat_tests) in ap not e
    by false xs h = h

pub has_is_same : (l : LatticeState) (face : List ℕ) (i : ℕ) (first : List ℕ) → id_in l first ≡ Some i → ((s : List ℕ) → id_in l s ≡ Some i → face ≡ s) → (s : List ℕ) → has_id l s i ≡ same face s
has_is_same l face i first e only s = agree _ _
    (λ h. same_from face s (only s (some_id_at i (id_in l s) h)))
    (λ h. some_id_from i (id_in l s) (ap (id_in l) (sym (same_at face s h) ∙ only first e) ∙ e))

-- ---- exactly what is needed has an id
module _ (v : SlabState) (counts : List ℕ) (room : List (List ℕ)) (places changes : ℕ) (h : IsLattice v counts room places) where
  some_held : (s : List ℕ) (o : Option CellState) → IsSome o → degree_or o ≡ degree_or (cell_at v s) → asked o ≡ asked_at v s → IsTrue (is_simplex s) → is_idle o ≡ false → ((is_simplex s && is_face (facets_in v) s) || not (length (asked_at v s) == 0)) ≡ true
  some_held s None i d a st e = absurd (true≢false (sym i))
  some_held s (Some x) i d a st e = by (x.degree == 0) refl e
    where
      by : (b : Bool) → (x.degree == 0) ≡ b → (b && (length x.askers == 0)) ≡ false → ((is_simplex s && is_face (facets_in v) s) || not (length (asked_at v s) == 0)) ≡ true
      by true q e = or_right (is_simplex s && is_face (facets_in v) s) _ (ap (λ xs. not (length xs == 0)) (sym a) ∙ ap not e)
      by false q e =
          let r = read_of (facets_in v) (cell_at v) s h.kept.cells st in
          let f : ltb 0 x.degree ≡ is_face (facets_in v) s = some_degree (facets_in v) s x.degree (d ∙ r.degree_is) in
          let t : ltb 0 x.degree ≡ true = grind (arith, nat_tests) in
          or_left (is_simplex s && is_face (facets_in v) s) _ (and_both (is_simplex s) (is_face (facets_in v) s) st (sym f ∙ t))

  from_id : (s : List ℕ) → IsTrue (is_simplex s) → IsSome (cell_at v s) → (((is_simplex s && is_face (facets_in v) s) || not (length (asked_at v s) == 0)) || is_face room s) ≡ true
  from_id s st i = by (is_idle (cell_at v s)) refl
    where
      by : (b : Bool) → is_idle (cell_at v s) ≡ b → (((is_simplex s && is_face (facets_in v) s) || not (length (asked_at v s) == 0)) || is_face room s) ≡ true
      by true e = or_right ((is_simplex s && is_face (facets_in v) s) || not (length (asked_at v s) == 0)) (is_face room s) (h.needed s st e)
      by false e = or_left ((is_simplex s && is_face (facets_in v) s) || not (length (asked_at v s) == 0)) (is_face room s) (some_held s (cell_at v s) i refl refl st e)

  to_id : (s : List ℕ) → IsTrue (is_simplex s) → (((is_simplex s && is_face (facets_in v) s) || not (length (asked_at v s) == 0)) || is_face room s) ≡ true → IsSome (id_of v s)
  to_id s st q = elim (or_cases ((is_simplex s && is_face (facets_in v) s) || not (length (asked_at v s) == 0)) (is_face room s) q) [
    | inl k ↦ busy_id v s (held_busy (facets_in v) v s h.kept.cells k)
    | inr k ↦ id_from v s (is_some_and (HasRoom (verts (facets_with room s)) s) (cell_at v s) (h.ready s st k))
  ]

  cell_from : (s : List ℕ) (o : Option ℕ) → id_of v s ≡ o → IsSome o → IsSome (cell_at v s)
  cell_from s None e i = absurd (true≢false (sym i))
  cell_from s (Some i) e j = used_cell v s i e

  pub ids_needed : AreIdsNeeded (record { facets = facets_in v; room = room; changes = changes; ids = v.ids; askers = askers_of v })
  ids_needed s st = (
    λ i. ap (λ b. b || is_face room s) (held_is (facets_in v) v s) ∙ from_id s st (cell_from s (id_of v s) refl i),
    λ q. to_id s st (sym (ap (λ b. b || is_face room s) (held_is (facets_in v) v s)) ∙ q),
  )
