-- What a lattice holds: its faces and what is asked for.
use Rattle.std.proofs.Common.{◌≡◌, ℕ, ◌<◌, Bool, true, false, not, cond, ◌&&◌, ◌||◌, List, length, Option, Some, None, refl, sym, ap, ◌∙◌, inl, inr, arith}
use mathlib.Core.Bool.{true≢false}
use Rattle.std.specs.Prelude.{◌==◌, [], slice_index_or, unwrap_or}
use Rattle.std.specs.Option.{option_map}
use Rattle.std.proofs.lemmas.Map.Made.{lookup-map_values}
use Rattle.std.proofs.lemmas.Bool.Decides.{nat_tests}
use Rattle.simplex.specs.Simplex.{is_simplex, is_within}
use Rattle.simplex.proofs.Decided.{or_cases}
use Rattle.facet_set.specs.Complex.{is_face}
use Rattle.std.specs.Map.{lookup}
use Rattle.face_lattice.specs.Cells.{cell_of, same}
use Rattle.face_lattice.specs.Lattice.{LatticeState, Holds, askers_in, is_held}
use Rattle.face_lattice.specs.Slots.{SlabState, no_slot, askers_of, id_of, cell_at, asked_at, after_put_back, unless_idle, AreCellsOf, Lasting}
use Rattle.face_lattice.specs.States.{CellState, asked, is_busy, is_idle}
use Rattle.face_lattice.proofs.ListLaws.{seen_some}

-- who asks, as contracts see it
pub askers_are : (v : SlabState) (s : List ℕ) → unwrap_or (lookup (same s) (askers_of v)) [] ≡ asked_at v s
askers_are v s = ap (λ o. unwrap_or o []) (lookup-map_values (λ i. (slice_index_or v.slots i no_slot).cell.askers) (same s) v.ids) ∙ by (id_of v s)
  where
    by : (o : Option ℕ) → unwrap_or (option_map (λ i. (slice_index_or v.slots i no_slot).cell.askers) o) [] ≡ asked (option_map (λ i. (slice_index_or v.slots i no_slot).cell) o)
    by None = refl
    by (Some i) = refl

pub asked_there : (l : LatticeState) (v : SlabState) (s : List ℕ) → l.askers ≡ askers_of v → askers_in l s ≡ asked_at v s
asked_there l v s e = ap (λ es. unwrap_or (lookup (same s) es) []) e ∙ askers_are v s

pub holds_itself : (l : LatticeState) → Holds l l
holds_itself l = record { asked = λ s. refl; ids = λ s h k. refl }

-- what holds is told by the facets and who asks
pub held_same : (a b : LatticeState) (s : List ℕ) → b.facets ≡ a.facets → askers_in b s ≡ askers_in a s → is_held b s ≡ is_held a s
held_same a b s f k = λ i. (is_simplex s && is_face (f i) s) || not (length (k i) == 0)

-- two changes, of which the first leaves the facets
pub holds_again : (a b c : LatticeState) → Holds a b → b.facets ≡ a.facets → Holds b c → Holds a c
holds_again a b c h f k = record {
  asked = λ s. k.asked s ∙ h.asked s;
  ids = λ s p q. let m : is_held b s ≡ true = held_same a b s f (h.asked s) ∙ p in k.ids s m q ∙ h.ids s p m;
}

-- a cell of a face is busy
some_busy : (x : CellState) → 0 < x.degree → is_busy (Some x) ≡ true
some_busy x l = let e : (x.degree == 0) ≡ false = grind (arith, nat_tests) in ap (λ b. not (b && length x.askers == 0)) e

asked_busy : (o : Option CellState) → not (length (asked o) == 0) ≡ true → is_busy o ≡ true
asked_busy None h = absurd (true≢false (sym h))
asked_busy (Some x) h = by (x.degree == 0)
  where
    by : (b : Bool) → not (b && length x.askers == 0) ≡ true
    by true = h
    by false = refl

pub held_busy : (c : List (List ℕ)) (v : SlabState) (s : List ℕ) → AreCellsOf c (cell_at v) → ((is_simplex s && is_face c s) || not (length (asked_at v s) == 0)) ≡ true → is_busy (cell_at v s) ≡ true
held_busy c v s are h = elim (or_cases (is_simplex s && is_face c s) _ h) [
  | inl f ↦ let o = seen_some (cell_at v s) (cell_of c s) (are.seen s ∙ ap (λ b. cond b (Some (cell_of c s)) None) f) in ap is_busy o.is ∙ some_busy o.cell o.some
  | inr a ↦ asked_busy (cell_at v s) a
]

-- where the slab lasts
pub holds_lasting : (old : LatticeState) (v w : SlabState) (facets room : List (List ℕ)) (changes : ℕ) (c : List (List ℕ)) → old.facets ≡ c → old.ids ≡ v.ids → old.askers ≡ askers_of v → AreCellsOf c (cell_at v) → Lasting v w
    → Holds old (record { facets = facets; room = room; changes = changes; ids = w.ids; askers = askers_of w })
holds_lasting old v w facets room changes c f i a are k = record {
  asked = λ s. askers_are w s ∙ k.asked s ∙ sym (asked_there old v s a);
  ids = λ s p q. k.ids s (held_busy c v s are ((λ j. (is_simplex s && is_face (sym f j) s) || not (length (sym (asked_there old v s a) j) == 0)) ∙ p)) ∙ ap (λ e. lookup (same s) e) (sym i);
}

-- what is busy after idle cells were given back was busy
busy_before : (b : Bool) (o : Option CellState) → is_busy (cond b (unless_idle o) o) ≡ true → is_busy o ≡ true
busy_before false o h = h
busy_before true o h = by (is_idle o) h
  where
    by : (v : Bool) → is_busy (cond v None o) ≡ true → is_busy o ≡ true
    by true h = absurd (true≢false (sym h))
    by false h = h

-- where a facet went, and idle cells after it
pub holds_less : (old : LatticeState) (v w u : SlabState) (f room rest : List (List ℕ)) (changes : ℕ) (outer : List ℕ) → old.ids ≡ v.ids → old.askers ≡ askers_of v → w.ids ≡ v.ids → ((s : List ℕ) → asked_at w s ≡ asked_at v s)
    → Lasting w u → ((s : List ℕ) → cell_at u s ≡ after_put_back outer s (cell_at w s)) → AreCellsOf rest (cell_at u) → f ≡ rest
    → Holds old (record { facets = f; room = room; changes = changes; ids = u.ids; askers = askers_of u })
holds_less old v w u f room rest changes outer i a n m k p are e = record {
  asked = λ s. askers_are u s ∙ k.asked s ∙ m s ∙ sym (asked_there old v s a);
  ids = λ s h q.
      let last : is_busy (cell_at u s) ≡ true = held_busy rest u s are ((λ j. (is_simplex s && is_face (sym e j) s) || not (length (sym (askers_are u s) j) == 0)) ∙ q) in
      let was : is_busy (cell_at w s) ≡ true = busy_before (is_simplex s && is_within s outer) (cell_at w s) (ap is_busy (sym (p s)) ∙ last) in
      k.ids s was ∙ ap (λ e. lookup (same s) e) (n ∙ sym i);
}
