-- Who asks for what stays, and what somebody needs keeps its id.
use Rattle.std.proofs.Common.{◌≡◌, ℕ, ◌+◌, ◌-◌, Bool, true, false, not, cond, ◌&&◌, List, [], length, Option, Some, None, IsSome, Result, Ok, Err, IfOk, OnOk, OnErr, refl, sym, ap, ◌∙◌, subst, arith}
use mathlib.Core.Bool.{true≢false}
use Rattle.std.specs.Prelude.{◌==◌, slice_index_or}
use Rattle.std.specs.Map.{lookup}
use Rattle.std.specs.Option.{option_map}
use Rattle.std.proofs.lemmas.Bool.Decides.{nat_tests}
use Rattle.std.proofs.lemmas.List.{nil_from_length}
use Rattle.simplex.specs.Simplex.{is_simplex, is_within, minus}
use Rattle.simplex.proofs.Decided.{equal_at, not_true}
use Rattle.simplex.proofs.InOrderLaws.{and_right}
use Rattle.facet_set.proofs.GeneratedLaws.{same_at}
use Rattle.face_lattice.specs.Cells.{same}
use Rattle.face_lattice.specs.Slots.{SlabState, no_slot, id_of, cell_at, kept, asked_at, after_more, after_less, beside, unless_idle, KeepsIds, Lasting, Stays}
use Rattle.face_lattice.specs.States.{CellState, shown, asked, is_busy, is_idle, put_more, put_less, emptied}
use Rattle.face_lattice.proofs.ListLaws.{none_is, or_this}
use Rattle.face_lattice.proofs.ViewLaws.{some_from}

pub lasting_itself : (v : SlabState) → Lasting v v
lasting_itself v = record { asked = λ s. refl; ids = λ s e. refl; busy = λ s e. e }

pub lasting_again : (a b c : SlabState) → Lasting a b → Lasting b c → Lasting a c
lasting_again a b c h k = record { asked = λ s. k.asked s ∙ h.asked s; ids = λ s e. k.ids s (h.busy s e) ∙ h.ids s e; busy = λ s e. k.busy s (h.busy s e) }

busy_idle : (o : Option CellState) → is_busy o ≡ true → is_idle o ≡ false
busy_idle None h = refl
busy_idle (Some c) h = not_true _ h

idle_asked : (o : Option CellState) → is_idle o ≡ true → asked o ≡ []
idle_asked None h = refl
idle_asked (Some c) h = nil_from_length c.askers (equal_at (length c.askers) 0 (and_right (c.degree == 0) _ h))

pub asked_unless : (o : Option CellState) → asked (unless_idle o) ≡ asked o
asked_unless o = by (is_idle o) refl
  where
    by : (b : Bool) → is_idle o ≡ b → asked (cond b None o) ≡ asked o
    by true e = sym (idle_asked o e)
    by false e = refl

busy_unless : (o : Option CellState) → is_busy o ≡ true → unless_idle o ≡ o
busy_unless o h = ap (λ b. cond b None o) (busy_idle o h)

-- one idle cell given back
pub lasting_back : (old new : SlabState) (s : List ℕ) → ((t : List ℕ) → id_of new t ≡ cond (same s t && is_idle (cell_at old s)) None (id_of old t))
    → ((t : List ℕ) → cell_at new t ≡ cond (same s t) (unless_idle (cell_at old s)) (cell_at old t)) → Lasting old new
lasting_back old new s i k = record {
  asked = λ t. ap asked (k t) ∙ asked_by t (same s t) refl;
  ids = λ t h. i t ∙ id_by t h (same s t) refl;
  busy = λ t h. ap is_busy (k t) ∙ busy_by t h (same s t) refl;
}
  where
    asked_by : (t : List ℕ) (b : Bool) → same s t ≡ b → asked (cond b (unless_idle (cell_at old s)) (cell_at old t)) ≡ asked_at old t
    asked_by t true e = asked_unless (cell_at old s) ∙ ap (asked_at old) (same_at s t e)
    asked_by t false e = refl

    id_by : (t : List ℕ) → is_busy (cell_at old t) ≡ true → (b : Bool) → same s t ≡ b → cond (b && is_idle (cell_at old s)) None (id_of old t) ≡ id_of old t
    id_by t h true e = ap (λ v. cond v None (id_of old t)) (ap (λ u. is_idle (cell_at old u)) (same_at s t e) ∙ busy_idle (cell_at old t) h)
    id_by t h false e = refl

    busy_by : (t : List ℕ) → is_busy (cell_at old t) ≡ true → (b : Bool) → same s t ≡ b → is_busy (cond b (unless_idle (cell_at old s)) (cell_at old t)) ≡ true
    busy_by t h true e = ap (λ u. is_busy (unless_idle (cell_at old u))) (same_at s t e) ∙ ap is_busy (busy_unless (cell_at old t) h) ∙ h
    busy_by t h false e = h

-- nothing is told of an id that there is not
no_cell : (v : SlabState) (t : List ℕ) → id_of v t ≡ None → cell_at v t ≡ None
no_cell v t e = ap (option_map (λ i. (slice_index_or v.slots i no_slot).cell)) e

busy_some : (o : Option CellState) → is_busy o ≡ true → IsSome o
busy_some None h = absurd (true≢false (sym h))
busy_some (Some c) h = refl

pub busy_id : (v : SlabState) (t : List ℕ) → is_busy (cell_at v t) ≡ true → IsSome (id_of v t)
busy_id v t h = some_from (λ i. (slice_index_or v.slots i no_slot).cell) (id_of v t) (busy_some (cell_at v t) h)

pub lasting_same : (old new : SlabState) → ((t : List ℕ) → (id_of new t ≡ id_of old t) × (cell_at new t ≡ cell_at old t)) → Lasting old new
lasting_same old new k = record { asked = λ t. ap asked (k t).1; ids = λ t h. (k t).0; busy = λ t h. ap is_busy (k t).1 ∙ h }

-- one id more
pub lasting_new : (old new : SlabState) (s : List ℕ) (id : ℕ) → id_of old s ≡ None → ((t : List ℕ) → id_of new t ≡ cond (same s t) (Some id) (id_of old t)) → Stays old new → asked_at new s ≡ [] → Lasting old new
lasting_new old new s id e i st a = record {
  asked = λ t. asked_by t (same s t) refl;
  ids = λ t h. (st t (busy_id old t h)).0;
  busy = λ t h. ap is_busy (st t (busy_id old t h)).1 ∙ h;
}
  where
    other : (t : List ℕ) (o : Option ℕ) → same s t ≡ false → id_of old t ≡ o → asked_at new t ≡ asked_at old t
    other t None q n = ap asked (no_cell new t (i t ∙ ap (λ b. cond b (Some id) (id_of old t)) q ∙ n) ∙ sym (no_cell old t n))
    other t (Some j) q n = ap asked (st t (subst (λ x. IsSome x) (sym n) refl)).1

    asked_by : (t : List ℕ) (b : Bool) → same s t ≡ b → asked_at new t ≡ asked_at old t
    asked_by t true q = ap (asked_at new) (sym (same_at s t q)) ∙ a ∙ sym (ap asked (no_cell old s e)) ∙ ap (asked_at old) (same_at s t q)
    asked_by t false q = other t (id_of old t) q refl

pub lasting_made : {E : Type 0} (old new : SlabState) (s : List ℕ) (r : Result ℕ E) → id_of old s ≡ None → IfOk r (λ id. (t : List ℕ) → id_of new t ≡ cond (same s t) (Some id) (id_of old t)) → Stays old new
    → OnOk r (asked_at new s ≡ []) → OnErr r ((t : List ℕ) → (id_of new t ≡ id_of old t) × (cell_at new t ≡ cell_at old t)) → Lasting old new
lasting_made old new s (Ok id) e i st a k = lasting_new old new s id e i st a
lasting_made old new s (Err x) e i st a k = lasting_same old new k

-- what somebody needs is told by what is kept and who asks
busy_alike : (o p : Option CellState) → option_map shown o ≡ option_map shown p → asked o ≡ asked p → is_busy o ≡ is_busy p
busy_alike None None e a = refl
busy_alike None (Some y) e a = absurd (none_is (shown y) e)
busy_alike (Some x) None e a = absurd (none_is (shown x) (sym e))
busy_alike (Some x) (Some y) e a = λ i. not ((or_this (shown x) (e i)).degree == 0 && length (a i) == 0)

pub idle_alike : (o p : Option CellState) → option_map shown o ≡ option_map shown p → asked o ≡ asked p → is_idle o ≡ is_idle p
idle_alike None None e a = refl
idle_alike None (Some y) e a = absurd (none_is (shown y) e)
idle_alike (Some x) None e a = absurd (none_is (shown x) (sym e))
idle_alike (Some x) (Some y) e a = λ i. (or_this (shown x) (e i)).degree == 0 && length (a i) == 0

pub lasting_kept : (old new : SlabState) → KeepsIds old new → ((t : List ℕ) → kept new t ≡ kept old t) → ((t : List ℕ) → asked_at new t ≡ asked_at old t) → Lasting old new
lasting_kept old new k h a = record {
  asked = a;
  ids = λ t b. ap (lookup (same t)) k.ids;
  busy = λ t b. busy_alike (cell_at new t) (cell_at old t) (h t) (a t) ∙ b;
}

-- one facet more
more_asked : (f t : List ℕ) (o : Option CellState) → asked (Some (put_more f t o)) ≡ asked o
more_asked f t None = refl
more_asked f t (Some x) = refl

some_busy : (n : ℕ) (b : Bool) → not (n + 1 == 0 && b) ≡ true
some_busy n b = let e : (n + 1 == 0) ≡ false = grind (arith, nat_tests) in ap (λ v. not (v && b)) e

pub busy_put : (n : ℕ) (b : Bool) → ((n + 1 == 0) && b) ≡ false
busy_put n b = let e : (n + 1 == 0) ≡ false = grind (arith, nat_tests) in ap (λ v. v && b) e

more_busy : (f t : List ℕ) (o : Option CellState) → is_busy (Some (put_more f t o)) ≡ true
more_busy f t None = some_busy 0 true
more_busy f t (Some x) = some_busy x.degree (length x.askers == 0)

pub lasting_more : (old new : SlabState) (f : List ℕ) → KeepsIds old new → ((t : List ℕ) → cell_at new t ≡ after_more f t (cell_at old t)) → Lasting old new
lasting_more old new f k h = record {
  asked = λ t. ap asked (h t) ∙ asked_by t (is_simplex t && is_within t f);
  ids = λ t b. ap (lookup (same t)) k.ids;
  busy = λ t b. ap is_busy (h t) ∙ busy_by t b (is_simplex t && is_within t f);
}
  where
    asked_by : (t : List ℕ) (b : Bool) → asked (cond b (Some (put_more f t (cell_at old t))) (cell_at old t)) ≡ asked_at old t
    asked_by t true = more_asked f t (cell_at old t)
    asked_by t false = refl

    busy_by : (t : List ℕ) → is_busy (cell_at old t) ≡ true → (b : Bool) → is_busy (cond b (Some (put_more f t (cell_at old t))) (cell_at old t)) ≡ true
    busy_by t h true = more_busy f t (cell_at old t)
    busy_by t h false = h

-- one facet less
less_asked : (l : List ℕ) (o : Option CellState) → asked (Some (put_less l o)) ≡ asked o
less_asked l None = refl
less_asked l (Some x) = by (x.degree == 1)
  where
    by : (b : Bool) → asked (Some (cond b (emptied x) (record x { degree = x.degree - 1; up = minus x.up l }))) ≡ x.askers
    by true = refl
    by false = refl

pub asked_after_less : (old new : SlabState) (f : List ℕ) → ((t : List ℕ) → cell_at new t ≡ after_less f (cell_at old) t) → (t : List ℕ) → asked_at new t ≡ asked_at old t
asked_after_less old new f h t = ap asked (h t) ∙ by (is_simplex t && is_within t f)
  where
    by : (b : Bool) → asked (cond b (Some (put_less (beside 1 f (cell_at old) t) (cell_at old t))) (cell_at old t)) ≡ asked_at old t
    by true = less_asked (beside 1 f (cell_at old) t) (cell_at old t)
    by false = refl
