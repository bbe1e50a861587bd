-- What askers that come and go leave as it is.
use Rattle.std.proofs.Common.{◌≡◌, ℕ, Bool, true, false, cond, ◌&&◌, List, [], ◌∷◌, ◌++◌, length, Option, Some, None, IsSome, IfSome, IsSomeAnd, Result, Ok, Err, OnOk, OnErr, refl, sym, ap, ◌∙◌, subst, arith}
use mathlib.Core.Bool.{true≢false}
use Rattle.std.specs.Prelude.{◌==◌, slice_index_or}
use Rattle.std.specs.Option.{option_map}
use Rattle.std.proofs.lemmas.Bool.Decides.{nat_tests}
use Rattle.std.proofs.lemmas.List.{length_push}
use Rattle.simplex.specs.Simplex.{without}
use Rattle.simplex.proofs.Decided.{agree, equal_at, equal_from}
use Rattle.facet_set.proofs.GeneratedLaws.{same_at}
use Rattle.facet_set.proofs.FaceNumbers.{same_from}
use Rattle.face_lattice.specs.Cells.{same}
use Rattle.face_lattice.specs.Slots.{SlabState, no_slot, id_of, cell_at, kept, asked_at, is_some_id, or_blank, seen, unless_idle, AreCellsOf, AreLed, HasNoMoreIdle, Keeps, Lasting, Stays}
use Rattle.face_lattice.specs.States.{CellState, HasRoom, asked, is_idle, shown, with_asker, without_asker}
use Rattle.face_lattice.proofs.KeepLaws.{note_keeps, seen_unless, blank_unless}
use Rattle.face_lattice.proofs.LastLaws.{asked_unless, idle_alike, lasting_new}
use Rattle.face_lattice.proofs.PlaceLaws.{is_some_and}
use Rattle.face_lattice.proofs.SlabLaws.{one_face}
use Rattle.face_lattice.proofs.ViewLaws.{id_from}

-- ---- an id is that of one simplex alone
pub some_id_at : (i : ℕ) (o : Option ℕ) → is_some_id i o ≡ true → o ≡ Some i
some_id_at i None h = absurd (true≢false (sym h))
some_id_at i (Some j) h = ap Some (sym (equal_at i j h))

pub some_id_from : (i : ℕ) (o : Option ℕ) → o ≡ Some i → is_some_id i o ≡ true
some_id_from i o e = ap (is_some_id i) e ∙ equal_from i i refl

pub id_is_same : (v : SlabState) (s t : List ℕ) (i : ℕ) → AreLed v.ids v.slots → id_of v s ≡ Some i → is_some_id i (id_of v t) ≡ same s t
id_is_same v s t i led e = agree _ _
    (λ h. same_from s t (one_face v.slots s t i i (led s i e) (led t i (some_id_at i (id_of v t) h)) refl))
    (λ h. some_id_from i (id_of v t) (ap (id_of v) (sym (same_at s t h)) ∙ e))

-- ---- one asker more
pub with_asked : (a : ℕ) (o : Option CellState) → IsSome o → asked (with_asker a o) ≡ asked o ++ a ∷ []
with_asked a None h = absurd (true≢false (sym h))
with_asked a (Some c) h = refl

with_seen : (a : ℕ) (o : Option CellState) → seen (option_map shown (with_asker a o)) ≡ seen (option_map shown o)
with_seen a None = refl
with_seen a (Some c) = refl

with_blank : (a : ℕ) (o : Option CellState) → IfSome o (λ x. x.degree ≡ 0 → x.up ≡ []) → IfSome (with_asker a o) (λ x. x.degree ≡ 0 → x.up ≡ [])
with_blank a None h = tt
with_blank a (Some c) h = h

with_room : (a : ℕ) (f t : List ℕ) (o : Option CellState) → IsSomeAnd o (HasRoom f t) → IsSomeAnd (with_asker a o) (HasRoom f t)
with_room a f t None h = h
with_room a f t (Some c) h = h

with_idle : (a : ℕ) (o : Option CellState) → is_idle (with_asker a o) ≡ false
with_idle a None = refl
with_idle a (Some c) = by (c.degree == 0)
  where
    e : (length (c.askers ++ a ∷ []) == 0) ≡ false
    e = let n = length_push c.askers a in grind (arith, nat_tests)

    by : (b : Bool) → (b && (length (c.askers ++ a ∷ []) == 0)) ≡ false
    by true = e
    by false = refl

module _ (old new : SlabState) (p : List ℕ → Bool) (a : ℕ) (k : (t : List ℕ) → cell_at new t ≡ cond (p t) (with_asker a (cell_at old t)) (cell_at old t)) where
  more_cells : (c : List (List ℕ)) → AreCellsOf c (cell_at old) → AreCellsOf c (cell_at new)
  more_cells c h = record {
    seen = λ t. ap (λ o. seen (option_map shown o)) (k t) ∙ seen_by t (p t) ∙ h.seen t;
    blank = λ t. subst (λ o. IfSome o (λ (x : CellState). x.degree ≡ 0 → x.up ≡ [])) (sym (k t)) (blank_by t (p t) (h.blank t));
  }
    where
      seen_by : (t : List ℕ) (b : Bool) → seen (option_map shown (cond b (with_asker a (cell_at old t)) (cell_at old t))) ≡ seen (option_map shown (cell_at old t))
      seen_by t true = with_seen a (cell_at old t)
      seen_by t false = refl

      blank_by : (t : List ℕ) (b : Bool) → IfSome (cell_at old t) (λ x. x.degree ≡ 0 → x.up ≡ []) → IfSome (cond b (with_asker a (cell_at old t)) (cell_at old t)) (λ x. x.degree ≡ 0 → x.up ≡ [])
      blank_by t true h = with_blank a (cell_at old t) h
      blank_by t false h = h

  more_room : (t f : List ℕ) → IsSomeAnd (cell_at old t) (HasRoom f t) → IsSomeAnd (cell_at new t) (HasRoom f t)
  more_room t f h = subst (λ o. IsSomeAnd o (HasRoom f t)) (sym (k t)) (by (p t))
    where
      by : (b : Bool) → IsSomeAnd (cond b (with_asker a (cell_at old t)) (cell_at old t)) (HasRoom f t)
      by true = with_room a f t (cell_at old t) h
      by false = h

  more_idle : HasNoMoreIdle old new
  more_idle t h = by (p t) (ap is_idle (sym (k t)) ∙ h)
    where
      by : (b : Bool) → is_idle (cond b (with_asker a (cell_at old t)) (cell_at old t)) ≡ true → is_idle (cell_at old t) ≡ true
      by true h = absurd (true≢false (sym h ∙ with_idle a (cell_at old t)))
      by false h = h

  pub keeps_more : Keeps old new
  keeps_more = record { cells = more_cells; room = more_room; idle = more_idle }

  pub asked_more : ((t : List ℕ) → p t ≡ true → IsSome (cell_at old t)) → (t : List ℕ) → asked_at new t ≡ cond (p t) (asked_at old t ++ a ∷ []) (asked_at old t)
  asked_more there t = ap asked (k t) ∙ by (p t) refl
    where
      by : (b : Bool) → p t ≡ b → asked (cond b (with_asker a (cell_at old t)) (cell_at old t)) ≡ cond b (asked_at old t ++ a ∷ []) (asked_at old t)
      by true e = with_asked a (cell_at old t) (there t e)
      by false e = refl

-- an id in use has a cell
pub used_cell : (v : SlabState) (t : List ℕ) (i : ℕ) → id_of v t ≡ Some i → IsSome (cell_at v t)
used_cell v t i e = subst (λ o. IsSome (option_map (λ j. (slice_index_or v.slots j no_slot).cell) o)) (sym e) refl

pub some_id_cell : (v : SlabState) (t : List ℕ) (i : ℕ) → is_some_id i (id_of v t) ≡ true → IsSome (cell_at v t)
some_id_cell v t i h = used_cell v t i (some_id_at i (id_of v t) h)

-- one asker more of a simplex that had no id
module _ (old mid new : SlabState) (s : List ℕ) (id a : ℕ) (none : id_of old s ≡ None) (ids : (t : List ℕ) → id_of mid t ≡ cond (same s t) (Some id) (id_of old t)) (led : AreLed mid.ids mid.slots)
    (cells : (t : List ℕ) → kept mid t ≡ cond (same s t) (Some (or_blank None)) (kept old t)) (stays : Stays old mid) (nobody : asked_at mid s ≡ [])
    (more : (t : List ℕ) → cell_at new t ≡ cond (is_some_id id (id_of mid t)) (with_asker a (cell_at mid t)) (cell_at mid t)) where
  here : id_of mid s ≡ Some id
  here = ids s ∙ ap (λ b. cond b (Some id) (id_of old s)) (same_from s s refl)

  more_at : (t : List ℕ) → cell_at new t ≡ cond (same s t) (with_asker a (cell_at mid t)) (cell_at mid t)
  more_at t = more t ∙ ap (λ b. cond b (with_asker a (cell_at mid t)) (cell_at mid t)) (id_is_same mid s t id led here)

  last : Lasting old mid
  last = lasting_new old mid s id none ids stays nobody

  kept_none : kept old s ≡ None
  kept_none = ap (λ o. option_map shown (option_map (λ j. (slice_index_or old.slots j no_slot).cell) o)) none

  blank_at : (t : List ℕ) → kept mid t ≡ cond (same s t) (Some (or_blank (kept old t))) (kept old t)
  blank_at t = cells t ∙ by (same s t) refl
    where
      by : (b : Bool) → same s t ≡ b → cond b (Some (or_blank None)) (kept old t) ≡ cond b (Some (or_blank (kept old t))) (kept old t)
      by true e = ap (λ o. Some (or_blank o)) (sym kept_none ∙ ap (kept old) (same_at s t e))
      by false e = refl

  fresh_idle : HasNoMoreIdle old new
  fresh_idle t h = by (same s t) refl (ap is_idle (sym (more_at t)) ∙ h)
    where
      by : (b : Bool) → same s t ≡ b → is_idle (cond b (with_asker a (cell_at mid t)) (cell_at mid t)) ≡ true → is_idle (cell_at old t) ≡ true
      by true e h = absurd (true≢false (sym h ∙ with_idle a (cell_at mid t)))
      by false e h = idle_alike (cell_at old t) (cell_at mid t) (sym (cells t ∙ ap (λ b. cond b (Some (or_blank None)) (kept old t)) e)) (sym (last.asked t)) ∙ h

  pub fresh_keeps : Keeps old new
  fresh_keeps = record {
    cells = λ c h. (keeps_more mid new (same s) a more_at).cells c (note_keeps c (same s) old mid h blank_at);
    room = λ t f h. (keeps_more mid new (same s) a more_at).room t f (subst (λ o. IsSomeAnd o (HasRoom f t)) (sym (stays t (id_from old t (is_some_and (HasRoom f t) (cell_at old t) h))).1) h);
    idle = fresh_idle;
  }

  pub fresh_asked : (t : List ℕ) → asked_at new t ≡ cond (same s t) (asked_at old t ++ a ∷ []) (asked_at old t)
  fresh_asked t =
      asked_more mid new (same s) a more_at (λ t e. used_cell mid t id (ap (id_of mid) (sym (same_at s t e)) ∙ here)) t
      ∙ ap (λ xs. cond (same s t) (xs ++ a ∷ []) xs) (last.asked t)

-- ---- an asker less
pub without_asked : (a : ℕ) (o : Option CellState) → asked (without_asker a o) ≡ without (asked o) a
without_asked a None = refl
without_asked a (Some c) = refl

without_seen : (a : ℕ) (o : Option CellState) → seen (option_map shown (without_asker a o)) ≡ seen (option_map shown o)
without_seen a None = refl
without_seen a (Some c) = refl

without_blank : (a : ℕ) (o : Option CellState) → IfSome o (λ x. x.degree ≡ 0 → x.up ≡ []) → IfSome (without_asker a o) (λ x. x.degree ≡ 0 → x.up ≡ [])
without_blank a None h = tt
without_blank a (Some c) h = h

module _ (old new : SlabState) (p : List ℕ → Bool) (a : ℕ) (k : (t : List ℕ) → cell_at new t ≡ cond (p t) (unless_idle (without_asker a (cell_at old t))) (cell_at old t)) where
  pub fewer_cells : (c : List (List ℕ)) → AreCellsOf c (cell_at old) → AreCellsOf c (cell_at new)
  fewer_cells c h = record {
    seen = λ t. ap (λ o. seen (option_map shown o)) (k t) ∙ seen_by t (p t) ∙ h.seen t;
    blank = λ t. subst (λ o. IfSome o (λ (x : CellState). x.degree ≡ 0 → x.up ≡ [])) (sym (k t)) (blank_by t (p t) (h.blank t));
  }
    where
      seen_by : (t : List ℕ) (b : Bool) → seen (option_map shown (cond b (unless_idle (without_asker a (cell_at old t))) (cell_at old t))) ≡ seen (option_map shown (cell_at old t))
      seen_by t true = seen_unless (without_asker a (cell_at old t)) ∙ without_seen a (cell_at old t)
      seen_by t false = refl

      blank_by : (t : List ℕ) (b : Bool) → IfSome (cell_at old t) (λ x. x.degree ≡ 0 → x.up ≡ []) → IfSome (cond b (unless_idle (without_asker a (cell_at old t))) (cell_at old t)) (λ x. x.degree ≡ 0 → x.up ≡ [])
      blank_by t true h = blank_unless (without_asker a (cell_at old t)) (without_blank a (cell_at old t) h)
      blank_by t false h = h

  pub fewer_asked : (t : List ℕ) → asked_at new t ≡ cond (p t) (without (asked_at old t) a) (asked_at old t)
  fewer_asked t = ap asked (k t) ∙ by (p t)
    where
      by : (b : Bool) → asked (cond b (unless_idle (without_asker a (cell_at old t))) (cell_at old t)) ≡ cond b (without (asked_at old t) a) (asked_at old t)
      by true = asked_unless (without_asker a (cell_at old t)) ∙ without_asked a (cell_at old t)
      by false = refl

-- ---- at either answer
pub keeps_same : (old new : SlabState) → ((t : List ℕ) → cell_at new t ≡ cell_at old t) → Keeps old new
keeps_same old new k = record {
  cells = λ c h. record { seen = λ t. ap (λ o. seen (option_map shown o)) (k t) ∙ h.seen t; blank = λ t. subst (λ o. IfSome o (λ (x : CellState). x.degree ≡ 0 → x.up ≡ [])) (sym (k t)) (h.blank t) };
  room = λ t f h. subst (λ o. IsSomeAnd o (HasRoom f t)) (sym (k t)) h;
  idle = λ t h. ap is_idle (sym (k t)) ∙ h;
}

pub keeps_either : {A E : Type 0} (old new : SlabState) (r : Result A E) → OnOk r (Keeps old new) → OnErr r ((t : List ℕ) → cell_at new t ≡ cell_at old t) → Keeps old new
keeps_either old new (Ok x) k e = k
keeps_either old new (Err x) k e = keeps_same old new e

pub on_err : {A E : Type 0} (P Q : Type 0) (r : Result A E) → (P → Q) → OnErr r P → OnErr r Q
on_err P Q (Ok x) f h = tt
on_err P Q (Err e) f h = f h
