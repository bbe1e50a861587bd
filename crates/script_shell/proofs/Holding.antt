-- What a shell holds stays within its limits.
use Rattle.std.proofs.Common.{◌≡◌, ◌≤◌, ℕ, ◌+◌, Bool, true, false, cond, ◌||◌, List, [], ◌∷◌, ◌++◌, map, length, leb, ltb, Option, Some, None, Result, Ok, Err, OnOk, OnErr, refl, sym, ap, ◌∙◌, subst, inl, inr, arith}
use Rattle.std.specs.List.{flat_map}
use Rattle.std.proofs.lemmas.Bool.Decides.{nat_tests}
use Rattle.simplex.specs.FirstFailing.{first_failing}
use Rattle.simplex.proofs.Members.{In, first, later, cases, none, in_left, in_right}
use Rattle.script_text.specs.declared.command.Command.{Command}
use Rattle.script_text.specs.declared.command.Command.TheVariants as command
use Rattle.script_text.specs.declared.command.Edit.{Edit}
use Rattle.script_text.specs.declared.command.Edit.TheVariants as edit
use Rattle.conditions.specs.declared.condition.Condition.{Condition}
use Rattle.conditions.specs.declared.condition.Condition.TheVariants as condition
use Rattle.shell_names.specs.State.{State, Complex, Named, named, holds, entry, present, assign, put_entry, edited, undone, redone, total_weight, journal, journal_of}
use Rattle.shell_names.proofs.StateLaws.{entry_name, journal_put, length_put, undone_name, redone_name}
use Rattle.shell_names.proofs.StepLaws.{undone_journal, redone_journal}
use Rattle.script_shell.specs.Commands.{Test, Making, Editing, making_tests, assignment, editing_tests, name_test, room_test, weight_test, journal_test, list_tests, after_edit, after_undo, after_redo, change, undo, redo, changing, flipping, adding, dropping, collapsing, reducing, making, meaning, failed, state_after}
use Rattle.script_shell.specs.Limits.{IsWithin}
use Rattle.script_shell.specs.declared.limits.Limits.{Limits}

-- each test of a list in which none fails holds
pub passes_at : (ts : List Test) (t : Test) → first_failing ts ≡ None → In t ts → t.0 ≡ true
passes_at [] t h i = absurd (none t i)
passes_at (u ∷ ts) t h i = by u.0 refl h (λ k j. passes_at ts t k j)
  where
    by : (v : Bool) → u.0 ≡ v → cond v (first_failing ts) (Some u.1) ≡ None → (first_failing ts ≡ None → In t ts → t.0 ≡ true) → t.0 ≡ true
    by true e k rest = elim (cases i) [ inl f ↦ ap (λ (x : Test). x.0) f ∙ e | inr j ↦ rest k j ]
    by false e k rest = cc

at_most : (m n : ℕ) → leb m n ≡ true → m ≤ n
at_most m n h = grind (arith, nat_tests)

below : (m n : ℕ) → ltb m n ≡ true → m + 1 ≤ n
below m n h = grind (arith, nat_tests)

module _ (limits : Limits) (s : State) (x : List ℕ) (h : IsWithin limits s) where
  -- ---- an assignment
  module _ (m : Making) (passed : first_failing (assignment limits s x m).tests ≡ None) where
    abbrev t : State
    t = assign x m.complex s

    roomy : (holds s x || ltb (length s) limits.names) ≡ true
    roomy =
        passes_at (assignment limits s x m).tests (room_test limits s x) passed
        (in_left (room_test limits s x) (making_tests limits s x m) (weight_test limits t ∷ [])
        (in_left (room_test limits s x) (map (name_test s) m.names ++ (room_test limits s x ∷ flat_map list_tests m.lists)) m.own
        (in_right (room_test limits s x) (map (name_test s) m.names) (room_test limits s x ∷ flat_map list_tests m.lists) first)))

    light : total_weight t ≤ limits.weight
    light = at_most (total_weight t) limits.weight (passes_at (assignment limits s x m).tests (weight_test limits t) passed (in_right (weight_test limits t) (making_tests limits s x m) (weight_test limits t ∷ []) first))

    few : (b : Bool) → holds s x ≡ b → length t ≤ limits.names
    few true e =
        let l : length t ≡ length s = length_put (named x m.complex) s ∙ ap (λ b. cond b (length s) (length s + 1)) e in
        omega (arith, l, h.names)
    few false e =
        let l : length t ≡ length s + 1 = length_put (named x m.complex) s ∙ ap (λ b. cond b (length s) (length s + 1)) e in
        let r : ltb (length s) limits.names ≡ true = sym (ap (λ b. b || ltb (length s) limits.names) e) ∙ roomy in
        let k = below (length s) limits.names r in
        omega (arith, l, k)

    pub assigned : IsWithin limits t
    assigned = record {
      names = few (holds s x) refl;
      weight = light;
      journal = let j = journal_put s x (named x m.complex) refl in omega (arith, j, h.journal);
    }

  -- ---- what keeps the number of names
  module _ (e : Named) (name : e.name ≡ x) (held : holds s x ≡ true) where
    as_many : length (put_entry e s) ≤ limits.names
    as_many =
        let l : length (put_entry e s) ≡ length s = length_put e s ∙ ap (λ b. cond b (length s) (length s + 1)) (ap (holds s) name ∙ held) in
        omega (arith, l, h.names)

    put_within : total_weight (put_entry e s) ≤ limits.weight → journal (put_entry e s) ≤ limits.journal → IsWithin limits (put_entry e s)
    put_within w j = record { names = as_many; weight = w; journal = j }

    -- with the sizes of the changes as before
    moved_within : total_weight (put_entry e s) ≤ limits.weight → journal_of e ≡ journal_of (entry s x) → IsWithin limits (put_entry e s)
    moved_within w same = put_within w (let j = journal_put s x e name in omega (arith, j, same, h.journal))

  -- ---- a change that makes a complex anew
  module _ (e : Editing) (passed : first_failing (change limits s x e).tests ≡ None) where
    abbrev u : State
    u = after_edit s x e.complex

    abbrev last_two : List Test
    last_two = weight_test limits u ∷ journal_test limits u ∷ []

    pub changed : IsWithin limits u
    changed =
        put_within (edited (entry s x) e.complex) (entry_name s x)
        (passes_at (change limits s x e).tests (name_test s x) passed first)
        (at_most (total_weight u) limits.weight (passes_at (change limits s x e).tests (weight_test limits u) passed (later (in_right (weight_test limits u) (editing_tests e) last_two first))))
        (at_most (journal u) limits.journal (passes_at (change limits s x e).tests (journal_test limits u) passed (later (in_right (journal_test limits u) (editing_tests e) last_two (later first)))))

  -- ---- one complex back, and forth
  pub went_back : first_failing (undo limits s x).tests ≡ None → IsWithin limits (after_undo s x)
  went_back passed =
      moved_within (undone (entry s x)) (undone_name s x)
      (passes_at (undo limits s x).tests (name_test s x) passed first)
      (at_most (total_weight (after_undo s x)) limits.weight (passes_at (undo limits s x).tests (weight_test limits (after_undo s x)) passed (later (later first))))
      (undone_journal (entry s x))

  pub went_forth : first_failing (redo limits s x).tests ≡ None → IsWithin limits (after_redo s x)
  went_forth passed =
      moved_within (redone (entry s x)) (redone_name s x)
      (passes_at (redo limits s x).tests (name_test s x) passed first)
      (at_most (total_weight (after_redo s x)) limits.weight (passes_at (redo limits s x).tests (weight_test limits (after_redo s x)) passed (later (later first))))
      (redone_journal (entry s x))

  pub changing_within : (e : Edit) → first_failing (changing limits s x e).tests ≡ None → IsWithin limits (changing limits s x e).after
  changing_within (edit.Flip a b) p = changed (flipping (present s x) a b) p
  changing_within (edit.Add face) p = changed (adding (present s x) face) p
  changing_within (edit.Drop face) p = changed (dropping (present s x) face) p
  changing_within (edit.Collapse face) p = changed (collapsing (present s x) face) p
  changing_within (edit.Reduce budget seed) p = changed (reducing (present s x) budget seed) p
  changing_within edit.Undo p = went_back p
  changing_within edit.Redo p = went_forth p

-- ---- every command
pub stays_within : (limits : Limits) (s : State) (k : Command) → IsWithin limits s → failed limits s k ≡ None → IsWithin limits (meaning limits s k).after
stays_within limits s (command.Show lists) h p = h
stays_within limits s (command.Make x m) h p = assigned limits s x h (making s m) p
stays_within limits s (command.Ask x q) h p = h
stays_within limits s (command.Change x e) h p = changing_within limits s x h e p
stays_within limits s (command.Sphere x budget seed) h p = h
stays_within limits s (command.Equivalent x y budget seed) h p = h
stays_within limits s (command.Manifold x budget seed) h p = h

-- what was within the limits stays so in a call that changes it as its tests allow, or not at all
pub kept_within : {T E : Type 0} (r : Result T E) (limits : Limits) (old new next : State) (passed : Type 0) → IsWithin limits old → (passed → IsWithin limits next) → OnOk r passed → OnOk r (new ≡ next) → OnErr r (new ≡ old)
    → IsWithin limits new
kept_within (Ok x) limits old new next passed h f p e k = subst (IsWithin limits) (sym e) (f p)
kept_within (Err y) limits old new next passed h f p e k = subst (IsWithin limits) (sym k) h
