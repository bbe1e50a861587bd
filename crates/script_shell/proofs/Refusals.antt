-- Tests after tests: where a command stops, and where it goes on.
use Rattle.std.proofs.Common.{◌≡◌, ℕ, true, cond, List, [], ◌∷◌, ◌++◌, map, Option, Some, None, Result, Ok, Err, refl, sym, ap, subst, ◌∙◌}
use Rattle.std.specs.Prelude.{OnOk, IfOk, IfErr, IfSome}
use Rattle.std.specs.Option.{option_map}
use Rattle.simplex.specs.FirstFailing.{first_failing, unless_fault}
use Rattle.simplex.specs.SimplexFault.{set}
use Rattle.simplex.specs.declared.flip.Flip.{Flip}
use Rattle.flip_rules.specs.Tests.{flip_tests}
use Rattle.flip_rules.specs.declared.flip_fault.FlipFault.{FlipFault}
use Rattle.conditions.specs.declared.condition.Condition.TheVariants as condition
use Rattle.shell_names.specs.State.{State, Complex, holds}
use Rattle.script_shell.specs.declared.stop.Stop.{Stop}
use Rattle.script_shell.specs.declared.stop.Stop.TheVariants as stop
use Rattle.script_shell.specs.Stops.{StopsAt}
use Rattle.script_shell.specs.Commands.{Test, Editing, list_tests, name_test, void_test, flip_condition, flip_of, flipping, editing_tests}
use Rattle.script_shell.proofs.Listing.{passed_first, failed_first, failing_map}

pub on_ok : {T E : Type 0} (r : Result T E) (P Q : Type 0) → (P → Q) → OnOk r P → OnOk r Q
on_ok (Ok x) P Q f h = f h
on_ok (Err e) P Q f h = tt

pub if_ok : {T E : Type 0} (r : Result T E) (P Q : T → Type 0) → ((x : T) → P x → Q x) → IfOk r P → IfOk r Q
if_ok (Ok x) P Q f h = f x h
if_ok (Err e) P Q f h = tt

pub if_err : {T E : Type 0} (r : Result T E) (P Q : E → Type 0) → ((e : E) → P e → Q e) → IfErr r P → IfErr r Q
if_err (Ok x) P Q f h = tt
if_err (Err e) P Q f h = f e h

pub if_some : {T : Type 0} (o : Option T) (P Q : T → Type 0) → ((x : T) → P x → Q x) → IfSome o P → IfSome o Q
if_some (Some x) P Q f h = f x h
if_some None P Q f h = tt

pub passed_both : (xs ys : List Test) → first_failing xs ≡ None → first_failing ys ≡ None → first_failing (xs ++ ys) ≡ None
passed_both xs ys h k = passed_first xs ys h ∙ k

pub stops_left : (s : Stop) (xs ys : List Test) → StopsAt s (first_failing xs) → StopsAt s (first_failing (xs ++ ys))
stops_left (stop.Refused c) xs ys h = failed_first xs ys c h
stops_left stop.Memory xs ys h = tt

pub stops_right : (s : Stop) (xs ys : List Test) → first_failing xs ≡ None → StopsAt s (first_failing ys) → StopsAt s (first_failing (xs ++ ys))
stops_right (stop.Refused c) xs ys h k = passed_first xs ys h ∙ k
stops_right stop.Memory xs ys h k = tt

-- a name that is held passes its test
pub held_first : (s : State) (x : List ℕ) (ts : List Test) → holds s x ≡ true → first_failing (name_test s x ∷ ts) ≡ first_failing ts
held_first s x ts h = ap (λ v. cond v (first_failing ts) (Some condition.NoName)) h

-- ---- one list, and then other tests
pub one_list_stops : (s : Stop) (l : List ℕ) (own : List Test) → StopsAt s (first_failing (list_tests l)) → StopsAt s (first_failing ((list_tests l ++ []) ++ own))
one_list_stops s l own h = stops_left s (list_tests l ++ []) own (stops_left s (list_tests l) [] h)

pub one_list_passed : (l : List ℕ) (own : List Test) → first_failing (list_tests l) ≡ None → first_failing ((list_tests l ++ []) ++ own) ≡ first_failing own
one_list_passed l own h = passed_first (list_tests l ++ []) own (passed_both (list_tests l) [] h refl)

-- ---- two lists, and then other tests
pub first_list_stops : (s : Stop) (a b : List ℕ) (own : List Test) → StopsAt s (first_failing (list_tests a)) → StopsAt s (first_failing ((list_tests a ++ (list_tests b ++ [])) ++ own))
first_list_stops s a b own h = stops_left s (list_tests a ++ (list_tests b ++ [])) own (stops_left s (list_tests a) (list_tests b ++ []) h)

pub second_list_stops : (s : Stop) (a b : List ℕ) (own : List Test) → first_failing (list_tests a) ≡ None → StopsAt s (first_failing (list_tests b))
    → StopsAt s (first_failing ((list_tests a ++ (list_tests b ++ [])) ++ own))
second_list_stops s a b own h k =
    stops_left s (list_tests a ++ (list_tests b ++ [])) own (stops_right s (list_tests a) (list_tests b ++ []) h (stops_left s (list_tests b) [] k))

pub two_lists_passed : (a b : List ℕ) (own : List Test) → first_failing (list_tests a) ≡ None → first_failing (list_tests b) ≡ None
    → first_failing ((list_tests a ++ (list_tests b ++ [])) ++ own) ≡ first_failing own
two_lists_passed a b own h k =
    passed_first (list_tests a ++ (list_tests b ++ [])) own (passed_both (list_tests a) (list_tests b ++ []) h (passed_both (list_tests b) [] k refl))

-- ---- an edit of a name that is held
pub edit_stops : (f : Stop) (s : State) (x : List ℕ) (e : Editing) (more : List Test) → holds s x ≡ true → StopsAt f (first_failing (editing_tests e))
    → StopsAt f (first_failing (name_test s x ∷ editing_tests e ++ more))
edit_stops f s x e more held h = stops_left f (name_test s x ∷ editing_tests e) more (subst (StopsAt f) (sym (held_first s x (editing_tests e) held)) h)

pub edit_passed : (s : State) (x : List ℕ) (e : Editing) → holds s x ≡ true → first_failing (editing_tests e) ≡ None → first_failing (name_test s x ∷ editing_tests e) ≡ None
edit_passed s x e held h = held_first s x (editing_tests e) held ∙ h

-- ---- the conditions of a flip, behind those of its lists
fault_of : (r : Option FlipFault) (f : FlipFault) → ◌≡◌ {A = Result (Unit {0}) FlipFault} (Err f) (unless_fault r tt) → r ≡ Some f
fault_of None f h = cc
fault_of (Some g) f h = cc

none_of : (r : Option FlipFault) (u : Unit {0}) → ◌≡◌ {A = Result (Unit {0}) FlipFault} (Ok u) (unless_fault r tt) → r ≡ None
none_of None u h = refl
none_of (Some g) u h = cc

-- where there is a facet, the tests of the flip itself decide
own_is : (c : Complex) (m : Flip) (a b : List ℕ) → first_failing (void_test c ∷ []) ≡ None → m.a ≡ set a → m.b ≡ set b
    → first_failing (flipping c a b).own ≡ option_map flip_condition (first_failing (flip_tests c m))
own_is c m a b h p q =
    passed_first (void_test c ∷ []) (map (λ t. (t.0, flip_condition t.1)) (flip_tests c (flip_of a b))) h
    ∙ failing_map flip_condition (flip_tests c (flip_of a b))
    ∙ ap (λ n. option_map flip_condition (first_failing (flip_tests c n))) (sym (same_flip m a b p q))
  where
    same_flip : (m : Flip) (a b : List ℕ) → m.a ≡ set a → m.b ≡ set b → m ≡ flip_of a b
    same_flip m a b p q = λ i. record { a = p i; b = q i }

pub flip_stops : (c : Complex) (m : Flip) (a b : List ℕ) (f : FlipFault) → first_failing (void_test c ∷ []) ≡ None → m.a ≡ set a → m.b ≡ set b
    → ◌≡◌ {A = Result (Unit {0}) FlipFault} (Err f) (unless_fault (first_failing (flip_tests c m)) tt) → first_failing (flipping c a b).own ≡ Some (flip_condition f)
flip_stops c m a b f h p q x = own_is c m a b h p q ∙ ap (option_map flip_condition) (fault_of (first_failing (flip_tests c m)) f x)

pub flip_passes : (c : Complex) (m : Flip) (a b : List ℕ) (u : Unit {0}) → first_failing (void_test c ∷ []) ≡ None → m.a ≡ set a → m.b ≡ set b
    → ◌≡◌ {A = Result (Unit {0}) FlipFault} (Ok u) (unless_fault (first_failing (flip_tests c m)) tt) → first_failing (flipping c a b).own ≡ None
flip_passes c m a b u h p q x = own_is c m a b h p q ∙ ap (option_map flip_condition) (none_of (first_failing (flip_tests c m)) u x)
