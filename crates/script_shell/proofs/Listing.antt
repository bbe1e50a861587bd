-- The conditions on lists of numbers.
use Rattle.std.proofs.Common.{◌≡◌, ℕ, ◌+◌, ◌≤◌, ◌<◌, Bool, true, false, not, cond, leb, eqb, List, [], ◌∷◌, ◌++◌, map, length, drop, get_or, Option, Some, None, Ok, Err, refl, sym, ap, ◌∙◌, subst, arith, append_assoc}
use Rattle.std.proofs.lemmas.Bool.Decides.{nat_tests}
use Rattle.std.proofs.lemmas.List.{length-map, map-append, at_drop_more}
use Rattle.std.specs.List.{flat_map}
use Rattle.std.specs.Option.{option_map}
use Rattle.simplex.specs.FirstFailing.{first_failing, unless_fault}
use Rattle.simplex.specs.Simplex.{has, is_label}
use Rattle.simplex.specs.SimplexFault.{set, place_tests, simplex_tests, simplex_fault, simplex_of}
use Rattle.simplex.specs.declared.simplex_fault.SimplexFault.{SimplexFault}
use Rattle.simplex.specs.declared.simplex_fault.SimplexFault.TheVariants.{Long, Label, Twice}
use Rattle.script_shell.specs.declared.stop.Stop.{Stop}
use Rattle.script_shell.specs.declared.stop.Stop.TheVariants as stop
use Rattle.script_shell.specs.Stops.{StopsAt}
use Rattle.script_shell.specs.Commands.{condition_of, list_tests}
use Rattle.script_shell.specs.Saturated.{saturated}

-- tests that pass, and then others
pub passed_first : {F : Type 0} (xs ys : List (Bool × F)) → first_failing xs ≡ None → first_failing (xs ++ ys) ≡ first_failing ys
passed_first [] ys h = refl
passed_first ((true, f) ∷ xs) ys h = passed_first xs ys h
passed_first ((false, f) ∷ xs) ys h = cc

-- tests of which one fails, and then others
pub failed_first : {F : Type 0} (xs ys : List (Bool × F)) (f : F) → first_failing xs ≡ Some f → first_failing (xs ++ ys) ≡ Some f
failed_first [] ys f h = cc
failed_first ((true, g) ∷ xs) ys f h = failed_first xs ys f h
failed_first ((false, g) ∷ xs) ys f h = h

-- the faults under other names
pub failing_map : {F G : Type 0} (g : F → G) (ts : List (Bool × F)) → first_failing (map (λ t. (t.0, g t.1)) ts) ≡ option_map g (first_failing ts)
failing_map g [] = refl
failing_map g ((true, f) ∷ ts) = failing_map g ts
failing_map g ((false, f) ∷ ts) = refl

label_saturated : (a : ℕ) → is_label (saturated a) ≡ is_label a
label_saturated a = grind (arith, nat_tests)

pub label_small : (a : ℕ) → is_label a ≡ true → a ≤ 1000000
label_small a h = grind (arith, nat_tests)

pub small_saturated : (a : ℕ) → a ≤ 1000000 → saturated a ≡ a
small_saturated a h = omega arith

equals_saturated : (a b : ℕ) → a ≤ 1000000 → eqb a (saturated b) ≡ eqb a b
equals_saturated a b h = grind (arith, nat_tests)

has_saturated : (earlier : List ℕ) (a : ℕ) → a ≤ 1000000 → has (map saturated earlier) a ≡ has earlier a
has_saturated [] a h = refl
has_saturated (b ∷ earlier) a h = let e = equals_saturated a b h in let r = has_saturated earlier a h in cc

choice : {A : Type 0} (v w : Bool) (x y z : A) → v ≡ w → (w ≡ true → x ≡ y) → cond v x z ≡ cond w y z
choice true true x y z e h = h refl
choice false false x y z e h = refl
choice true false x y z e h = cc
choice false true x y z e h = cc

-- the test of one number, which its machine number passes alike
twice_saturated : (at : ℕ) (earlier rest : List ℕ) (a b : ℕ) → b ≡ a → a ≤ 1000000
    → first_failing (place_tests (at + 1) (map saturated (earlier ++ a ∷ [])) (map saturated rest)) ≡ first_failing (place_tests (at + 1) (earlier ++ a ∷ []) rest)
    → cond (not (has (map saturated earlier) b)) (first_failing (place_tests (at + 1) (map saturated earlier ++ b ∷ []) (map saturated rest))) (Some (Twice b))
    ≡ cond (not (has earlier a)) (first_failing (place_tests (at + 1) (earlier ++ a ∷ []) rest)) (Some (Twice a))
twice_saturated at earlier rest a b e small further =
    let small_is : saturated a ≡ a = small_saturated a small in
    let seen : map saturated earlier ++ a ∷ [] ≡ map saturated (earlier ++ a ∷ []) =
    ap (λ x. map saturated earlier ++ x ∷ []) (sym small_is) ∙ sym (map-append saturated earlier (a ∷ [])) in
    subst (λ (x : ℕ). cond (not (has (map saturated earlier) x)) (first_failing (place_tests (at + 1) (map saturated earlier ++ x ∷ []) (map saturated rest))) (Some (Twice x))
    ≡ cond (not (has earlier a)) (first_failing (place_tests (at + 1) (earlier ++ a ∷ []) rest)) (Some (Twice a))) (sym e)
    (choice (not (has (map saturated earlier) a)) (not (has earlier a)) _ _ (Some (Twice a)) (ap not (has_saturated earlier a small))
    (λ _. ap (λ xs. first_failing (place_tests (at + 1) xs (map saturated rest))) seen ∙ further))

places_saturated : (at : ℕ) (earlier rest : List ℕ) → first_failing (place_tests at (map saturated earlier) (map saturated rest)) ≡ first_failing (place_tests at earlier rest)
places_saturated at earlier [] = refl
places_saturated at earlier (a ∷ rest) =
    choice (is_label (saturated a)) (is_label a) _ _ (Some (Label at)) (label_saturated a)
    (λ l. let small : a ≤ 1000000 = label_small a l in
    twice_saturated at earlier rest a (saturated a) (small_saturated a small) small (places_saturated (at + 1) (earlier ++ a ∷ []) rest))

-- the fault of a list is that of its machine numbers
pub fault_saturated : (numbers : List ℕ) → simplex_fault (map saturated numbers) ≡ simplex_fault numbers
fault_saturated numbers =
    ap (λ n. cond (leb n 12) (first_failing (place_tests 0 [] (map saturated numbers))) (Some (Long n))) (length-map numbers saturated)
    ∙ ap (λ f. cond (leb (length numbers) 12) f (Some (Long (length numbers)))) (places_saturated 0 [] numbers)

both_pass : {F : Type 0} (v w : Bool) (r : Option F) (f g : F) → cond v (cond w r (Some g)) (Some f) ≡ None → (v ≡ true) × (r ≡ None)
both_pass true true r f g h = (refl, h)
both_pass true false r f g h = cc
both_pass false w r f g h = cc

passes : {F : Type 0} (v : Bool) (r : Option F) (f : F) → cond v r (Some f) ≡ None → r ≡ None
passes true r f h = h
passes false r f h = cc

-- numbers with no fault are their machine numbers
same_places : (at : ℕ) (earlier rest : List ℕ) → first_failing (place_tests at earlier rest) ≡ None → map saturated rest ≡ rest
same_places at earlier [] h = refl
same_places at earlier (a ∷ rest) h =
    let s = both_pass (is_label a) (not (has earlier a)) (first_failing (place_tests (at + 1) (earlier ++ a ∷ []) rest)) (Label at) (Twice a) h in
    let e : saturated a ≡ a = small_saturated a (label_small a s.0) in
    let r : map saturated rest ≡ rest = same_places (at + 1) (earlier ++ a ∷ []) rest s.1 in
    ap (λ x. x ∷ map saturated rest) e ∙ ap (λ xs. a ∷ xs) r

same_numbers : (numbers : List ℕ) → simplex_fault numbers ≡ None → map saturated numbers ≡ numbers
same_numbers numbers h = same_places 0 [] numbers (passes (leb (length numbers) 12) (first_failing (place_tests 0 [] numbers)) (Long (length numbers)) h)

tests_fault : (numbers : List ℕ) (found : Option SimplexFault) → simplex_fault numbers ≡ found → first_failing (list_tests numbers) ≡ option_map condition_of found
tests_fault numbers found h = failing_map condition_of (simplex_tests numbers) ∙ ap (option_map condition_of) h

from_ok : {A F : Type 0} (f : Option F) (x y : A) → Ok y ≡ unless_fault f x → (f ≡ None) × (y ≡ x)
from_ok None x y h = (refl, cc)
from_ok (Some g) x y h = cc

from_err : {A F : Type 0} (f : Option F) (x : A) (g : F) → Err g ≡ unless_fault f x → f ≡ Some g
from_err None x g h = cc
from_err (Some k) x g h = cc

-- what the simplex of the machine numbers says of the numbers
pub set_of : (numbers s : List ℕ) → Ok s ≡ simplex_of (map saturated numbers) → s ≡ set numbers
set_of numbers s h =
    let r = from_ok (simplex_fault (map saturated numbers)) (set (map saturated numbers)) s h in
    r.1 ∙ ap set (same_numbers numbers (sym (fault_saturated numbers) ∙ r.0))

-- and that they are no others
pub faultless_of : (numbers s : List ℕ) → Ok s ≡ simplex_of (map saturated numbers) → simplex_fault numbers ≡ None
faultless_of numbers s h = sym (fault_saturated numbers) ∙ (from_ok (simplex_fault (map saturated numbers)) (set (map saturated numbers)) s h).0

pub same_of : (numbers s : List ℕ) → Ok s ≡ simplex_of (map saturated numbers) → map saturated numbers ≡ numbers
same_of numbers s h = same_numbers numbers (faultless_of numbers s h)

pub clean_of : (numbers s : List ℕ) → Ok s ≡ simplex_of (map saturated numbers) → first_failing (list_tests numbers) ≡ None
clean_of numbers s h =
    let r = from_ok (simplex_fault (map saturated numbers)) (set (map saturated numbers)) s h in
    tests_fault numbers None (sym (fault_saturated numbers) ∙ r.0)

pub fault_of : (numbers : List ℕ) (f : SimplexFault) → Err f ≡ simplex_of (map saturated numbers) → first_failing (list_tests numbers) ≡ Some (condition_of f)
fault_of numbers f h =
    tests_fault numbers (Some f) (sym (fault_saturated numbers) ∙ from_err (simplex_fault (map saturated numbers)) (set (map saturated numbers)) f h)

-- the conditions on lists, of which the first is none here
pub first_list : (lists : List (List ℕ)) (i : ℕ) (x : List ℕ) → i < length lists → x ≡ get_or lists i x
    → flat_map list_tests (drop i lists) ≡ list_tests x ++ flat_map list_tests (drop (i + 1) lists)
first_list lists i x h e = at_drop_more (flat_map list_tests) lists i x h ∙ ap (λ (y : List ℕ). list_tests y ++ flat_map list_tests (drop (i + 1) lists)) (sym e)

-- the loop over the lists: one more simplex
pub next_list : (lists : List (List ℕ)) (i : ℕ) (x y : List ℕ) (made pushed : List (List ℕ)) (s : List ℕ) → i < length lists → x ≡ get_or lists i x → y ≡ x
    → s ≡ set y → pushed ≡ made ++ s ∷ [] → made ++ map set (drop i lists) ≡ map set lists → pushed ++ map set (drop (i + 1) lists) ≡ map set lists
next_list lists i x y made pushed s h e same is more was =
    let rest : List (List ℕ) = map set (drop (i + 1) lists) in
    let split : map set (drop i lists) ≡ set x ∷ rest = at_drop_more (map set) lists i x h ∙ ap (λ (z : List ℕ). set z ∷ rest) (sym e) in
    ap (λ z. z ++ rest) more ∙ append_assoc made (s ∷ []) rest ∙ ap (λ (z : List ℕ). made ++ z ∷ rest) (is ∙ ap set same) ∙ ap (λ z. made ++ z) (sym split) ∙ was

-- the loop over the lists: one more list with no fault
pub next_clean : (lists : List (List ℕ)) (i : ℕ) (x y : List ℕ) → i < length lists → x ≡ get_or lists i x → y ≡ x → first_failing (list_tests y) ≡ None
    → first_failing (flat_map list_tests (drop i lists)) ≡ first_failing (flat_map list_tests lists) → first_failing (flat_map list_tests (drop (i + 1) lists)) ≡ first_failing (flat_map list_tests lists)
next_clean lists i x y h e same clean was =
    sym (passed_first (list_tests x) (flat_map list_tests (drop (i + 1) lists)) (ap (λ (z : List ℕ). first_failing (list_tests z)) (sym same) ∙ clean))
    ∙ ap first_failing (sym (first_list lists i x h e)) ∙ was

-- the first list with a fault decides
pub list_fails : (lists : List (List ℕ)) (i : ℕ) (x y : List ℕ) (s : Stop) → i < length lists → x ≡ get_or lists i x → y ≡ x → StopsAt s (first_failing (list_tests y))
    → first_failing (flat_map list_tests (drop i lists)) ≡ first_failing (flat_map list_tests lists) → StopsAt s (first_failing (flat_map list_tests lists))
list_fails lists i x y (stop.Refused c) h e same fault was =
    sym was ∙ ap first_failing (first_list lists i x h e)
    ∙ failed_first (list_tests x) (flat_map list_tests (drop (i + 1) lists)) c (ap (λ (z : List ℕ). first_failing (list_tests z)) (sym same) ∙ fault)
list_fails lists i x y stop.Memory h e same fault was = tt
