-- A simplex found in a list, and taken out.
use Rattle.std.proofs.Common.{◌≡◌, ℕ, zero, suc, ◌<◌, ◌+◌, Bool, true, false, not, cond, ◌||◌, List, [], ◌∷◌, ◌++◌, length, take, get_or, refl, sym, ap, ◌∙◌, arith}
use Rattle.std.specs.Prelude.{◌==◌}
use Rattle.std.proofs.lemmas.Bool.Decides.{nat_tests}
use Rattle.std.specs.Bool.{IsTrue}
use Rattle.std.proofs.lemmas.Cmp.{nat_list_cmp_total}
use Rattle.std.specs.List.{filter, list_any, remove}
use Rattle.std.proofs.lemmas.List.{take_more}
use Rattle.std.proofs.lemmas.List.Elements.{filter-append}
use Rattle.simplex.specs.Simplex.{is_same, without}
use Rattle.simplex.proofs.Decided.{or_left}
use Rattle.simplex.proofs.Members.{In, is_member_at}
use Rattle.facet_set.specs.Complex.{stands_in}
use Rattle.facet_set.proofs.ComplexLaws.{exact, same_itself}
use Rattle.facet_set.proofs.FaceNumbers.{swapped}
use Rattle.facet_set.proofs.GeneratedLaws.{same_is}
use Rattle.face_lattice.specs.Cells.{same}
use Rattle.face_lattice.specs.Lattice.{all_but}

pub stands_is : (xs : List (List ℕ)) (f : List ℕ) → list_any (λ y. same y f) xs ≡ stands_in xs f
stands_is [] f = refl
stands_is (x ∷ xs) f = λ i. (swapped x f ∙ same_is f x) i || stands_is xs f i

gone : {X : Type 0} (p : X → Bool) (xs : List X) (k : ℕ) (d : X) → k < length xs → p (get_or xs k d) ≡ false → filter p (remove xs k) ≡ filter p xs
gone p [] k d l e = absurd (omega (arith, l))
gone p (x ∷ xs) zero d l e = sym (ap (λ b. cond b (x ∷ filter p xs) (filter p xs)) e)
gone p (x ∷ xs) (suc k) d l e = ap (λ ys. cond (p x) (x ∷ ys) ys) (gone p xs k d (omega (arith, l)) e)

-- a copy taken out
pub taken_out : (f : List ℕ) (xs : List (List ℕ)) (k : ℕ) → k < length xs → get_or xs k f ≡ f → all_but f (remove xs k) ≡ all_but f xs
taken_out f xs k l e = gone (λ s. not (is_same f s)) xs k f l (ap (λ s. not (is_same f s)) e ∙ ap not (same_itself f))

-- one more that is another
pub more_others : (f : List ℕ) (xs : List (List ℕ)) (k : ℕ) (d : List ℕ) → k < length xs → is_same f (get_or xs k d) ≡ false → all_but f (take k xs) ≡ take k xs → all_but f (take (k + 1) xs) ≡ take (k + 1) xs
more_others f xs k d l e h =
    let m = take_more xs k d l in
    ap (all_but f) m ∙ filter-append (λ s. not (is_same f s)) (take k xs) (get_or xs k d ∷ []) ∙ (λ i. h i ++ cond (not (e i)) (get_or xs k d ∷ []) []) ∙ sym m

-- the same of labels
pub label_out : (a : ℕ) (xs : List ℕ) (k : ℕ) → k < length xs → get_or xs k a ≡ a → without (remove xs k) a ≡ without xs a
label_out a xs k l e = gone (λ b. not (a == b)) xs k a l (let t : (a == get_or xs k a) ≡ true = grind (arith, nat_tests) in ap not t)

pub more_labels : (a : ℕ) (xs : List ℕ) (k d : ℕ) → k < length xs → (a == get_or xs k d) ≡ false → without (take k xs) a ≡ take k xs → without (take (k + 1) xs) a ≡ take (k + 1) xs
more_labels a xs k d l e h =
    let m = take_more xs k d l in
    ap (λ ys. without ys a) m ∙ filter-append (λ b. not (a == b)) (take k xs) (get_or xs k d ∷ []) ∙ (λ i. h i ++ cond (not (e i)) (get_or xs k d ∷ []) []) ∙ sym m

-- what there is room for
pub member : (room : List (List ℕ)) (f : List ℕ) → IsTrue (stands_in room f) → In f room
member room f h = is_member_at nat_list_cmp_total exact f room h

pub expected : (room new : List (List ℕ)) (f : List ℕ) → new ≡ cond (stands_in room f) room (f ∷ []) → IsTrue (stands_in new f)
expected room new f e = ap (λ r. stands_in r f) e ∙ by (stands_in room f) refl
  where
    by : (b : Bool) → stands_in room f ≡ b → stands_in (cond b room (f ∷ [])) f ≡ true
    by true h = h
    by false h = or_left (is_same f f) false (same_itself f)

pub left_over : (b : Bool) (room : List (List ℕ)) (f : List ℕ) → all_but f (cond b room (f ∷ [])) ≡ cond b (all_but f room) []
left_over true room f = refl
left_over false room f = ap (λ b. cond (not b) (f ∷ []) []) (same_itself f)

pub no_member : (b : Bool) (xs : List (List ℕ)) → (b ≡ true → ⊥) → [] ≡ cond b xs []
no_member true xs h = absurd (h refl)
no_member false xs h = refl
