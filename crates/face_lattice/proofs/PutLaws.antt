-- A label put into an increasing list, by the place that a binary search finds, and all labels of a facet one by one.
use Rattle.std.proofs.Common.{◌≡◌, ℕ, zero, suc, ◌≤◌, ◌<◌, ◌+◌, Bool, true, false, not, cond, List, [], ◌∷◌, ◌++◌, length, take, get_or, Result, Ok, Err, IfOk, IfErr, refl, sym, ap, ◌∙◌, subst, inl, inr, arith}
use Rattle.std.specs.Ordering.{nat_cmp, match_ordering}
use Rattle.std.specs.List.{insert}
use Rattle.std.specs.List.Sorted.{IsBinarySearchResult}
use Rattle.std.specs.FinMap.{nat_cmp-IsAntisymmetric}
use Rattle.std.specs.declared.cmp.Ordering.TheVariants.{Less, Equal, Greater}
use Rattle.std.proofs.lemmas.Bool.Decides.{nat_tests}
use Rattle.std.proofs.lemmas.Cmp.{nat_cmp_total}
use Rattle.std.proofs.lemmas.List.{take_more, append-nil}
use Rattle.std.proofs.lemmas.List.Elements.{filter-append}
use Rattle.std.proofs.lemmas.List.Sorted.{searched}
use Rattle.simplex.specs.InOrder.{is_increasing, in_order, put}
use Rattle.simplex.specs.Simplex.{has, minus, union}
use Rattle.simplex.proofs.InOrderLaws.{is_increasing-put, in_order_again}
use Rattle.simplex.proofs.Members.{In, first, later, cases, in_left, in_right, in_either, same_in_order}
use Rattle.simplex.proofs.SimplexLaws.{above_at, rest_increasing}

less_is : (x y : ℕ) → x < y → nat_cmp x y ≡ Less
less_is x y h = grind (arith, nat_tests)

equal_is : (x y : ℕ) → x ≡ y → nat_cmp x y ≡ Equal
equal_is x y h = grind (arith, nat_tests)

greater_is : (x y : ℕ) → y < x → nat_cmp x y ≡ Greater
greater_is x y h = grind (arith, nat_tests)

at_place : (xs : List ℕ) (j : ℕ) → j < length xs → In (get_or xs j 0) xs
at_place [] j l = absurd (omega (arith, l))
at_place (x ∷ xs) zero l = first
at_place (x ∷ xs) (suc j) l = later (at_place xs j (omega (arith, l)))

above : (x : ℕ) (xs : List ℕ) → is_increasing nat_cmp (x ∷ xs) ≡ true → (j : ℕ) → j < length xs → x < get_or xs j 0
above x xs h j l = above_at x xs (get_or xs j 0) h (at_place xs j l)

rising : (xs : List ℕ) → is_increasing nat_cmp xs ≡ true → (i j : ℕ) → i ≤ j → j < length xs → get_or xs i 0 ≤ get_or xs j 0
rising [] s i j h l = absurd (omega (arith, l))
rising (x ∷ xs) s zero zero h l = omega arith
rising (x ∷ xs) s zero (suc j) h l = omega (arith, above x xs s j (omega (arith, l)))
rising (x ∷ xs) s (suc i) zero h l = absurd (omega (arith, h))
rising (x ∷ xs) s (suc i) (suc j) h l = rising xs (rest_increasing x xs s) i j (omega (arith, h)) (omega (arith, l))

insert_here : (xs : List ℕ) (x k : ℕ) → k ≤ length xs → ((j : ℕ) → j < k → get_or xs j 0 < x) → ((j : ℕ) → k ≤ j → j < length xs → x < get_or xs j 0) → insert xs k x ≡ put nat_cmp x xs
insert_here [] x zero l b a = refl
insert_here [] x (suc k) l b a = absurd (omega (arith, l))
insert_here (y ∷ ys) x zero l b a = sym (ap (λ o. match_ordering o (x ∷ y ∷ ys) (y ∷ ys) (y ∷ put nat_cmp x ys)) (less_is x y (a zero (omega arith) (omega arith))))
insert_here (y ∷ ys) x (suc k) l b a =
    let r = insert_here ys x k (omega (arith, l)) (λ j h. b (suc j) (omega (arith, h))) (λ j h m. a (suc j) (omega (arith, h)) (omega (arith, m))) in
    ap (λ t. y ∷ t) r ∙ sym (ap (λ o. match_ordering o (x ∷ y ∷ ys) (y ∷ ys) (y ∷ put nat_cmp x ys)) (greater_is x y (b zero (omega arith))))

there_already : (xs : List ℕ) (x i : ℕ) → is_increasing nat_cmp xs ≡ true → i < length xs → get_or xs i 0 ≡ x → put nat_cmp x xs ≡ xs
there_already [] x i s l e = absurd (omega (arith, l))
there_already (y ∷ ys) x zero s l e = ap (λ o. match_ordering o (x ∷ y ∷ ys) (y ∷ ys) (y ∷ put nat_cmp x ys)) (equal_is x y (sym e))
there_already (y ∷ ys) x (suc i) s l e =
    let g = above y ys s i (omega (arith, l)) in
    ap (λ o. match_ordering o (x ∷ y ∷ ys) (y ∷ ys) (y ∷ put nat_cmp x ys)) (greater_is x y (omega (arith, g, e)))
    ∙ ap (λ t. y ∷ t) (there_already ys x i (rest_increasing y ys s) (omega (arith, l)) e)

-- where the search finds no place of the label, it goes to the place that it answers
pub placed_at : (xs : List ℕ) (x : ℕ) (r : Result ℕ ℕ) → is_increasing nat_cmp xs ≡ true → IsBinarySearchResult (λ y. nat_cmp y x) xs r → IfErr r (λ k. insert xs k x ≡ put nat_cmp x xs)
placed_at xs x (Ok k) s p = tt
placed_at xs x (Err k) s p = let r = searched xs x (Err k) p (rising xs s) in insert_here xs x k r.0 r.1 r.2

-- and else nothing changes
pub found_at : (xs : List ℕ) (x : ℕ) (r : Result ℕ ℕ) → is_increasing nat_cmp xs ≡ true → IsBinarySearchResult (λ y. nat_cmp y x) xs r → IfOk r (λ _. put nat_cmp x xs ≡ xs)
found_at xs x (Ok k) s p = let r = searched xs x (Ok k) p (rising xs s) in there_already xs x k s r.0 r.1
found_at xs x (Err k) s p = tt

-- the new label keeps the order
pub rising_still : (xs : List ℕ) (x : ℕ) → is_increasing nat_cmp xs ≡ true → is_increasing nat_cmp (put nat_cmp x xs) ≡ true
rising_still xs x s = is_increasing-put nat_cmp_total x xs s

-- no label put in
pub union_none : (up s : List ℕ) → is_increasing nat_cmp up ≡ true → up ≡ union up (minus [] s)
union_none up s h = sym (ap (in_order nat_cmp) (append-nil up) ∙ in_order_again nat_cmp_total nat_cmp-IsAntisymmetric up h)

-- one more label put in
last_first : (up m : List ℕ) (x : ℕ) → put nat_cmp x (union up m) ≡ union up (m ++ x ∷ [])
last_first up m x =
    same_in_order nat_cmp_total nat_cmp-IsAntisymmetric (x ∷ up ++ m) (up ++ (m ++ x ∷ []))
    (λ y i. elim (cases i) [
      | inl e ↦ in_right y up (m ++ x ∷ []) (in_right y m (x ∷ []) (subst (λ z. In y (z ∷ [])) e first))
      | inr j ↦ elim (in_either y up m j) [ inl k ↦ in_left y up (m ++ x ∷ []) k | inr k ↦ in_right y up (m ++ x ∷ []) (in_left y m (x ∷ []) k) ]
    ])
    (λ y i. elim (in_either y up (m ++ x ∷ []) i) [
      | inl k ↦ later (in_left y up m k)
      | inr j ↦ elim (in_either y m (x ∷ []) j) [ inl k ↦ later (in_right y up m k) | inr k ↦ elim (cases k) [ inl e ↦ subst (λ z. In z (x ∷ up ++ m)) (sym e) first | inr n ↦ elim n [ ] ] ]
    ])

pub union_more : (up xs s : List ℕ) (x : ℕ) → cond (has s x) (union up (minus xs s)) (put nat_cmp x (union up (minus xs s))) ≡ union up (minus (xs ++ x ∷ []) s)
union_more up xs s x = by (has s x) ∙ ap (union up) (sym (filter-append (λ a. not (has s a)) xs (x ∷ [])))
  where
    by : (b : Bool) → cond b (union up (minus xs s)) (put nat_cmp x (union up (minus xs s))) ≡ union up (minus xs s ++ cond (not b) (x ∷ []) [])
    by true = ap (union up) (sym (append-nil (minus xs s)))
    by false = last_first up (minus xs s) x

-- a loop's step: the label at a place
pub union_step : (up xs s new : List ℕ) (i d : ℕ) → i < length xs → new ≡ cond (has s (get_or xs i d)) (union up (minus (take i xs) s)) (put nat_cmp (get_or xs i d) (union up (minus (take i xs) s))) → new ≡ union up (minus (take (i + 1) xs) s)
union_step up xs s new i d l h = h ∙ union_more up (take i xs) s (get_or xs i d) ∙ ap (λ ys. union up (minus ys s)) (sym (take_more xs i d l))
