-- Lists of candidates in order of A, and how two become one.
use Rattle.std.proofs.Common.{◌≡◌, ℕ, ◌+◌, ◌<◌, ◌≤◌, Bool, true, false, not, cond, List, [], ◌∷◌, ◌++◌, append-nil, length, drop, get_or, Option, Some, None, refl, sym, ap, ◌∙◌, subst, ◌⊎◌, inl, inr}
use Rattle.std.specs.List.{filter, filter_map, list_all, cons_option}
use Rattle.std.specs.Ordering.{is_lt}
use Rattle.std.specs.declared.cmp.Ordering.{Ordering}
use Rattle.std.proofs.lemmas.List.{drop_more, drop_all}
use Rattle.simplex.specs.InOrder.{is_increasing}
use Rattle.simplex.specs.Simplex.{simplex_cmp}
use Rattle.simplex.proofs.InOrderLaws.{and_left, and_right, and_both}
use Rattle.simplex.proofs.Members.{In, first, all_at, all_from, from_filter}
use Rattle.facet_set.proofs.FacetLaws.{not_less}
use Rattle.facet_set.proofs.OptionLaws.{from_filter_map}
use Rattle.flip_rules.specs.declared.candidate.Candidate.{Candidate}
use Rattle.flip_table.specs.Following.{merged, merged_from}

abbrev pub by_a : Candidate → Candidate → Ordering
by_a m n = simplex_cmp m.flip.a n.flip.a

-- what is made at the members of an increasing list, each with its member as A, is in order of A
pub rising_made : (f : List ℕ → Option Candidate) → ((a : List ℕ) (n : Candidate) → f a ≡ Some n → n.flip.a ≡ a) → (xs : List (List ℕ)) → is_increasing simplex_cmp xs ≡ true → is_increasing by_a (filter_map f xs) ≡ true
rising_made f h [] up = refl
rising_made f h (x ∷ xs) up =
    elim (f x) as (λ r. f x ≡ r → is_increasing by_a (cons_option r (filter_map f xs)) ≡ true) [
      | None ↦ λ e. rising_made f h xs (and_right (list_all (λ y. is_lt (simplex_cmp x y)) xs) _ up)
      | Some n ↦ λ e. and_both _ _
          (all_from (λ m. is_lt (by_a n m)) (filter_map f xs) (λ m i.
          let r = from_filter_map f m xs i in
          subst (λ b. is_lt (simplex_cmp b m.flip.a) ≡ true) (sym (h x n e))
          (subst (λ b. is_lt (simplex_cmp x b) ≡ true) (sym (h r.0 m r.2)) (all_at (λ y. is_lt (simplex_cmp x y)) r.0 xs (and_left _ _ up) r.1))))
          (rising_made f h xs (and_right (list_all (λ y. is_lt (simplex_cmp x y)) xs) _ up))
    ] refl

merged_none : (xs : List Candidate) → merged xs [] ≡ xs
merged_none [] = refl
merged_none (x ∷ xs) = refl

from_second : (x : Candidate) (ys zs : List Candidate) → ((y : Candidate) → In y ys → is_lt (by_a x y) ≡ true) → merged ys (x ∷ zs) ≡ x ∷ merged ys zs
from_second x [] zs f = refl
from_second x (y ∷ ys) zs f = ap (λ v. cond v (x ∷ merged_from y ys (merged ys) zs) (y ∷ merged ys (x ∷ zs))) (f y first)

from_first : (x : Candidate) (ys zs : List Candidate) → ((z : Candidate) → In z zs → is_lt (by_a x z) ≡ true) → merged (x ∷ ys) zs ≡ x ∷ merged ys zs
from_first x ys [] f = ap (λ l. x ∷ l) (sym (merged_none ys))
from_first x ys (z ∷ zs) f = ap (λ v. cond v (z ∷ merged_from x ys (merged ys) zs) (x ∷ merged ys (z ∷ zs))) (not_less x.flip.a z.flip.a (f z first))

-- a list in order of A is merged from those of its members that pass a test and those that do not
pub merged_parts : (p : Candidate → Bool) (xs : List Candidate) → is_increasing by_a xs ≡ true → merged (filter (λ n. not (p n)) xs) (filter p xs) ≡ xs
merged_parts p [] h = refl
merged_parts p (x ∷ xs) h =
    let rest : x ∷ merged (filter (λ n. not (p n)) xs) (filter p xs) ≡ x ∷ xs = ap (λ l. x ∷ l) (merged_parts p xs (and_right (list_all (λ y. is_lt (by_a x y)) xs) _ h)) in
    elim (p x) as (λ v. merged (cond (not v) (x ∷ filter (λ n. not (p n)) xs) (filter (λ n. not (p n)) xs)) (cond v (x ∷ filter p xs) (filter p xs)) ≡ x ∷ xs) [
      | true ↦ from_second x (filter (λ n. not (p n)) xs) (filter p xs) (λ y i. below y (from_filter (λ n. not (p n)) y xs i).0) ∙ rest
      | false ↦ from_first x (filter (λ n. not (p n)) xs) (filter p xs) (λ z i. below z (from_filter p z xs i).0) ∙ rest
    ]
  where
    below : (y : Candidate) → In y xs → is_lt (by_a x y) ≡ true
    below y i = all_at (λ y. is_lt (by_a x y)) y xs (and_left _ _ h) i

-- ---- one step of a merge
onto : (l : List Candidate) (x : Candidate) (m : List Candidate) → (l ++ x ∷ []) ++ m ≡ l ++ x ∷ m
onto [] x m = refl
onto (y ∷ l) x m = ap (λ r. y ∷ r) (onto l x m)

module _ (xs ys all list : List Candidate) (i j : ℕ) (x y : Candidate) (h : i < length xs) (k : j < length ys) (ex : x ≡ get_or xs i x) (ey : y ≡ get_or ys j y)
    (so_far : list ++ merged (drop i xs) (drop j ys) ≡ all) where
  here : drop i xs ≡ x ∷ drop (i + 1) xs
  here = drop_more xs i x h ∙ ap (λ z. z ∷ drop (i + 1) xs) (sym ex)

  there : drop j ys ≡ y ∷ drop (j + 1) ys
  there = drop_more ys j y k ∙ ap (λ z. z ∷ drop (j + 1) ys) (sym ey)

  opened : merged (drop i xs) (drop j ys) ≡ cond (is_lt (simplex_cmp y.flip.a x.flip.a)) (y ∷ merged (x ∷ drop (i + 1) xs) (drop (j + 1) ys)) (x ∷ merged (drop (i + 1) xs) (y ∷ drop (j + 1) ys))
  opened = λ l. merged (here l) (there l)

  pub merged_second : is_lt (simplex_cmp y.flip.a x.flip.a) ≡ true → (list ++ y ∷ []) ++ merged (drop i xs) (drop (j + 1) ys) ≡ all
  merged_second e =
      onto list y (merged (drop i xs) (drop (j + 1) ys))
      ∙ ap (λ l. list ++ y ∷ merged l (drop (j + 1) ys)) here
      ∙ ap (λ l. list ++ l) (sym (opened ∙ ap (λ v. cond v (y ∷ merged (x ∷ drop (i + 1) xs) (drop (j + 1) ys)) (x ∷ merged (drop (i + 1) xs) (y ∷ drop (j + 1) ys))) e))
      ∙ so_far

  pub merged_first : is_lt (simplex_cmp y.flip.a x.flip.a) ≡ false → (list ++ x ∷ []) ++ merged (drop (i + 1) xs) (drop j ys) ≡ all
  merged_first e =
      onto list x (merged (drop (i + 1) xs) (drop j ys))
      ∙ ap (λ l. list ++ x ∷ merged (drop (i + 1) xs) l) there
      ∙ ap (λ l. list ++ l) (sym (opened ∙ ap (λ v. cond v (y ∷ merged (x ∷ drop (i + 1) xs) (drop (j + 1) ys)) (x ∷ merged (drop (i + 1) xs) (y ∷ drop (j + 1) ys))) e))
      ∙ so_far

-- the end of a merge, where one of the lists is used up
pub merged_end : (xs ys all list : List Candidate) (i j : ℕ) → (length xs ≤ i) ⊎ (length ys ≤ j) → list ++ merged (drop i xs) (drop j ys) ≡ all → (list ++ drop i xs) ++ drop j ys ≡ all
merged_end xs ys all list i j (inl h) e =
    (λ l. (list ++ drop_all i xs h l) ++ drop j ys) ∙ ap (λ l. l ++ drop j ys) (append-nil list) ∙ ap (λ l. list ++ merged l (drop j ys)) (sym (drop_all i xs h)) ∙ e
merged_end xs ys all list i j (inr h) e =
    ap (λ l. (list ++ drop i xs) ++ l) (drop_all j ys h) ∙ append-nil (list ++ drop i xs) ∙ ap (λ l. list ++ l) (sym (ap (merged (drop i xs)) (drop_all j ys h) ∙ merged_none (drop i xs))) ∙ e
