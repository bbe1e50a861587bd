-- Sets of places in an increasing list of names.
use Rattle.std.proofs.Common.{◌≡◌, ℕ, zero, suc, ◌+◌, ◌<◌, ◌≤◌, true, ◌||◌, List, [], ◌∷◌, ◌++◌, length, get_or, map, take, refl, sym, ap, ◌∙◌, subst, ◌⊎◌, inl, inr, arith}
use Rattle.std.specs.Ordering.{is_lt, nat_cmp, eq_by_cmp}
use Rattle.std.specs.FinMap.{nat_cmp-IsAntisymmetric}
use Rattle.std.specs.List.{list_all, Contains}
use Rattle.std.proofs.lemmas.Cmp.{nat_cmp_total}
use Rattle.std.proofs.lemmas.List.{get_or-set_same, get_or-set_other, length-set, map_push, take_more, take_all}
use Rattle.simplex.specs.InOrder.{is_member, is_increasing, put}
use Rattle.simplex.specs.Simplex.{simplex_cmp, without}
use Rattle.simplex.proofs.InOrderLaws.{and_left, and_right, is_member-put, itself, equal_is}
use Rattle.simplex.proofs.Members.{In, first, later, cases, none, all_at, in_left, in_right, in_either, contains_in, in_contains, in_map, is_member_from, is_member_at}
use Rattle.simplex.proofs.Decided.{or_cases, or_right}
use Rattle.facet_set.proofs.FacetLaws.{below_apart}
use Rattle.gf2_rank.specs.Laws.{IsNamed}
use Rattle.gf2_rank.specs.Matrix.{Matrix, cols, column as rows_of, with_one}
use Rattle.betti_tables.specs.Boundary.{HasRows, IsWritten}
use Rattle.betti_tables.specs.Ranks.{column}

in_at : {X : Type 0} (xs : List X) (k : ℕ) (d : X) → k < length xs → In (get_or xs k d) xs
in_at [] k d h = absurd (omega arith)
in_at (x ∷ xs) zero d h = first
in_at (x ∷ xs) (suc k) d h = later (in_at xs k d (omega arith))

-- no name stands at two places
one_place : (names : List (List ℕ)) (j k : ℕ) (d e : List ℕ) → is_increasing simplex_cmp names ≡ true → j < length names → k < length names → get_or names j d ≡ get_or names k e → j ≡ k
one_place [] j k d e h l m f = absurd (omega arith)
one_place (x ∷ xs) zero zero d e h l m f = refl
one_place (x ∷ xs) zero (suc k) d e h l m f =
    absurd (below_apart x (get_or xs k e) (all_at (λ y. is_lt (simplex_cmp x y)) (get_or xs k e) xs (and_left _ _ h) (in_at xs k e (omega arith))) f)
one_place (x ∷ xs) (suc j) zero d e h l m f =
    absurd (below_apart x (get_or xs j d) (all_at (λ y. is_lt (simplex_cmp x y)) (get_or xs j d) xs (and_left _ _ h) (in_at xs j d (omega arith))) (sym f))
one_place (x ∷ xs) (suc j) (suc k) d e h l m f = ap suc (one_place xs j k d e (and_right (list_all (λ y. is_lt (simplex_cmp x y)) xs) _ h) (omega arith) (omega arith) f)

pub same_read : (xs : List (List ℕ)) (j : ℕ) (d e : List ℕ) → j < length xs → get_or xs j d ≡ get_or xs j e
same_read [] j d e h = absurd (omega arith)
same_read (x ∷ xs) zero d e h = refl
same_read (x ∷ xs) (suc j) d e h = same_read xs j d e (omega arith)

-- the members of a set with a number put in
from_put : (k : ℕ) (s : List ℕ) (j : ℕ) → Contains (put nat_cmp k s) j → (j ≡ k) ⊎ Contains s j
from_put k s j h =
    let m = is_member_from nat_cmp_total nat_cmp-IsAntisymmetric j (put nat_cmp k s) (contains_in (put nat_cmp k s) j h) in
    elim (or_cases (eq_by_cmp nat_cmp j k) (is_member nat_cmp j s) (sym (is_member-put nat_cmp_total j k s) ∙ m)) [
      | inl e ↦ inl (nat_cmp-IsAntisymmetric j k (equal_is _ e))
      | inr e ↦ inr (in_contains s j (is_member_at nat_cmp_total nat_cmp-IsAntisymmetric j s e))
    ]

in_put : (k : ℕ) (s : List ℕ) (j : ℕ) → (j ≡ k) ⊎ Contains s j → Contains (put nat_cmp k s) j
in_put k s j h =
    in_contains (put nat_cmp k s) j (is_member_at nat_cmp_total nat_cmp-IsAntisymmetric j (put nat_cmp k s) (is_member-put nat_cmp_total j k s ∙ elim h as (λ _. (eq_by_cmp nat_cmp j k || is_member nat_cmp j s) ≡ true) [
      | inl e ↦ ap (λ v. v || is_member nat_cmp j s) (subst (λ z. eq_by_cmp nat_cmp j z ≡ true) e (itself nat_cmp_total j))
      | inr i ↦ or_right (eq_by_cmp nat_cmp j k) (is_member nat_cmp j s) (is_member_from nat_cmp_total nat_cmp-IsAntisymmetric j s (contains_in s j i))
    ]))

from_push : (xs : List (List ℕ)) (y x : List ℕ) → Contains (xs ++ y ∷ []) x → Contains xs x ⊎ (x ≡ y)
from_push xs y x h =
    elim (in_either x xs (y ∷ []) (contains_in (xs ++ y ∷ []) x h)) [
      | inl i ↦ inl (in_contains xs x i)
      | inr i ↦ elim (cases i) [ inl e ↦ inr e | inr j ↦ absurd (none x j) ]
    ]

pub named_none : (names : List (List ℕ)) → IsNamed names [] []
named_none names =
    record {
      places = λ k h. absurd (none k (contains_in [] k h));
      values = λ x h. absurd (none x (contains_in [] x h));
      same = λ k d h. (λ i. absurd (none k (contains_in [] k i)), λ i. absurd (none (get_or names k d) (contains_in [] (get_or names k d) i)));
    }

-- one more name and its place
pub named_more : (names : List (List ℕ)) (s : List ℕ) (xs : List (List ℕ)) (k : ℕ) (y : List ℕ) → is_increasing simplex_cmp names ≡ true → k < length names → get_or names k y ≡ y
    → IsNamed names s xs → IsNamed names (put nat_cmp k s) (xs ++ y ∷ [])
named_more names s xs k y up inside here h =
    record {
      places = λ j i. elim (from_put k s j i) [ inl e ↦ omega arith | inr m ↦ h.places j m ];
      values = λ x i. elim (from_push xs y x i) [
        | inl m ↦ h.values x m
        | inr e ↦ in_contains names x (subst (λ z. In z names) (here ∙ sym e) (in_at names k y inside))
      ];
      same = λ j d l. (
        λ i. elim (from_put k s j i) [
          | inl e ↦ in_contains (xs ++ y ∷ []) (get_or names j d) (in_right (get_or names j d) xs (y ∷ []) (subst (λ z. In z (y ∷ [])) (sym (at j d l e)) first))
          | inr m ↦ in_contains (xs ++ y ∷ []) (get_or names j d) (in_left (get_or names j d) xs (y ∷ []) (contains_in xs (get_or names j d) ((h.same j d l).0 m)))
        ],
        λ i. in_put k s j (elim (from_push xs y (get_or names j d) i) [
          | inl m ↦ inr ((h.same j d l).1 m)
          | inr e ↦ inl (one_place names j k d y up l inside (e ∙ sym here))
        ]),
      );
    }
  where
    at : (j : ℕ) (d : List ℕ) → j < length names → j ≡ k → get_or names j d ≡ y
    at j d l e = same_read names j d y l ∙ ap (λ i. get_or names i y) e ∙ here

-- a column is begun, gets one place more, and is done
pub written_none : (rows : List (List ℕ)) (col : ℕ) (m : Matrix) → rows_of m col ≡ [] → IsWritten rows [] col m m
written_none rows col m e = record { named = subst (λ s. IsNamed rows s []) (sym e) (named_none rows); others = λ k h. refl; rows_same = refl; cols_same = refl }

pub written_more : (rows xs : List (List ℕ)) (col row : ℕ) (y : List ℕ) (before now : Matrix) → is_increasing simplex_cmp rows ≡ true → row < length rows → get_or rows row y ≡ y → col < cols before
    → IsWritten rows xs col before now → IsWritten rows (xs ++ y ∷ []) col before (with_one now row col)
written_more rows xs col row y before now up inside here below h =
    let s : List ℕ = rows_of now col in
    record {
      named = subst (λ z. IsNamed rows z (xs ++ y ∷ [])) (sym (get_or-set_same now.columns col (put nat_cmp row s) [] (omega (arith, h.cols_same)))) (named_more rows s xs row y up inside here h.named);
      others = λ k other. get_or-set_other now.columns col k (put nat_cmp row s) [] other ∙ h.others k other;
      rows_same = h.rows_same;
      cols_same = length-set now.columns col (put nat_cmp row s) ∙ h.cols_same;
    }

-- the labels of a simplex, one more each time
pub labels_more : (s items : List ℕ) (i d : ℕ) → items ≡ s → i < length items → map (without s) (take (i + 1) items) ≡ map (without s) (take i items) ++ without s (get_or items i d) ∷ []
labels_more s items i d e h = ap (map (without s)) (take_more items i d h) ∙ map_push (without s) (take i items) (get_or items i d)

pub labels_all : (s items : List ℕ) (i : ℕ) → items ≡ s → length items ≤ i → map (without s) (take i items) ≡ column s
labels_all s items i e h = ap (map (without s)) (take_all i items h ∙ e)

pub row_found : (rows : List (List ℕ)) (s items : List ℕ) (i d : ℕ) → items ≡ s → i < length items → HasRows rows s → In (without s (get_or items i d)) rows
row_found rows s items i d e h f = f.found (without s (get_or items i d)) (in_map (without s) (get_or items i d) s (subst (In (get_or items i d)) e (in_at items i d h)))
