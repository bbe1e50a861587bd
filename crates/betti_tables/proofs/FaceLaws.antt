-- Faces by their numbers of labels, and the faces with one label less.
use Rattle.std.proofs.Common.{◌≡◌, ℕ, ◌+◌, ◌<◌, ◌≤◌, Bool, true, false, cond, eqb, List, [], ◌∷◌, map, length, refl, sym, ap, ◌∙◌, subst, inl, inr, arith}
use Rattle.std.specs.Prelude.{not, ◌==◌}
use Rattle.std.specs.Ordering.{nat_cmp}
use Rattle.std.specs.List.{list_all, filter, flat_map}
use Rattle.std.specs.Cmp.Lexicographic.{nat_list_cmp_total}
use Rattle.std.proofs.lemmas.Bool.Decides.{nat_tests}
use Rattle.simplex.specs.InOrder.{is_increasing}
use Rattle.simplex.specs.Simplex.{is_simplex, is_within, simplex_cmp, subsets, without}
use Rattle.simplex.proofs.InOrderLaws.{is_increasing-in_order}
use Rattle.simplex.proofs.Members.{In, first, later, cases, none, in_filter, from_filter, in_either, from_map, from_flat_map}
use Rattle.simplex.proofs.SimplexLaws.{is_increasing-filter, in_within, from_without}
use Rattle.simplex.proofs.Decided.{eqb_equal}
use Rattle.facet_set.specs.Complex.{faces}
use Rattle.facet_set.specs.Numbers.{faces_of_size, size}
use Rattle.facet_set.proofs.ComplexLaws.{is_set, from_faces, in_faces, face_below, from_simplices, sets_of}
use Rattle.facet_set.proofs.FlipLaws.{length-without}
use Rattle.betti_tables.specs.Boundary.{HasRows}
use Rattle.betti_tables.specs.Ranks.{column}

equal_from : (a b : ℕ) → a ≡ b → eqb a b ≡ true
equal_from a b e = grind (arith, nat_tests)

unequal : (a b : ℕ) → a < b → eqb a b ≡ false
unequal a b h = grind (arith, nat_tests)

pub of_size : (c : List (List ℕ)) (n : ℕ) (s : List ℕ) → In s (faces_of_size c n) → In s (faces c) × (length s ≡ n)
of_size c n s i = let r = from_filter (λ t. length t == n) s (faces c) i in (r.0, eqb_equal (length s) n r.1)

pub in_size : (c : List (List ℕ)) (n : ℕ) (s : List ℕ) → In s (faces c) → length s ≡ n → In s (faces_of_size c n)
in_size c n s i e = in_filter (λ t. length t == n) s (faces c) i (equal_from (length s) n e)

pub rising_faces : (c : List (List ℕ)) (n : ℕ) → is_increasing simplex_cmp (faces_of_size c n) ≡ true
rising_faces c n = is_increasing-filter simplex_cmp (λ s. length s == n) (faces c) (is_increasing-in_order nat_list_cmp_total (flat_map subsets c))

pub set_of : (c : List (List ℕ)) (n : ℕ) (s : List ℕ) → list_all is_simplex c ≡ true → In s (faces_of_size c n) → is_set s ≡ true
set_of c n s h i = (from_faces c s (sets_of c h) (of_size c n s i).0).0

-- a face without one label is a face
pub column_faces : (c : List (List ℕ)) (n : ℕ) (s t : List ℕ) → list_all is_simplex c ≡ true → In s (faces_of_size c (n + 1)) → In t (column s) → In t (faces_of_size c n)
column_faces c n s t h i j =
    let cs : list_all is_set c ≡ true = sets_of c h in
    let whole = of_size c (n + 1) s i in
    let face = from_faces c s cs whole.0 in
    let at = from_map (without s) t s j in
    let a : ℕ = at.0 in
    let count = length-without a s face.0 at.1 in
    let up : is_set (without s a) ≡ true = is_increasing-filter nat_cmp (λ b. not (eqb a b)) s face.0 in
    let within : is_within (without s a) s ≡ true = in_within (without s a) s (λ b k. (from_without s a b k).0) in
    subst (λ z. In z (faces_of_size c n)) (sym at.2) (in_size c n (without s a) (in_faces c (without s a) cs up (face_below c (without s a) s within face.1)) (omega (arith, count, whole.1)))

pub has_rows : (c : List (List ℕ)) (n : ℕ) (s : List ℕ) → list_all is_simplex c ≡ true → In s (faces_of_size c (n + 1)) → HasRows (faces_of_size c n) s
has_rows c n s h i = record { rising = rising_faces c n; found = λ t j. column_faces c n s t h i j }

-- no face has more labels than the largest facet
shorter : (t u : List ℕ) → In u (subsets t) → length u ≤ length t
shorter [] u i = elim (cases i) [ inl e ↦ omega (arith, ap length e) | inr j ↦ absurd (none u j) ]
shorter (a ∷ t) u i =
    elim (in_either u (map (λ v. a ∷ v) (subsets t)) (subsets t) i) [
      | inl j ↦ let at = from_map (λ v. a ∷ v) u (subsets t) j in let rest = shorter t at.0 at.1 in omega (arith, ap length at.2)
      | inr j ↦ let rest = shorter t u j in omega arith
    ]

within_size : (c : List (List ℕ)) (t : List ℕ) → In t c → length t ≤ size c
within_size [] t i = absurd (none t i)
within_size (s ∷ c) t i = elim (cases i) [ inl e ↦ let k = ap length e in omega arith | inr j ↦ let rest = within_size c t j in omega arith ]

filter_none : (p : List ℕ → Bool) (xs : List (List ℕ)) → ((x : List ℕ) → In x xs → p x ≡ false) → filter p xs ≡ []
filter_none p [] f = refl
filter_none p (x ∷ xs) f = ap (λ v. cond v (x ∷ filter p xs) (filter p xs)) (f x first) ∙ filter_none p xs (λ y i. f y (later i))

pub no_faces : (c : List (List ℕ)) (n : ℕ) → size c < n → faces_of_size c n ≡ []
no_faces c n h =
    filter_none (λ s. length s == n) (faces c)
    (λ s i.
    let at = from_flat_map subsets s c (from_simplices s (flat_map subsets c) i) in
    let low = shorter at.0 s at.2 in
    let high = within_size c at.0 at.1 in
    unequal (length s) n (omega arith))
