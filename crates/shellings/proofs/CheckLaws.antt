-- The checker of an order, one place after another.
use Rattle.std.proofs.Common.{◌≡◌, ℕ, zero, suc, ◌+◌, ◌≤◌, ◌<◌, Bool, true, false, not, cond, ◌&&◌, List, [], ◌∷◌, ◌++◌, append_assoc, length, length-append, take, drop, get_or, map, Option, Some, None, ℤ, pos, ◌+ℤ◌, set, refl, sym, ap, ◌∙◌, subst, inl, inr, arith}
use Rattle.std.specs.Prelude.{is_none, option_map}
use Rattle.std.specs.List.{list_all, range_with_len}
use Rattle.std.proofs.lemmas.Cmp.{nat_list_cmp_total}
use Rattle.std.proofs.lemmas.List.{append-nil, take_more, drop_more, take_all}
use Rattle.simplex.specs.InOrder.{is_increasing}
use Rattle.simplex.specs.Simplex.{simplex_cmp, without}
use Rattle.simplex.proofs.Decided.{false_from, false_at, not_true}
use Rattle.simplex.proofs.InOrderLaws.{and_left, is_increasing-in_order}
use Rattle.simplex.proofs.Members.{In, first, later, cases, none, all_at, all_from, in_either, in_left, in_right, same_sets, same_in_order}
use Rattle.facet_set.specs.Complex.{is_face, is_maximal_in, simplices, stands_in}
use Rattle.facet_set.specs.Facets.{IsFacets}
use Rattle.facet_set.specs.Numbers.{size, is_pure, f_vector}
use Rattle.facet_set.proofs.ComplexLaws.{exact, in_simplices, from_simplices}
use Rattle.facet_set.proofs.Counting.{count-put, same_count}
use Rattle.face_vectors.specs.Vectors.{h_vector_of}
use Rattle.shellings.specs.declared.shell_fault.ShellFault.{ShellFault}
use Rattle.shellings.specs.declared.shell_fault.ShellFault.TheVariants.{NotPure, Bad}
use Rattle.shellings.specs.Candidates.{IsSetting}
use Rattle.shellings.specs.Shellings.{meets_in_ridges, is_good, bad_after, first_bad, is_shelling, shell_fault, restriction, intervals, intervals_after, count_of_restrictions, counts}
use Rattle.shellings.proofs.RidgeLaws.{most-filter, good_is, stands_from, stands_at, pure_at}
use Rattle.shellings.proofs.IntervalLaws.{all_more, good_facet, good_new}
use Rattle.shellings.proofs.FaceCounts.{counts_lem, map-map}
use Rattle.shellings.proofs.RowLaws.{number_with, number_most, row_of, row_at, row_more}

-- ---- where a place is good
abbrev pub place_of : List (List ℕ) → List (List ℕ) → List ℕ → Option (List ℕ)
place_of c l f = cond (is_good c l f) (Some (restriction l f)) None

abbrev pub by_good : List (List ℕ) → List ℕ → Bool → Option (List ℕ)
by_good l f v = cond v (Some (restriction l f)) None

pub no_facet : (c l : List (List ℕ)) (f : List ℕ) → stands_in c f ≡ false → None ≡ place_of c l f
no_facet c l f h = sym (ap (λ v. by_good l f ((v && not (stands_in l f)) && meets_in_ridges l f)) h)

pub face_so_far : (c l : List (List ℕ)) (f r : List ℕ) → IsSetting c l → stands_in c f ≡ true → r ≡ restriction l f → is_face l r ≡ true → None ≡ place_of c l f
face_so_far c l f r s h e k =
    sym (ap (by_good l f) (good_is c l f s.complex.simplices s.pure s.facets h ∙ ap not (ap (is_face l) (sym e) ∙ k)))

pub new_face : (c l : List (List ℕ)) (f r : List ℕ) → IsSetting c l → stands_in c f ≡ true → r ≡ restriction l f → is_face l r ≡ false → Some r ≡ place_of c l f
new_face c l f r s h e k =
    ap Some e ∙ sym (ap (by_good l f) (good_is c l f s.complex.simplices s.pure s.facets h ∙ ap not (ap (is_face l) (sym e) ∙ k)))

pub placed : (c l : List (List ℕ)) (f r : List ℕ) (o : Option (List ℕ)) → o ≡ place_of c l f → o ≡ Some r → (is_good c l f ≡ true) × (r ≡ restriction l f)
placed c l f r o e k = by (is_good c l f) refl (sym k ∙ e)
  where
    by : (v : Bool) → is_good c l f ≡ v → Some r ≡ by_good l f v → (is_good c l f ≡ true) × (r ≡ restriction l f)
    by true g h = (g, cc)
    by false g h = cc

pub not_placed : (c l : List (List ℕ)) (f : List ℕ) (o : Option (List ℕ)) → o ≡ place_of c l f → o ≡ None → is_good c l f ≡ false
not_placed c l f o e k = by (is_good c l f) refl (sym k ∙ e)
  where
    by : (v : Bool) → is_good c l f ≡ v → None ≡ by_good l f v → is_good c l f ≡ false
    by true g h = cc
    by false g h = g

-- ---- members that stand once
once_more : (l : List (List ℕ)) (f : List ℕ) → stands_in l f ≡ false → length (simplices (l ++ f ∷ [])) ≡ suc (length (simplices l))
once_more l f h =
    ap length (same_in_order nat_list_cmp_total exact (l ++ f ∷ []) (f ∷ l)
    (λ s i. elim (in_either s l (f ∷ []) i) [ inl j ↦ later j | inr j ↦ elim (cases j) [ inl e ↦ subst (λ t. In t (f ∷ l)) (sym e) first | inr n ↦ absurd (none s n) ] ])
    (λ s i. elim (cases i) [ inl e ↦ subst (λ t. In t (l ++ f ∷ [])) (sym e) (in_right f l (f ∷ []) first) | inr j ↦ in_left s l (f ∷ []) j ]))
    ∙ count-put nat_list_cmp_total exact f (simplices l) (λ i. false_at (stands_in l f) h (stands_from l f (from_simplices f l i)))

-- a list of some facets, each once
pub record IsPart (c l : List (List ℕ)) : Type 0 where
  pub setting : IsSetting c l
  pub once : length (simplices l) ≡ length l

pub part_more : (c l : List (List ℕ)) (f : List ℕ) → IsPart c l → is_good c l f ≡ true → IsPart c (l ++ f ∷ [])
part_more c l f p g =
    let more = once_more l f (not_true (stands_in l f) (good_new c l f g)) in
    let long = length-append l (f ∷ []) in
    let one = p.once in
    record {
      setting = record { complex = p.setting.complex; pure = p.setting.pure; facets = all_more (stands_in c) l f p.setting.facets (good_facet c l f g) };
      once = omega (arith, more, long, one);
    }

members : (c l : List (List ℕ)) → IsPart c l → (s : List ℕ) → In s (simplices l) → In s c
members c l p s i = stands_at c s (all_at (stands_in c) s l p.setting.facets (from_simplices s l i))

rising : (c : List (List ℕ)) → IsFacets c → is_increasing simplex_cmp c ≡ true
rising c h = and_left (is_increasing simplex_cmp c) (list_all (is_maximal_in c) c) h.complex

-- where they are as many as the facets, they are all
pub as_many : (c l : List (List ℕ)) → IsPart c l → length l ≡ length c → list_all (stands_in l) c ≡ true
as_many c l p e =
    let same = same_count nat_list_cmp_total exact (simplices l) c (is_increasing-in_order nat_list_cmp_total l) (rising c p.setting.complex) (members c l p) (p.once ∙ e) in
    all_from (stands_in l) c (λ s i. stands_from l s (from_simplices s l (subst (λ m. In s m) (sym same) i)))

pub not_as_many : (c l : List (List ℕ)) → IsPart c l → (length l ≡ length c → ⊥) → list_all (stands_in l) c ≡ false
not_as_many c l p f = false_from (list_all (stands_in l) c) (λ h.
    let same = same_sets nat_list_cmp_total exact (simplices l) c (is_increasing-in_order nat_list_cmp_total l) (rising c p.setting.complex) (members c l p)
    (λ s i. in_simplices s l (stands_at l s (all_at (stands_in l) s c h i))) in
    f (sym p.once ∙ ap length same))

-- ---- intervals
intervals_more : (e xs : List (List ℕ)) (f : List ℕ) → intervals_after e (xs ++ f ∷ []) ≡ intervals_after e xs ++ (restriction (e ++ xs) f, f) ∷ []
intervals_more e [] f = ap (λ l. (restriction l f, f) ∷ []) (sym (append-nil e))
intervals_more e (x ∷ xs) f =
    ap (λ is. (restriction e x, x) ∷ is) (intervals_more (e ++ x ∷ []) xs f)
    ∙ ap (λ l. (restriction e x, x) ∷ (intervals_after (e ++ x ∷ []) xs ++ (restriction l f, f) ∷ [])) (append_assoc e (x ∷ []) xs)

length-intervals : (e xs : List (List ℕ)) → length (intervals_after e xs) ≡ length xs
length-intervals e [] = refl
length-intervals e (x ∷ xs) = ap suc (length-intervals (e ++ x ∷ []) xs)

-- ---- the loop
-- the first i places are good, and the row counts their restrictions
pub record IsChecked (c order : List (List ℕ)) (i : ℕ) (row : List ℤ) : Type 0 where
  pub so_far : first_bad c order ≡ bad_after c (take i order) (drop i order)
  pub part : IsPart c (take i order)
  pub row_is : row ≡ row_of (intervals (take i order)) (size c + 1)

pub none_checked : (c order : List (List ℕ)) (row : List ℤ) → IsFacets c → is_pure c ≡ true → row ≡ row_of [] (size c + 1) → IsChecked c order 0 row
none_checked c order row h k e = record {
  so_far = refl;
  part = record { setting = record { complex = h; pure = k; facets = refl }; once = refl };
  row_is = e;
}

abbrev step_of : List (List ℕ) → List (List ℕ) → List ℕ → List (List ℕ) → Bool → Option ℕ
step_of c l f rest v = cond v (bad_after c (l ++ f ∷ []) rest) (Some (length l + 1))

taken : (order : List (List ℕ)) (i : ℕ) (f : List ℕ) → i < length order → f ≡ get_or order i f → take (i + 1) order ≡ take i order ++ f ∷ []
taken order i f h e = take_more order i f h ∙ ap (λ x. take i order ++ x ∷ []) (sym e)

left_over : (order : List (List ℕ)) (i : ℕ) (f : List ℕ) → i < length order → f ≡ get_or order i f → drop i order ≡ f ∷ drop (i + 1) order
left_over order i f h e = drop_more order i f h ∙ ap (λ x. x ∷ drop (i + 1) order) (sym e)

module _ (c order : List (List ℕ)) (i : ℕ) (f : List ℕ) (row : List ℤ) (h : i < length order) (e : f ≡ get_or order i f) (k : IsChecked c order i row) where
  pub here_bad : is_good c (take i order) f ≡ false → first_bad c order ≡ Some (length (take i order) + 1)
  here_bad g = k.so_far ∙ ap (bad_after c (take i order)) (left_over order i f h e) ∙ ap (step_of c (take i order) f (drop (i + 1) order)) g

  next_so_far : is_good c (take i order) f ≡ true → first_bad c order ≡ bad_after c (take (i + 1) order) (drop (i + 1) order)
  next_so_far g =
      k.so_far ∙ ap (bad_after c (take i order)) (left_over order i f h e) ∙ ap (step_of c (take i order) f (drop (i + 1) order)) g
      ∙ ap (λ l. bad_after c l (drop (i + 1) order)) (sym (taken order i f h e))

  pub next_checked : (more : List ℤ) → is_good c (take i order) f ≡ true
      → more ≡ set row (length (restriction (take i order) f)) (get_or row (length (restriction (take i order) f)) (pos 0) +ℤ pos 1) → length (restriction (take i order) f) < size c + 1
      → IsChecked c order (i + 1) more
  next_checked more g m s = record {
    so_far = next_so_far g;
    part = subst (λ l. IsPart c l) (sym (taken order i f h e)) (part_more c (take i order) f k.part g);
    row_is =
        m ∙ ap (λ r. set r (length R) (get_or r (length R) (pos 0) +ℤ pos 1)) k.row_is
        ∙ row_more (intervals (take i order)) (R, f) (size c + 1) s
        ∙ ap (λ is. row_of is (size c + 1)) (sym (intervals_more [] (take i order) f) ∙ ap intervals (sym (taken order i f h e)));
  }
    where
      R : List ℕ
      R = restriction (take i order) f

  pub short_restriction : is_good c (take i order) f ≡ true → length (restriction (take i order) f) < size c + 1
  short_restriction g =
      let m = most-filter (λ a. is_face (take i order) (without f a)) f in
      let long = pure_at c f k.part.setting.pure (stands_at c f (good_facet c (take i order) f g)) in
      omega (arith, m, long)

  -- the entry that rises is a number of places so far
  pub entry : (n : ℕ) → n < size c + 1 → (get_or row n (pos 0) ≡ pos (number_with (intervals (take i order)) n)) × (number_with (intervals (take i order)) n ≤ length (take i order))
  entry n s =
      let m = number_most (intervals (take i order)) n in
      let long = length-intervals [] (take i order) in
      (ap (λ r. get_or r n (pos 0)) k.row_is ∙ row_at (intervals (take i order)) (size c + 1) n s, omega (arith, m, long))

-- ---- the end
abbrev end_of : List (List ℕ) → Bool → Option ℕ
end_of l v = cond v None (Some (length l + 1))

drop_whole : (i : ℕ) (xs : List (List ℕ)) → length xs ≤ i → drop i xs ≡ []
drop_whole i [] h = by i
  where
    by : (i : ℕ) → drop {A = List ℕ} i [] ≡ []
    by zero = refl
    by (suc i) = refl
drop_whole zero (x ∷ xs) h = absurd (omega arith)
drop_whole (suc i) (x ∷ xs) h = drop_whole i xs (omega arith)

module _ (c order : List (List ℕ)) (i : ℕ) (row : List ℤ) (h : length order ≤ i) (k : IsChecked c order i row) where
  whole : take i order ≡ order
  whole = take_all i order h

  all_part : IsPart c order
  all_part = subst (λ l. IsPart c l) whole k.part

  at_end : first_bad c order ≡ end_of order (list_all (stands_in order) c)
  at_end = k.so_far ∙ ap (λ l. bad_after c l (drop i order)) whole ∙ ap (bad_after c order) (drop_whole i order h)

  pub facet_missing : (length order ≡ length c → ⊥) → first_bad c order ≡ Some (length order + 1)
  facet_missing f = at_end ∙ ap (end_of order) (not_as_many c order all_part f)

  pub none_missing : length order ≡ length c → first_bad c order ≡ None
  none_missing e = at_end ∙ ap (end_of order) (as_many c order all_part e)

  pub row_counts : row ≡ map pos (counts c order)
  row_counts = k.row_is ∙ ap (λ l. row_of (intervals l) (size c + 1)) whole ∙ sym (map-map pos (count_of_restrictions order) (range_with_len 0 (size c + 1)))

  pub row_h : length order ≡ length c → row ≡ h_vector_of (f_vector c)
  row_h e = row_counts ∙ counts_lem c order all_part.setting.complex.simplices all_part.setting.complex.complex shelling
    where
      shelling : is_shelling c order ≡ true
      shelling = ap (λ v. v && is_none (first_bad c order)) all_part.setting.pure ∙ ap is_none (none_missing e)

-- ---- faults
abbrev fault_of : List (List ℕ) → List (List ℕ) → Bool → Option ShellFault
fault_of c l v = cond v (option_map Bad (first_bad c l)) (Some NotPure)

pub not_pure_fault : (c l : List (List ℕ)) → is_pure c ≡ false → shell_fault c l ≡ Some NotPure
not_pure_fault c l h = ap (fault_of c l) h

pub pure_fault : (c l : List (List ℕ)) (o : Option ℕ) → is_pure c ≡ true → first_bad c l ≡ o → shell_fault c l ≡ option_map Bad o
pure_fault c l o h e = ap (fault_of c l) h ∙ ap (option_map Bad) e
