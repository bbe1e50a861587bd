-- Tables with an entry for each face of a list of facets.
use Rattle.std.proofs.Common.{◌≡◌, ℕ, Bool, true, false, not, cond, if◌then◌else◌, ◌&&◌, ◌||◌, List, [], ◌∷◌, ◌++◌, length, Option, Some, None, IsSome, refl, sym, ap, ◌∙◌, subst, inl, inr}
use mathlib.Core.Bool.{true≢false}
use Rattle.std.specs.Bool.{IsTrue}
use Rattle.std.specs.Prelude.{◌==◌}
use Rattle.std.specs.Ordering.{nat_cmp}
use Rattle.std.specs.Cmp.Lexicographic.{texts_ties}
use Rattle.std.specs.FinMap.{nat_cmp-IsAntisymmetric}
use Rattle.std.specs.List.{list_all, filter, flat_map, dedup, dedup_from, IsDistinct, AllByRecursion}
use Rattle.std.specs.List.Sorted.{IsPermutation, IsSorted}
use Rattle.std.proofs.lemmas.Cmp.{nat_cmp_total, nat_list_cmp_total}
use Rattle.std.proofs.lemmas.List.{append-nil}
use Rattle.std.proofs.lemmas.List.Elements.{filter-append}
use Rattle.std.proofs.lemmas.List.Kept.{IsStrictlySortedBy-dedup}
use Rattle.std.proofs.lemmas.List.Sorted.{Contains-permutation, IsPermutation-sym}
use Rattle.std.proofs.lemmas.Map.Keys.{IsDistinct-IsPermutation}
use Rattle.simplex.specs.InOrder.{is_increasing, in_order}
use Rattle.simplex.specs.Simplex.{has, is_simplex, is_within, minus, union, simplex_cmp, subsets}
use Rattle.simplex.proofs.FaultLaws.{increasing_from_sorted}
use Rattle.simplex.proofs.Filled.{rising_of}
use Rattle.simplex.proofs.InOrderLaws.{and_left, and_right, and_both, is_increasing-in_order}
use Rattle.simplex.proofs.Members.{In, first, cases, none, in_filter, from_filter, in_left, in_right, in_either, in_flat_map, from_flat_map, in_contains, contains_in, in_order_in, from_in_order, same_sets}
use Rattle.simplex.proofs.SimplexLaws.{in_union, from_union, is_increasing-filter, is_increasing-union, list_any-append}
use Rattle.simplex.proofs.Decided.{or_right, or_none}
use Rattle.facet_set.specs.Complex.{is_face, faces, facets_with, verts}
use Rattle.facet_set.specs.Numbers.{faces_of_size}
use Rattle.facet_set.proofs.ComplexLaws.{exact, from_faces, in_faces, sets_of}
use Rattle.facet_set.proofs.FaceLaws.{face_simplex}
use Rattle.facet_set.proofs.FaceNumbers.{swapped}
use Rattle.facet_set.proofs.GeneratedLaws.{same}

-- ---- the facets with a face
-- no facet has what is no face
pub none_with : (c : List (List ℕ)) (s : List ℕ) → is_face c s ≡ false → facets_with c s ≡ []
none_with [] s h = refl
none_with (t ∷ c) s h = by (is_within s t) h (none_with c s)
  where
    by : (b : Bool) → (b || is_face c s) ≡ false → (is_face c s ≡ false → facets_with c s ≡ []) → cond b (t ∷ facets_with c s) (facets_with c s) ≡ []
    by true k rest = absurd (true≢false k)
    by false k rest = rest k

with_more : (c : List (List ℕ)) (f s : List ℕ) (b : Bool) → is_within s f ≡ b → facets_with (c ++ f ∷ []) s ≡ facets_with c s ++ cond b (f ∷ []) []
with_more c f s b e = filter-append (is_within s) c (f ∷ []) ∙ ap (λ v. facets_with c s ++ cond v (f ∷ []) []) e

face_more : (c : List (List ℕ)) (f s : List ℕ) → is_face (c ++ f ∷ []) s ≡ (is_face c s || is_within s f)
face_more c f s = list_any-append (is_within s) c (f ∷ []) ∙ ap (λ v. is_face c s || v) (or_none (is_within s f) false refl)

-- ---- the link vertices of a face of the new facet
in_link : (fs : List (List ℕ)) (s : List ℕ) (x : ℕ) → In x (minus (verts fs) s) → ((t : List ℕ) × In t fs × In x t) × (not (has s x) ≡ true)
in_link fs s x i =
    let r = from_filter (λ a. not (has s a)) x (verts fs) i in
    (from_flat_map (λ t. t) x fs (from_in_order nat_cmp_total nat_cmp-IsAntisymmetric x _ r.0), r.1)

link_in : (fs : List (List ℕ)) (s t : List ℕ) (x : ℕ) → In t fs → In x t → not (has s x) ≡ true → In x (minus (verts fs) s)
link_in fs s t x i j n = in_filter (λ a. not (has s a)) x (verts fs) (in_order_in nat_cmp_total nat_cmp-IsAntisymmetric x _ (in_flat_map (λ u. u) t x fs i j)) n

pub link_more : (fs : List (List ℕ)) (f s : List ℕ) → minus (verts (fs ++ f ∷ [])) s ≡ union (minus (verts fs) s) (minus f s)
link_more fs f s =
    same_sets nat_cmp_total nat_cmp-IsAntisymmetric (minus (verts (fs ++ f ∷ [])) s) (union (minus (verts fs) s) (minus f s))
    (is_increasing-filter nat_cmp (λ a. not (has s a)) (verts (fs ++ f ∷ [])) (is_increasing-in_order nat_cmp_total (flat_map (λ t. t) (fs ++ f ∷ []))))
    (is_increasing-union (minus (verts fs) s) (minus f s))
    (λ x i. let r = in_link (fs ++ f ∷ []) s x i in
    in_union (minus (verts fs) s) (minus f s) x (elim (in_either r.0.0 fs (f ∷ []) r.0.1) [
      | inl j ↦ inl (link_in fs s r.0.0 x j r.0.2 r.1)
      | inr j ↦ inr (in_filter (λ a. not (has s a)) x f (elim (cases j) [ inl e ↦ subst (λ t. In x t) e r.0.2 | inr n ↦ absurd (none r.0.0 n) ]) r.1)
    ]))
    (λ x i. elim (from_union (minus (verts fs) s) (minus f s) x i) [
      | inl j ↦ let r = in_link fs s x j in link_in (fs ++ f ∷ []) s r.0.0 x (in_left r.0.0 fs (f ∷ []) r.0.1) r.0.2 r.1
      | inr j ↦ let r = from_filter (λ a. not (has s a)) x f j in link_in (fs ++ f ∷ []) s f x (in_right f fs (f ∷ []) first) r.0 r.1
    ])

-- ---- one facet more
-- where what is kept at a face is told by the facets with it, one after another
module _ {V : Type 0} (of : List (List ℕ) → List ℕ → V) (put : List ℕ → List ℕ → Option V → V)
    (put_first : (f s : List ℕ) → of (f ∷ []) s ≡ put f s None) (put_next : (fs : List (List ℕ)) (f s : List ℕ) → of (fs ++ f ∷ []) s ≡ put f s (Some (of fs s))) where
  abbrev kept_at : List (List ℕ) → List ℕ → Option V
  kept_at c s = if is_simplex s && is_face c s then Some (of (facets_with c s) s) else None

  put_is : (c : List (List ℕ)) (f s : List ℕ) → of (facets_with c s ++ f ∷ []) s ≡ put f s (cond (is_face c s) (Some (of (facets_with c s) s)) None)
  put_is c f s = by (is_face c s) refl
    where
      by : (b : Bool) → is_face c s ≡ b → of (facets_with c s ++ f ∷ []) s ≡ put f s (cond b (Some (of (facets_with c s) s)) None)
      by true e = put_next (facets_with c s) f s
      by false e = ap (λ fs. of (fs ++ f ∷ []) s) (none_with c s e) ∙ put_first f s

  pub kept_more : (c : List (List ℕ)) (f s : List ℕ) → kept_at (c ++ f ∷ []) s ≡ cond (is_simplex s && is_within s f) (Some (put f s (kept_at c s))) (kept_at c s)
  kept_more c f s = by (is_simplex s) (is_within s f) refl
    where
      there : List (List ℕ) → Option V
      there fs = Some (of fs s)

      by : (v w : Bool) → is_within s f ≡ w → cond (v && is_face (c ++ f ∷ []) s) (there (facets_with (c ++ f ∷ []) s)) None ≡ cond (v && w) (Some (put f s (cond (v && is_face c s) (there (facets_with c s)) None))) (cond (v && is_face c s) (there (facets_with c s)) None)
      by false w e = refl
      by true true e =
          ap (λ b. cond b (there (facets_with (c ++ f ∷ []) s)) None) (face_more c f s ∙ or_right (is_face c s) (is_within s f) e)
          ∙ ap there (with_more c f s true e) ∙ ap Some (put_is c f s)
      by true false e =
          ap (λ b. cond b (there (facets_with (c ++ f ∷ []) s)) None) (face_more c f s ∙ or_none (is_face c s) (is_within s f) e)
          ∙ ap (λ fs. cond (is_face c s) (there fs) None) (with_more c f s false e ∙ append-nil (facets_with c s))

-- ---- distinct simplices
none_kept : (p : List ℕ → Bool) (x : List ℕ) (xs : List (List ℕ)) → AllByRecursion (λ y. same x y ≡ false) xs → AllByRecursion (λ y. same x y ≡ false) (filter p xs)
none_kept p x [] h = tt
none_kept p x (y ∷ xs) h = by (p y) (none_kept p x xs h.1)
  where
    by : (b : Bool) → AllByRecursion (λ y. same x y ≡ false) (filter p xs) → AllByRecursion (λ y. same x y ≡ false) (cond b (y ∷ filter p xs) (filter p xs))
    by true rest = (h.0, rest)
    by false rest = rest

pub distinct-filter : (p : List ℕ → Bool) (xs : List (List ℕ)) → IsDistinct same xs → IsDistinct same (filter p xs)
unfolding IsDistinct
distinct-filter p [] h = tt
distinct-filter p (x ∷ xs) h = by (p x) (distinct-filter p xs h.1)
  where
    by : (b : Bool) → IsDistinct same (filter p xs) → IsDistinct same (cond b (x ∷ filter p xs) (filter p xs))
    by true rest = (none_kept p x xs h.0, rest)
    by false rest = rest

dedup-distinct : (xs : List (List ℕ)) → IsDistinct same xs → dedup same xs ≡ xs
unfolding IsDistinct
dedup-distinct [] h = refl
dedup-distinct (x ∷ []) h = refl
dedup-distinct (x ∷ y ∷ xs) h =
    ap (λ b. cond b (dedup_from same x xs) (x ∷ dedup_from same y xs)) (swapped y x ∙ h.0.0)
    ∙ ap (λ ys. x ∷ ys) (dedup-distinct (y ∷ xs) h.1)

-- distinct simplices, sorted, are their set
pub sorted_is : (xs ys : List (List ℕ)) → IsDistinct same xs → IsPermutation xs ys → IsSorted simplex_cmp ys → ys ≡ in_order simplex_cmp xs
sorted_is xs ys d p s =
    let e = IsDistinct-IsPermutation same swapped xs ys p d in
    let up : is_increasing simplex_cmp ys ≡ true = subst (λ zs. is_increasing simplex_cmp zs ≡ true) (dedup-distinct ys e) (increasing_from_sorted simplex_cmp (dedup same ys) (IsStrictlySortedBy-dedup nat_list_cmp_total texts_ties ys s)) in
    same_sets nat_list_cmp_total exact ys (in_order simplex_cmp xs) up (is_increasing-in_order nat_list_cmp_total xs)
    (λ q i. in_order_in nat_list_cmp_total exact q xs (contains_in xs q (Contains-permutation ys xs q (IsPermutation-sym xs ys p) (in_contains ys q i))))
    (λ q i. contains_in ys q (Contains-permutation xs ys q p (in_contains xs q (from_in_order nat_list_cmp_total exact q xs i))))

-- ---- the keys
-- where something is kept at the faces alone, the keys with n labels are the faces with n labels
pub faces_of_keys : {V : Type 0} (c ks : List (List ℕ)) (kept : List ℕ → Option V) (at : List ℕ → V) (n : ℕ) → IsTrue (list_all is_simplex c)
    → ((s : List ℕ) → (length s == n) ≡ true → kept s ≡ cond (is_simplex s && is_face c s) (Some (at s)) None)
    → ((s : List ℕ) → In s ks → IsSome (kept s)) → ((s : List ℕ) → IsSome (kept s) → In s ks)
    → in_order simplex_cmp (filter (λ s. length s == n) ks) ≡ faces_of_size c n
faces_of_keys c ks kept at n simplices are has_kept is_key =
    same_sets nat_list_cmp_total exact (in_order simplex_cmp (filter (λ s. length s == n) ks)) (faces_of_size c n)
    (is_increasing-in_order nat_list_cmp_total (filter (λ s. length s == n) ks))
    (is_increasing-filter simplex_cmp (λ s. length s == n) (faces c) (is_increasing-in_order nat_list_cmp_total (flat_map subsets c)))
    (λ s i. let r = from_filter (λ s. length s == n) s ks (from_in_order nat_list_cmp_total exact s _ i) in
    let f = is_there (is_simplex s && is_face c s) (at s) (subst (λ k. IsSome k) (are s r.1) (has_kept s r.0)) in
    in_filter (λ s. length s == n) s (faces c) (in_faces c s (sets_of c simplices) (rising_of s (and_left (is_simplex s) _ f)) (and_right (is_simplex s) _ f)) r.1)
    (λ s i. let r = from_filter (λ s. length s == n) s (faces c) i in
    let f = from_faces c s (sets_of c simplices) r.0 in
    let there : IsSome (kept s) = subst (λ k. IsSome k) (sym (are s r.1 ∙ ap (λ b. cond b (Some (at s)) None) (and_both _ _ (face_simplex c s simplices f.0 f.1) f.1))) refl in
    in_order_in nat_list_cmp_total exact s _ (in_filter (λ s. length s == n) s ks (is_key s there) r.1))
  where
    is_there : {V : Type 0} (b : Bool) (v : V) → IsSome (cond b (Some v) None) → b ≡ true
    is_there true v h = refl
    is_there false v h = absurd (true≢false (sym h))
