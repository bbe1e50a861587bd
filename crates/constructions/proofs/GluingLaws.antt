-- Sums and handles.
use Rattle.std.proofs.Common.{◌≡◌, ℕ, ◌+◌, ◌≤◌, Bool, true, false, not, None, List, [], ◌∷◌, ◌++◌, map, length, refl, sym, ap, ◌∙◌, subst, inl, inr, arith}
use Rattle.std.specs.Prelude.{◌==◌, nat_le}
use Rattle.std.specs.List.{list_all, range_with_len, zip}
use Rattle.std.proofs.lemmas.Bool.{leb-true}
use Rattle.std.proofs.lemmas.Cmp.{nat_list_cmp_total}
use Rattle.std.proofs.lemmas.List.{map-append}
use Rattle.std.proofs.lemmas.List.Folds.{list_all-append}
use Rattle.std.proofs.lemmas.Slice.Zip.{firsts-zip, seconds-zip}
use Rattle.simplex.specs.FirstFailing.{first_failing}
use Rattle.simplex.specs.Simplex.{has, is_label, minus, label_limit}
use Rattle.simplex.specs.SimplexFault.{set, simplex_fault}
use Rattle.simplex.proofs.FaultLaws.{faultless_simplex}
use Rattle.simplex.proofs.Filled.{labels_of}
use Rattle.simplex.proofs.InOrderLaws.{and_left, and_right, and_both}
use Rattle.simplex.proofs.Members.{In, all_at, all_from, in_filter, from_filter, from_map, in_left, in_right, in_either, is_member_at, same_in_order}
use Rattle.simplex.proofs.SimplexLaws.{has_at}
use Rattle.simplex.proofs.Ranges.{from_range, range_rising}
use Rattle.simplex.proofs.Decided.{equal_at}
use Rattle.facet_set.specs.Complex.{simplices, generated, verts, stands_in}
use Rattle.facet_set.specs.Maps.{image, image_of, is_distinct, relabelled}
use Rattle.facet_set.specs.Numbers.{size, is_pure, greatest}
use Rattle.facet_set.proofs.ComplexLaws.{exact, is_set, in_simplices, from_simplices}
use Rattle.facet_set.proofs.FlipLaws.{pure_at}
use Rattle.facet_set.proofs.OptionLaws.{in_verts}
use Rattle.facet_set.proofs.MapLaws.{firsts, seconds, Renames, length_relabelled, one_length}
use Rattle.facet_set.proofs.SetLaws.{in_set, set_up, length_distinct, distinct_both, increasing_distinct, faultless_distinct}
use Rattle.constructions.specs.Gluing.{all_but, glued, sum_of, sum_tests}
use Rattle.constructions.specs.Relabelling.{renumbering}
use Rattle.constructions.specs.declared.make_fault.MakeFault.TheVariants.{NotPure, DimDiffers, NotFacet, LabelRange}
use Rattle.constructions.proofs.JoinLaws.{passed, above_greatest}
use Rattle.constructions.proofs.NumberLaws.{firsts_renumbering, seconds_renumbering, renumbering_labels}

pub fault_labels : (f : List ℕ) → simplex_fault f ≡ None → list_all is_label f ≡ true
fault_labels f h = all_from is_label f (λ a i. all_at is_label a (set f) (labels_of (set f) (faultless_simplex f h)) (in_set a f i))

zip_labels : (g f : List ℕ) → list_all is_label f ≡ true → list_all (λ (p : ℕ × ℕ). is_label p.1) (zip g f) ≡ true
zip_labels [] f h = refl
zip_labels (a ∷ g) [] h = refl
zip_labels (a ∷ g) (b ∷ f) h = and_both _ _ (and_left _ _ h) (zip_labels g f (and_right (is_label b) _ h))

pub partner_labels : (g f : List ℕ) → simplex_fault f ≡ None → list_all (λ (p : ℕ × ℕ). is_label p.1) (zip g f) ≡ true
partner_labels g f h = zip_labels g f (fault_labels f h)

-- ---- what the conditions of a sum say
pub record IsSummable (x : List (List ℕ)) (f : List ℕ) (y : List (List ℕ)) (g : List ℕ) : Type 0 where
  pub pure_x : is_pure x ≡ true
  pub pure_y : is_pure y ≡ true
  pub sizes : size x ≡ size y
  pub facet_f : In (set f) x
  pub facet_g : In (set g) y
  pub labels : greatest x + length (minus (verts y) g) ≤ label_limit

pub summable : (x : List (List ℕ)) (f : List ℕ) (y : List (List ℕ)) (g : List ℕ) → first_failing (sum_tests x f y g) ≡ None → IsSummable x f y g
summable x f y g h =
    let a = passed (is_pure x) NotPure _ h in
    let b = passed (is_pure y) NotPure _ a.1 in
    let d = passed (size x == size y) DimDiffers _ b.1 in
    let e = passed (stands_in x (set f)) NotFacet _ d.1 in
    let i = passed (stands_in y (set g)) NotFacet _ e.1 in
    let j = passed (nat_le (greatest x + length (minus (verts y) g)) label_limit) LabelRange None i.1 in
    record {
      pure_x = a.0;
      pure_y = b.0;
      sizes = equal_at (size x) (size y) d.0;
      facet_f = is_member_at nat_list_cmp_total exact (set f) x e.0;
      facet_g = is_member_at nat_list_cmp_total exact (set g) y i.0;
      labels = leb-true (greatest x + length (minus (verts y) g)) label_limit j.0;
    }

module _ (x : List (List ℕ)) (f : List ℕ) (y : List (List ℕ)) (g : List ℕ) (h : IsSummable x f y g) (clean_f : simplex_fault f ≡ None) (clean_g : simplex_fault g ≡ None) where
  pub glued_labels : list_all (λ (p : ℕ × ℕ). is_label p.1) (glued x f y g) ≡ true
  glued_labels =
      list_all-append (λ (p : ℕ × ℕ). is_label p.1) (zip g f) (renumbering (greatest x) (minus (verts y) g)) ∙ and_both _ _ (partner_labels g f clean_f) (renumbering_labels (greatest x) (minus (verts y) g) h.labels)

  as_many : length f ≡ length g
  as_many =
      let a = length_distinct f (faultless_distinct f clean_f) in
      let b = length_distinct g (faultless_distinct g clean_g) in
      let c = pure_at x (set f) h.pure_x h.facet_f in
      let d = pure_at y (set g) h.pure_y h.facet_g in
      omega (arith, h.sizes)

  glued_firsts : firsts (glued x f y g) ≡ g ++ minus (verts y) g
  glued_firsts =
      map-append (λ (p : ℕ × ℕ). p.0) (zip g f) (renumbering (greatest x) (minus (verts y) g)) ∙ (λ i. firsts-zip g f as_many i ++ firsts_renumbering (greatest x) (minus (verts y) g) i)

  glued_seconds : seconds (glued x f y g) ≡ f ++ range_with_len (greatest x + 1) (length (minus (verts y) g))
  glued_seconds =
      map-append (λ (p : ℕ × ℕ). p.1) (zip g f) (renumbering (greatest x) (minus (verts y) g)) ∙ (λ i. seconds-zip g f as_many i ++ seconds_renumbering (greatest x) (minus (verts y) g) i)

  pub glues : list_all is_set y ≡ true → Renames (glued x f y g) y
  glues sets = record {
    sets = sets;
    known = λ s i a j. subst (λ l. In a l) (sym glued_firsts) (by a (has g a) refl (in_verts y s a i j));
    apart =
        ap is_distinct glued_seconds
        ∙ distinct_both f (range_with_len (greatest x + 1) (length (minus (verts y) g))) (faultless_distinct f clean_f) (increasing_distinct (range_with_len (greatest x + 1) (length (minus (verts y) g))) (range_rising (greatest x + 1) (length (minus (verts y) g))))
        (λ a i j. let low = above_greatest x (set f) a h.facet_f (in_set a f i) in let high = from_range (greatest x + 1) (length (minus (verts y) g)) a j in absurd (omega (arith, high.0)));
  }
    where
      by : (a : ℕ) (v : Bool) → has g a ≡ v → In a (verts y) → In a (g ++ minus (verts y) g)
      by a true e i = in_left a g (minus (verts y) g) (has_at g a e)
      by a false e i = in_right a g (minus (verts y) g) (in_filter (λ b. not (has g b)) a (verts y) i (ap not e))

  -- the facets that stay, and those of y with their new labels
  pub generated_sum : list_all is_set x ≡ true → list_all is_set y ≡ true → generated (all_but (set f) x ++ map (relabelled (glued x f y g)) (all_but (set g) y)) ≡ sum_of x f y g
  generated_sum sx sy =
      one_length (A ++ M) (size x) (ap (λ v. v) (list_all-append is_set A M) ∙ and_both _ _ (all_from is_set A (λ s i. all_at is_set s x sx (from_filter _ s x i).0)) sets_m)
      (λ s i. elim (in_either s A M i) [ inl j ↦ pure_at x s h.pure_x (from_filter _ s x j).0 | inr j ↦ long_m s j ])
      ∙ same_in_order nat_list_cmp_total exact (A ++ M) (A ++ image (glued x f y g) B)
      (λ s i. elim (in_either s A M i) [ inl j ↦ in_left s A _ j | inr j ↦ in_right s A _ (subst (λ l. In s l) (sym whole) (in_simplices s M j)) ])
      (λ s i. elim (in_either s A (image (glued x f y g) B) i) [ inl j ↦ in_left s A M j | inr j ↦ in_right s A M (from_simplices s M (subst (λ l. In s l) whole j)) ])
    where
      A : List (List ℕ)
      A = all_but (set f) x

      B : List (List ℕ)
      B = all_but (set g) y

      M : List (List ℕ)
      M = map (relabelled (glued x f y g)) B

      sets_m : list_all is_set M ≡ true
      sets_m = all_from is_set M (λ s i. let r = from_map (relabelled (glued x f y g)) s B i in ap is_set r.2 ∙ set_up (map (image_of (glued x f y g)) r.0))

      long_m : (s : List ℕ) → In s M → length s ≡ size x
      long_m s i =
          let r = from_map (relabelled (glued x f y g)) s B i in
          let j = (from_filter _ r.0 y r.1).0 in
          ap length r.2 ∙ length_relabelled (glued x f y g) y r.0 (glues sy) j ∙ pure_at y r.0 h.pure_y j ∙ sym h.sizes

      whole : image (glued x f y g) B ≡ simplices M
      whole = one_length M (size x) sets_m long_m
