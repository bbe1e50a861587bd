-- What a bijection that carries one complex to another does to labels and facets.
use Rattle.std.proofs.Common.{◌≡◌, ℕ, zero, suc, ◌+◌, ◌<◌, Bool, true, false, not, cond, ◌&&◌, ◌||◌, List, [], ◌∷◌, ◌++◌, map, length, take, get_or, add-one, refl, sym, ap, ◌∙◌, subst, inl, inr, arith}
use Rattle.std.specs.Bool.{IsTrue}
use Rattle.std.specs.Prelude.{◌==◌, nat_eq}
use Rattle.std.specs.Ordering.{nat_cmp}
use Rattle.std.proofs.lemmas.Slice.Zip.{firsts-zip, seconds-zip}
use Rattle.std.specs.Cmp.Lexicographic.{pointwise}
use Rattle.std.specs.List.{list_all, flat_map, zip}
use Rattle.std.proofs.lemmas.Cmp.{nat_cmp_total, nat_list_cmp_total, lists_total}
use Rattle.simplex.specs.InOrder.{is_increasing}
use Rattle.simplex.specs.Simplex.{has, is_label, is_simplex}
use Rattle.simplex.specs.SimplexFault.{set}
use Rattle.simplex.proofs.InOrderLaws.{and_left, and_right, and_both, is_increasing-in_order, itself}
use Rattle.simplex.proofs.Members.{In, cases, at_head, none, is_member_from, in_either, all_at, all_from}
use Rattle.simplex.proofs.SimplexLaws.{above_at, rest_increasing, has_from}
use Rattle.simplex.proofs.Decided.{false_from, false_at, not_true, agree, equal_at, equal_from}
use Rattle.facet_set.specs.Complex.{is_complex, verts, stands_in}
use Rattle.facet_set.specs.Flips.{same_facets}
use Rattle.facet_set.specs.Maps.{image, image_of, is_distinct, is_map, relabelled}
use Rattle.facet_set.proofs.ComplexLaws.{exact, sets_of}
use Rattle.facet_set.proofs.FlipLaws.{same_list}
use Rattle.facet_set.proofs.FacetLaws.{lists_at, lists_itself}
use Rattle.facet_set.proofs.GeneratedLaws.{same_at, same_is}
use Rattle.facet_set.proofs.OptionLaws.{in_verts}
use Rattle.facet_set.proofs.MapLaws.{firsts, seconds, Renames, in_image, seconds_labels}
use Rattle.facet_set.proofs.SetLaws.{in_place, in_item, distinct_more, distinct_head, distinct_rest}
use Rattle.relabelling.specs.Bijections.{is_map_to}
use Rattle.relabelling.specs.Search.{makes_map}

-- the image of the label at a place is that at the place
pub image_at : (vs is t : List ℕ) (a i : ℕ) → is_increasing nat_cmp vs ≡ true → i < length vs → get_or vs i 0 ≡ a → i < length is → image_of (zip vs (is ++ t)) a ≡ get_or is i 0
image_at [] is t a i up h e k = absurd (omega arith)
image_at (v ∷ vs) [] t a i up h e k = absurd (omega arith)
image_at (v ∷ vs) (x ∷ is) t a zero up h e k = ap (λ w. cond w x (image_of (zip vs (is ++ t)) a)) (equal_from v a e)
image_at (v ∷ vs) (x ∷ is) t a (suc i) up h e k =
    let less : v < get_or vs i 0 = above_at v vs (get_or vs i 0) up (in_place vs i 0 (omega arith)) in
    ap (λ w. cond w x (image_of (zip vs (is ++ t)) a)) (false_from (v == a) (λ q. let same = equal_at v a q in omega arith)) ∙ image_at vs is t a i (rest_increasing v vs up) (omega arith) e (omega arith)

-- a map of a complex takes its labels apart
pub map_renames : (m : List (ℕ × ℕ)) (c : List (List ℕ)) → list_all is_simplex c ≡ true → is_map m c ≡ true → Renames m c
map_renames m c h k = record {
  sets = sets_of c h;
  known = λ s i a j. subst (λ l. In a l) (sym (same_at (firsts m) (verts c) (and_left _ _ k))) (in_verts c s a i j);
  apart = and_right (pointwise nat_eq (firsts m) (verts c)) _ k;
}

-- each facet is carried to a facet
pub facet_carried : (c d : List (List ℕ)) (m : List (ℕ × ℕ)) (s : List ℕ) → list_all is_simplex c ≡ true → is_complex c ≡ true → is_map_to c d m ≡ true → In s c → In (relabelled m s) d
facet_carried c d m s h k g i = subst (λ l. In (relabelled m s) l) (same_list (image m c) d (and_right (is_map m c) _ g)) (in_image m c s (map_renames m c h (and_left _ _ g)) k i)

pub stray : (c d : List (List ℕ)) (m : List (ℕ × ℕ)) (s u : List ℕ) → list_all is_simplex c ≡ true → is_complex c ≡ true → In s c → u ≡ relabelled m s → stands_in d u ≡ false → is_map_to c d m ≡ false
stray c d m s u h k i e n = false_from (is_map_to c d m) (λ g. false_at (stands_in d u) n (is_member_from nat_list_cmp_total exact u d (subst (λ w. In w d) (sym e) (facet_carried c d m s h k g i))))

-- one more image that is not taken
pub distinct_end : (is : List ℕ) (a : ℕ) → is_distinct is ≡ true → has is a ≡ false → is_distinct (is ++ a ∷ []) ≡ true
distinct_end [] a h n = refl
distinct_end (x ∷ is) a h n =
    distinct_more x (is ++ a ∷ [])
    (λ i. elim (in_either x is (a ∷ []) i) [ inl j ↦ distinct_head x is h j | inr j ↦ elim (cases j) [ inl e ↦ false_at (has (x ∷ is) a) n (has_from (x ∷ is) a (at_head a x is (sym e))) | inr l ↦ none x l ] ])
    (distinct_end is a (distinct_rest x is h) (false_from (has is a) (λ e. false_at (has (x ∷ is) a) n (or_right (a == x) (has is a) e))))
  where
    or_right : (v w : Bool) → w ≡ true → (v || w) ≡ true
    or_right true w h = refl
    or_right false w h = h

-- ---- what the code looks up
pub verts_up : (vs : List ℕ) (c : List (List ℕ)) → vs ≡ verts c → is_increasing nat_cmp vs ≡ true
verts_up vs c e = ap (is_increasing nat_cmp) e ∙ is_increasing-in_order nat_cmp_total (flat_map (λ s. s) c)

pub stray_at : (c d items : List (List ℕ)) (vs is s u : List ℕ) (i : ℕ) (r : Bool) → vs ≡ verts c → items ≡ c → list_all is_simplex c ≡ true → is_complex c ≡ true
    → i < length items → s ≡ get_or items i s → ((t : List ℕ) → u ≡ set (map (image_of (zip vs (is ++ t))) s)) → r ≡ stands_in d u → not r ≡ true → (t : List ℕ) → makes_map c d (is ++ t) ≡ false
stray_at c d items vs is s u i r e same h k l m f g n t =
    stray c d (zip (verts c) (is ++ t)) s u h k (subst (λ z. In s z) same (in_item items i s l m)) (f t ∙ ap (λ z. set (map (image_of (zip z (is ++ t))) s)) e) (sym g ∙ not_true r n)

-- ---- the pairs
zip_both : (xs ys : List ℕ) (i : ℕ) → i < length xs → i < length ys → zip (take i xs) (take i ys) ++ (get_or xs i 0, get_or ys i 0) ∷ [] ≡ zip (take (suc i) xs) (take (suc i) ys)
zip_both [] ys i h k = absurd (omega arith)
zip_both (x ∷ xs) [] i h k = absurd (omega arith)
zip_both (x ∷ xs) (y ∷ ys) zero h k = refl
zip_both (x ∷ xs) (y ∷ ys) (suc i) h k = ap (λ l. (x, y) ∷ l) (zip_both xs ys i (omega arith) (omega arith))

pub zip_next : (xs ys : List ℕ) (ps next : List (ℕ × ℕ)) (i : ℕ) → i < length xs → length ys ≡ length xs → ps ≡ zip (take i xs) (take i ys) → next ≡ ps ++ (get_or xs i 0, get_or ys i 0) ∷ []
    → next ≡ zip (take (i + 1) xs) (take (i + 1) ys)
zip_next xs ys ps next i h e g n =
    n ∙ ap (λ l. l ++ (get_or xs i 0, get_or ys i 0) ∷ []) g ∙ zip_both xs ys i h (omega arith) ∙ ap (λ j. zip (take j xs) (take j ys)) (sym (add-one i))

pub pairs_labels : (vs is : List ℕ) (ps : List (ℕ × ℕ)) → ps ≡ zip vs is → length is ≡ length vs → list_all is_label is ≡ true → list_all (λ (p : ℕ × ℕ). is_label p.1) ps ≡ true
pairs_labels vs is ps e n h = seconds_labels ps (ap (λ m. list_all is_label (seconds m)) e ∙ ap (list_all is_label) (seconds-zip vs is n) ∙ h)

pub same_lists : (c d : List (List ℕ)) → pointwise (pointwise nat_eq) c d ≡ same_facets c d
same_lists c d =
    agree _ _ (λ h. ap (λ x. same_facets x d) (lists_at c d h) ∙ itself (lists_total nat_list_cmp_total) d) (λ h. ap (λ x. pointwise (pointwise nat_eq) x d) (same_list c d h) ∙ lists_itself d)

pub zip_is_map : (c : List (List ℕ)) (is : List ℕ) → length is ≡ length (verts c) → is_distinct is ≡ true → is_map (zip (verts c) is) c ≡ true
zip_is_map c is n h =
    and_both _ _ (ap (λ l. pointwise nat_eq l (verts c)) (firsts-zip (verts c) is n) ∙ same_is (verts c) (verts c) ∙ itself nat_list_cmp_total (verts c))
    (ap is_distinct (seconds-zip (verts c) is n) ∙ h)

pub whole_is : (c d got : List (List ℕ)) (vs is : List ℕ) (ps : List (ℕ × ℕ)) → vs ≡ verts c → length is ≡ length vs → is_distinct is ≡ true → ps ≡ zip vs is → got ≡ image ps c
    → pointwise (pointwise nat_eq) got d ≡ makes_map c d is
whole_is c d got vs is ps e n h p g =
    same_lists got d ∙ ap (λ x. same_facets x d) (g ∙ ap (λ m. image m c) (p ∙ ap (λ l. zip l is) e))
    ∙ sym (ap (λ v. v && same_facets (image (zip (verts c) is) c) d) (zip_is_map c is (n ∙ ap length e) h))

pub labels_end : (is next : List ℕ) (a : ℕ) → next ≡ is ++ a ∷ [] → list_all is_label is ≡ true → IsTrue (is_label a) → IsTrue (list_all is_label next)
labels_end is next a e h k = ap (list_all is_label) e ∙ all_from is_label (is ++ a ∷ []) (λ b i. elim (in_either b is (a ∷ []) i) [ inl j ↦ all_at is_label b is h j | inr j ↦ elim (cases j) [ inl q ↦ ap is_label q ∙ k | inr l ↦ absurd (none b l) ] ])
