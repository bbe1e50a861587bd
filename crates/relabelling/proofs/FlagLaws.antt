-- Orders of a facet's labels that the labels of another facet may go to.
use Rattle.std.proofs.Common.{◌≡◌, ℕ, zero, suc, ◌+◌, ◌<◌, true, false, not, ◌||◌, List, [], ◌∷◌, ◌++◌, map, length, length-append, length-take, take, get_or, refl, sym, ap, ◌∙◌, subst, inl, inr, arith}
use Rattle.std.specs.Prelude.{◌==◌}
use Rattle.std.specs.Bool.{IsTrue}
use Rattle.std.specs.List.{list_all, filter, flat_map}
use Rattle.std.proofs.lemmas.List.{take_more, get_or-map}
use Rattle.simplex.specs.Simplex.{has, is_label, is_simplex}
use Rattle.simplex.proofs.InOrderLaws.{and_left, and_both}
use Rattle.simplex.proofs.Members.{In, first, cases, none, all_at, in_map, from_map, in_filter, from_filter, in_flat_map, from_flat_map}
use Rattle.simplex.proofs.Decided.{false_from, equal_at, equal_from}
use Rattle.facet_set.specs.Maps.{image_of, is_distinct, relabelled}
use Rattle.facet_set.proofs.ComplexLaws.{is_set}
use Rattle.facet_set.proofs.OptionLaws.{in_verts}
use Rattle.facet_set.proofs.MapLaws.{Renames, distinct_images}
use Rattle.facet_set.proofs.SetLaws.{in_place, in_set, distinct_head, distinct_rest, length_images}
use Rattle.relabelling.specs.Bijections.{is_map_to}
use Rattle.relabelling.specs.Colours.{KeepsColours}
use Rattle.relabelling.specs.Flags.{AreOrders, Fits, longer, may_follow}
use Rattle.relabelling.proofs.CarryLaws.{labels_end, map_renames}

-- ---- one label after another
not_before : (xs : List ℕ) (k : ℕ) → is_distinct xs ≡ true → k < length xs → has (take k xs) (get_or xs k 0) ≡ false
not_before [] k h l = absurd (omega arith)
not_before (x ∷ xs) zero h l = refl
not_before (x ∷ xs) (suc k) h l =
    let other : (get_or xs k 0 == x) ≡ false = false_from (get_or xs k 0 == x) (λ e. distinct_head x xs h (subst (λ z. In z xs) (equal_at (get_or xs k 0) x e) (in_place xs k 0 (omega arith)))) in
    ap (λ v. v || has (take k xs) (get_or xs k 0)) other ∙ not_before xs k (distinct_rest x xs h) (omega arith)

module _ (f g : ℕ → ℕ) (start facet : List ℕ) where
  pub longer_orders : (n : ℕ) (orders next : List (List ℕ)) → AreOrders n orders → list_all is_label facet ≡ true → next ≡ flat_map (longer f g start facet) orders → AreOrders (n + 1) next
  longer_orders n orders next h labels e o i =
      let p = from_flat_map (longer f g start facet) o orders (subst (λ l. In o l) e i) in
      let q = from_map (λ a. p.0 ++ a ∷ []) o (filter (may_follow f g start p.0) facet) p.2 in
      let a = (from_filter (may_follow f g start p.0) q.0 facet q.1).0 in
      let was = h p.0 p.1 in
      let long : length o ≡ n + 1 = let same = ap length q.2 in let whole = length-append p.0 (q.0 ∷ []) in let n = was.0 in omega arith in
      (long, labels_end p.0 o q.0 q.2 was.1 (all_at is_label q.0 facet labels a))

  pub follows : (order : List ℕ) (orders next : List (List ℕ)) (k : ℕ) → Fits f g start facet order → k < length order → In (take k order) orders → next ≡ flat_map (longer f g start facet) orders → In (take (k + 1) order) next
  follows order orders next k h l i e =
      subst (λ z. In (take (k + 1) order) z) (sym e)
      (subst (λ z. In z (flat_map (longer f g start facet) orders)) (sym (take_more order k 0 l))
      (in_flat_map (longer f g start facet) (take k order) (take k order ++ get_or order k 0 ∷ []) orders i
      (in_map (λ a. take k order ++ a ∷ []) (get_or order k 0) (filter (may_follow f g start (take k order)) facet)
      (in_filter (may_follow f g start (take k order)) (get_or order k 0) facet (h.within (get_or order k 0) (in_place order k 0 l)) may))))
    where
      size : length (take k order) ≡ k
      size = let n = length-take k order in omega arith

      may : may_follow f g start (take k order) (get_or order k 0) ≡ true
      may = and_both _ _ (ap not (not_before order k h.distinct l))
          (ap (λ n. f (get_or start n 0) == g (get_or order k 0)) size ∙ equal_from (f (get_or start k 0)) (g (get_or order k 0)) (h.coloured k l))

-- ---- a bijection gives such an order
pub carried_fits : (f g : ℕ → ℕ) (c : List (List ℕ)) (m : List (ℕ × ℕ)) (s t : List ℕ) → Renames m c → In s c → KeepsColours c f g m → relabelled m s ≡ t → Fits f g s t (map (image_of m) s)
carried_fits f g c m s t r i keeps e = record {
  long = length_images (image_of m) s;
  distinct = distinct_images m s r.apart (r.known s i) (all_at is_set s c r.sets i);
  within = λ a j. subst (λ l. In a l) e (in_set a (map (image_of m) s) j);
  coloured = λ k l.
      let less : k < length s = let n = length_images (image_of m) s in omega arith in
      keeps (get_or s k 0) (in_verts c s (get_or s k 0) i (in_place s k 0 less)) ∙ ap g (sym (get_or-map (image_of m) s k 0 0 less));
}

-- ---- the first label
pub begun_orders : (items : List (List ℕ)) (o : List ℕ) (a : ℕ) → items ≡ o ∷ [] → o ≡ a ∷ [] → IsTrue (is_label a) → AreOrders 1 items
begun_orders items o a e f h p i = elim (cases (subst (λ l. In p l) e i)) [
  | inl g ↦ (ap length (g ∙ f), ap (list_all is_label) (g ∙ f) ∙ and_both _ _ h refl)
  | inr j ↦ absurd (none p j)
]

pub begun_all : (items : List (List ℕ)) (o g : List ℕ) (a : ℕ) → items ≡ o ∷ [] → o ≡ a ∷ [] → 0 < length g → get_or g 0 0 ≡ a → In (take 1 g) items
begun_all items o [] a e f h k = absurd (omega arith)
begun_all items o (x ∷ g) a e f h k = subst (λ l. In (x ∷ []) l) (sym e) (subst (λ z. In (x ∷ []) (z ∷ [])) (sym f) (subst (λ z. In (x ∷ []) ((z ∷ []) ∷ [])) k first))

-- ---- what a bijection gives is found
pub order_found : (f g : ℕ → ℕ) (c d : List (List ℕ)) (m : List (ℕ × ℕ)) (s t : List ℕ) (a : ℕ) (orders : List (List ℕ)) → list_all is_simplex c ≡ true → In s c → 0 < length s → KeepsColours c f g m → is_map_to c d m ≡ true
    → ((o : List ℕ) → Fits f g s t o → get_or o 0 0 ≡ a → In o orders) → (image_of m (get_or s 0 0) ≡ a) × (relabelled m s ≡ t) → In (map (image_of m) s) orders
order_found f g c d m s t a orders h i some keeps k all p =
    all (map (image_of m) s) (carried_fits f g c m s t (map_renames m c h (and_left _ _ k)) i keeps p.1) (get_or-map (image_of m) s 0 0 0 some ∙ p.0)
