-- The labels with which a simplex makes a larger face tell whether it is a facet, and in which face alone it lies.
use Rattle.std.proofs.Common.{◌≡◌, ℕ, ◌+◌, ◌<◌, Bool, true, false, not, ◌&&◌, List, [], ◌∷◌, length, refl, sym, ap, ◌∙◌, subst, inl, inr, arith}
use mathlib.Core.Bool.{true≢false}
use Rattle.std.specs.Prelude.{◌==◌, Some, None}
use Rattle.std.specs.Bool.{IsTrue}
use Rattle.std.specs.Ordering.{nat_cmp, is_lt}
use Rattle.std.specs.List.{list_all, flat_map}
use Rattle.std.proofs.lemmas.Cmp.{nat_list_cmp_total}
use Rattle.simplex.specs.InOrder.{is_increasing}
use Rattle.simplex.specs.Simplex.{is_within, is_same, is_label, union, without, simplex_cmp, subsets}
use Rattle.simplex.proofs.Filled.{labels_of, short_of}
use Rattle.simplex.proofs.InOrderLaws.{and_left, and_right, is_increasing-in_order}
use Rattle.simplex.proofs.Members.{In, first, later, cases, at_head, none, all_at, all_from, in_filter, from_filter, in_flat_map, from_flat_map, is_member_at, is_member_from, same_sets}
use Rattle.simplex.proofs.SimplexLaws.{in_within, within_in, within_itself, within_trans, in_union, from_union, in_without, from_without, is_increasing-filter, is_increasing-union, same_labels, label_beside}
use Rattle.simplex.proofs.Decided.{equal_at, equal_from}
use Rattle.facet_set.specs.Complex.{is_face, is_proper_face, is_maximal_in, faces, stands_in}
use Rattle.facet_set.specs.Facets.{IsFacets}
use Rattle.facet_set.specs.Maps.{is_distinct}
use Rattle.facet_set.proofs.ComplexLaws.{exact, is_set, same_from, maximal_at, face_at, face_from, face_below, from_faces, in_faces, sets_of}
use Rattle.facet_set.proofs.FaceLaws.{face_simplex}
use Rattle.facet_set.proofs.FaceNumbers.{same_from as matched}
use Rattle.facet_set.proofs.FacetLaws.{below_apart}
use Rattle.facet_set.proofs.FlipLaws.{length-without}
use Rattle.facet_set.proofs.GeneratedLaws.{same_at}
use Rattle.facet_set.proofs.SetLaws.{distinct_both, distinct_head, increasing_distinct}
use Rattle.collapse_moves.specs.Collapses.{only, partner}
use Rattle.collapse_moves.proofs.FreeLaws.{above, IsAbove, in_above, from_above}
use Rattle.morse_lists.specs.Cells.{same, extra, ups}

-- the face is the simplex with one label more
pub record IsCover (s t : List ℕ) (v : ℕ) : Type 0 where
  pub has : In v t
  pub rest : without t v ≡ s

pub from_extra : (s t : List ℕ) (v : ℕ) → In v (extra s t) → IsCover s t v
from_extra s t v i = let p = from_filter (λ w. same (without t w) s) v t i in record { has = p.0; rest = same_at (without t v) s p.1 }

pub in_extra : (s t : List ℕ) (v : ℕ) → IsCover s t v → In v (extra s t)
in_extra s t v h = in_filter (λ w. same (without t w) s) v t h.has (matched (without t v) s h.rest)

pub from_ups : (l : List (List ℕ)) (s : List ℕ) (v : ℕ) → In v (ups l s) → (t : List ℕ) × In t l × IsCover s t v
from_ups l s v i = let q = from_flat_map (extra s) v l i in (q.0, q.1, from_extra s q.0 v q.2)

pub in_ups : (l : List (List ℕ)) (s t : List ℕ) (v : ℕ) → In t l → IsCover s t v → In v (ups l s)
in_ups l s t v i h = in_flat_map (extra s) t v l i (in_extra s t v h)

module _ (s t : List ℕ) (v : ℕ) (h : IsCover s t v) where
  pub cover_new : In v s → ⊥
  cover_new i = (from_without t v v (subst (λ u. In v u) (sym h.rest) i)).1 refl

  pub cover_over : is_within s t ≡ true
  cover_over = in_within s t (λ a i. (from_without t v a (subst (λ u. In a u) (sym h.rest) i)).0)

  pub cover_set : is_set t ≡ true → is_set s ≡ true
  cover_set k = ap is_set (sym h.rest) ∙ is_increasing-filter nat_cmp _ t k

  pub cover_is : is_set t ≡ true → t ≡ union s (v ∷ [])
  cover_is k =
      same_labels t (union s (v ∷ [])) k (is_increasing-union s (v ∷ []))
      (in_within t (union s (v ∷ [])) (λ a i. by a i (a == v) refl))
      (in_within (union s (v ∷ [])) t (λ a i. elim (from_union s (v ∷ []) a i) [
        | inl j ↦ within_in s t a cover_over j
        | inr j ↦ elim (cases j) [ inl e ↦ subst (λ b. In b t) (sym e) h.has | inr n ↦ absurd (none a n) ]
      ]))
    where
      by : (a : ℕ) → In a t → (b : Bool) → (a == v) ≡ b → In a (union s (v ∷ []))
      by a i true e = in_union s (v ∷ []) a (inr (at_head a v [] (equal_at a v e)))
      by a i false e = in_union s (v ∷ []) a (inl (subst (λ u. In a u) h.rest (in_without t v a i (λ f. true≢false (sym (equal_from a v f) ∙ e)))))

  pub cover_long : is_set t ≡ true → length s + 1 ≡ length t
  cover_long k = ap (λ u. length u + 1) (sym h.rest) ∙ length-without v t k h.has

-- a set with one label of a greater one makes a cover
pub covered_by : (s b : List ℕ) (x : ℕ) → is_set s ≡ true → In x b → (In x s → ⊥) → is_within s b ≡ true → IsCover s (union s (x ∷ [])) x × (is_within (union s (x ∷ [])) b ≡ true)
covered_by s b x h i f w = (record { has = in_union s (x ∷ []) x (inr first); rest = back }, inside)
  where
    back : without (union s (x ∷ [])) x ≡ s
    back = same_labels (without (union s (x ∷ [])) x) s (is_increasing-filter nat_cmp _ (union s (x ∷ [])) (is_increasing-union s (x ∷ []))) h
        (in_within (without (union s (x ∷ [])) x) s (λ a j.
        let q = from_without (union s (x ∷ [])) x a j in
        elim (from_union s (x ∷ []) a q.0) [ inl k ↦ k | inr k ↦ elim (cases k) [ inl e ↦ absurd (q.1 e) | inr n ↦ absurd (none a n) ] ]))
        (in_within s (without (union s (x ∷ [])) x) (λ a j. in_without (union s (x ∷ [])) x a (in_union s (x ∷ []) a (inl j)) (λ e. f (subst (λ y. In y s) e j))))

    inside : is_within (union s (x ∷ [])) b ≡ true
    inside = in_within (union s (x ∷ [])) b (λ a j. elim (from_union s (x ∷ []) a j) [
      | inl k ↦ within_in s b a w k
      | inr k ↦ elim (cases k) [ inl e ↦ subst (λ y. In y b) (sym e) i | inr n ↦ absurd (none a n) ]
    ])

-- no label stands twice
pub ups_distinct : (l : List (List ℕ)) (s : List ℕ) → is_increasing simplex_cmp l ≡ true → list_all is_set l ≡ true → is_distinct (ups l s) ≡ true
ups_distinct [] s h k = refl
ups_distinct (t ∷ l) s h k =
    let rises : is_set t ≡ true = and_left (is_set t) _ k in
    let rest : list_all is_set l ≡ true = and_right (is_set t) _ k in
    distinct_both (extra s t) (ups l s) (increasing_distinct (extra s t) (is_increasing-filter nat_cmp _ t rises)) (ups_distinct l s (and_right _ (is_increasing simplex_cmp l) h) rest)
    (λ v i j.
    let a = from_extra s t v i in
    let b = from_ups l s v j in
    below_apart t b.0 (all_at (λ y. is_lt (simplex_cmp t y)) b.0 l (and_left _ (is_increasing simplex_cmp l) h) b.1)
    (cover_is s t v a rises ∙ sym (cover_is s b.0 v b.2 (all_at is_set b.0 l rest b.1))))

-- ---- in a complex
module _ (c : List (List ℕ)) (facets : IsFacets c) where
  pub sets : list_all is_set c ≡ true
  sets = sets_of c facets.simplices

  pub faces_rise : is_increasing simplex_cmp (faces c) ≡ true
  faces_rise = is_increasing-in_order nat_list_cmp_total (flat_map subsets c)

  pub faces_sets : list_all is_set (faces c) ≡ true
  faces_sets = all_from is_set (faces c) (λ t i. (from_faces c t sets i).0)

  pub up_beside : (s b : List ℕ) → is_set s ≡ true → is_face c b ≡ true → is_within s b ≡ true → is_within b s ≡ false → (x : ℕ) × In x b × In x (ups (faces c) s)
  up_beside s b h f w e =
      let x = label_beside b s e in
      let q = covered_by s b x.0 h x.1 x.2 w in
      let t = union s (x.0 ∷ []) in
      (x.0, x.1, in_ups (faces c) s t x.0 (in_faces c t sets (is_increasing-union s (x.0 ∷ [])) (face_below c t b q.1 f)) q.0)

  -- what a label makes of a simplex lies above it
  pub up_above : (s : List ℕ) (v : ℕ) → In v (ups (faces c) s) → IsAbove c s (union s (v ∷ []))
  up_above s v i =
      let q = from_ups (faces c) s v i in
      let p = from_faces c q.0 sets q.1 in
      subst (λ t. IsAbove c s t) (cover_is s q.0 v q.2 p.0)
      (record { set = p.0; face = p.1; within = cover_over s q.0 v q.2; another = λ e. cover_new s q.0 v q.2 (subst (λ u. In v u) (sym e) q.2.has) })

  pub above_beside : (s b : List ℕ) → is_set s ≡ true → IsAbove c s b → is_within b s ≡ false
  above_beside s b h a = by (is_within b s) refl
    where
      by : (w : Bool) → is_within b s ≡ w → w ≡ false
      by true e = absurd (a.another (same_labels s b h a.set a.within e))
      by false e = refl

  -- ---- facets
  pub facet_none : (s : List ℕ) → stands_in c s ≡ true → ups (faces c) s ≡ []
  facet_none s m = by (ups (faces c) s) refl
    where
      i : In s c
      i = is_member_at nat_list_cmp_total exact s c m

      by : (vs : List ℕ) → ups (faces c) s ≡ vs → vs ≡ []
      by [] e = refl
      by (v ∷ vs) e =
          let a = up_above s v (subst (λ ws. In v ws) (sym e) first) in
          let r = face_at c (union s (v ∷ [])) a.face in
          let over : is_within s r.0 ≡ true = within_trans s (union s (v ∷ [])) r.0 a.within r.2 in
          let top : is_maximal_in c s ≡ true = all_at (is_maximal_in c) s c (and_right (is_increasing simplex_cmp c) _ facets.complex) i in
          let one : is_same s r.0 ≡ true = must (is_within s r.0) (is_same s r.0) over (maximal_at c s r.0 top r.1) in
          let k = sets_at_s in
          absurd (true≢false (sym (subst (λ u. is_within (union s (v ∷ [])) u ≡ true) (sym (same_from s r.0 one)) r.2) ∙ above_beside s (union s (v ∷ [])) k a))
        where
          sets_at_s : is_set s ≡ true
          sets_at_s = all_at is_set s c sets i

          must : (v w : Bool) → v ≡ true → (v && not w) ≡ false → w ≡ true
          must true true p q = refl
          must true false p q = absurd (true≢false q)
          must false w p q = absurd (true≢false (sym p))

  pub none_facet : (s : List ℕ) → is_set s ≡ true → is_face c s ≡ true → ups (faces c) s ≡ [] → stands_in c s ≡ true
  none_facet s h f e = by (is_within r.0 s) refl
    where
      r : (t : List ℕ) × In t c × (is_within s t ≡ true)
      r = face_at c s f

      by : (w : Bool) → is_within r.0 s ≡ w → stands_in c s ≡ true
      by true g = is_member_from nat_list_cmp_total exact s c (subst (λ t. In t c) (sym (same_labels s r.0 h (all_at is_set r.0 c sets r.1) r.2 g)) r.1)
      by false g =
          let x = up_beside s r.0 h (face_from c r.0 r.0 r.1 (within_itself r.0)) r.2 g in
          absurd (none x.0 (subst (λ vs. In x.0 vs) e x.2))

  -- ---- partners
  pub no_partner : (s : List ℕ) → is_set s ≡ true → ups (faces c) s ≡ [] → partner c s ≡ None
  no_partner s h e = by (above c s) refl
    where
      by : (l : List (List ℕ)) → above c s ≡ l → only l ≡ None
      by [] g = refl
      by (b ∷ l) g =
          let a = from_above c s b sets (subst (λ m. In b m) (sym g) first) in
          let x = up_beside s b h a.face a.within (above_beside s b h a) in
          absurd (none x.0 (subst (λ vs. In x.0 vs) e x.2))

  pub one_partner : (s : List ℕ) (v : ℕ) → is_set s ≡ true → ups (faces c) s ≡ v ∷ [] → partner c s ≡ Some (union s (v ∷ []))
  one_partner s v h e = ap only whole
    where
      t : List ℕ
      t = union s (v ∷ [])

      mine : IsAbove c s t
      mine = up_above s v (subst (λ vs. In v vs) (sym e) first)

      alone : (x : ℕ) → In x (ups (faces c) s) → x ≡ v
      alone x i = elim (cases (subst (λ vs. In x vs) e i)) [ inl f ↦ f | inr n ↦ absurd (none x n) ]

      one : (b : List ℕ) → IsAbove c s b → b ≡ t
      one b a = same_labels b t a.set mine.set low high
        where
          low : is_within b t ≡ true
          low = by (is_within b t) refl
            where
              by : (w : Bool) → is_within b t ≡ w → w ≡ true
              by true f = refl
              by false f =
                  let x = label_beside b t f in
                  let q = covered_by s b x.0 h x.1 (λ j. x.2 (in_union s (v ∷ []) x.0 (inl j))) a.within in
                  let u = union s (x.0 ∷ []) in
                  let i = in_ups (faces c) s u x.0 (in_faces c u sets (is_increasing-union s (x.0 ∷ [])) (face_below c u b q.1 a.face)) q.0 in
                  absurd (x.2 (in_union s (v ∷ []) x.0 (inr (at_head x.0 v [] (alone x.0 i)))))

          high : is_within t b ≡ true
          high =
              let x = up_beside s b h a.face a.within (above_beside s b h a) in
              in_within t b (λ y i. elim (from_union s (v ∷ []) y i) [
                | inl j ↦ within_in s b y a.within j
                | inr j ↦ elim (cases j) [ inl f ↦ subst (λ z. In z b) (alone x.0 x.2 ∙ sym f) x.1 | inr n ↦ absurd (none y n) ]
              ])

      whole : above c s ≡ t ∷ []
      whole =
          same_sets nat_list_cmp_total exact (above c s) (t ∷ []) (is_increasing-filter simplex_cmp (is_proper_face s) (faces c) faces_rise) refl
          (λ b i. at_head b t [] (one b (from_above c s b sets i)))
          (λ b i. elim (cases i) [ inl f ↦ subst (λ u. In u (above c s)) (sym f) (in_above c s t sets mine) | inr n ↦ absurd (none b n) ])

  pub two_partners : (s : List ℕ) (v w : ℕ) (vs : List ℕ) → ups (faces c) s ≡ v ∷ w ∷ vs → partner c s ≡ None
  two_partners s v w vs e = two (above c s) (union s (v ∷ [])) (union s (w ∷ [])) (in_above c s _ sets av) (in_above c s _ sets aw) differ
    where
      iv : In v (ups (faces c) s)
      iv = subst (λ us. In v us) (sym e) first

      iw : In w (ups (faces c) s)
      iw = subst (λ us. In w us) (sym e) (later first)

      av : IsAbove c s (union s (v ∷ []))
      av = up_above s v iv

      aw : IsAbove c s (union s (w ∷ []))
      aw = up_above s w iw

      apart : v ≡ w → ⊥
      apart f = distinct_head v (w ∷ vs) (ap is_distinct (sym e) ∙ ups_distinct (faces c) s faces_rise faces_sets) (at_head v w vs f)

      fresh : In v s → ⊥
      fresh i = let q = from_ups (faces c) s v iv in cover_new s q.0 v q.2 i

      differ : union s (v ∷ []) ≡ union s (w ∷ []) → ⊥
      differ f = elim (from_union s (w ∷ []) v (subst (λ u. In v u) f (in_union s (v ∷ []) v (inr first)))) [
        | inl i ↦ fresh i
        | inr i ↦ elim (cases i) [ inl g ↦ apart g | inr n ↦ none v n ]
      ]

      two : (l : List (List ℕ)) (x y : List ℕ) → In x l → In y l → (x ≡ y → ⊥) → only l ≡ None
      two [] x y i j f = absurd (none x i)
      two (z ∷ []) x y i j f = absurd (f (head x i ∙ sym (head y j)))
        where
          head : (u : List ℕ) → In u (z ∷ []) → u ≡ z
          head u k = elim (cases k) [ inl g ↦ g | inr n ↦ absurd (none u n) ]
      two (z ∷ u ∷ l) x y i j f = refl

  -- the label of a free face, and its length
  pub up_label : (s : List ℕ) (v : ℕ) → In v (ups (faces c) s) → IsTrue (is_label v) × (length s < 12)
  up_label s v i =
      let q = from_ups (faces c) s v i in
      let p = from_faces c q.0 sets q.1 in
      let k = face_simplex c q.0 facets.simplices p.0 p.1 in
      (all_at is_label v q.0 (labels_of q.0 k) q.2.has, omega (arith, short_of q.0 k, cover_long s q.0 v q.2 p.0))
