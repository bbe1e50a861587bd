-- The faces after a facet goes: a collapse drops two facets, one after another.
use Rattle.std.proofs.Common.{◌≡◌, ℕ, ◌+◌, Bool, true, false, not, cond, ◌&&◌, List, [], ◌∷◌, ◌++◌, length, refl, sym, ap, ◌∙◌, subst, inl, inr}
use mathlib.Core.Bool.{true≢false}
use Rattle.std.specs.Prelude.{Some}
use Rattle.std.specs.Bool.{IsTrue}
use Rattle.std.specs.Ordering.{is_lt}
use Rattle.std.specs.List.{list_all, filter, flat_map}
use Rattle.std.proofs.lemmas.Cmp.{nat_list_cmp_total}
use Rattle.simplex.specs.InOrder.{is_increasing}
use Rattle.simplex.specs.Simplex.{is_simplex, is_within, is_same, union, without, simplex_cmp, subsets}
use Rattle.simplex.proofs.InOrderLaws.{and_left, and_right, and_both, is_increasing-in_order}
use Rattle.simplex.proofs.Members.{In, first, cases, none, all_at, all_from, in_filter, from_filter, is_member_at, same_sets}
use Rattle.simplex.proofs.SimplexLaws.{is_increasing-filter, within_itself, within_trans, same_labels}
use Rattle.simplex.proofs.Decided.{false_from, not_true, not_from}
use Rattle.facet_set.specs.Complex.{is_face, is_proper_face, faces, stands_in}
use Rattle.facet_set.specs.Facets.{IsFacets}
use Rattle.facet_set.specs.Parts.{faces_where}
use Rattle.facet_set.proofs.ComplexLaws.{exact, is_set, same_from, same_itself, is_complex-generated, from_generated, from_faces, in_faces, face_from, face_below, sets_of}
use Rattle.facet_set.proofs.FaceLaws.{face_simplex, known_by_faces_lem}
use Rattle.facet_set.proofs.FacetLaws.{below_apart}
use Rattle.facet_set.proofs.GeneratedLaws.{filter_all}
use Rattle.collapse_moves.specs.Collapses.{partner, collapse, drop_face}
use Rattle.collapse_moves.proofs.CollapseLaws.{collapse_faces_lem, drop_faces_lem}
use Rattle.collapse_moves.proofs.FreeLaws.{IsAbove, partner_above, partner_only}
use Rattle.morse_lists.proofs.UpLaws.{above_beside, cover_long, cover_new, cover_over, from_ups, none_facet, up_above, up_beside}
use Rattle.morse_lists.specs.Cells.{ups}

-- a complex of faces that pass a test
pub facets_where : (test : List ℕ → Bool) (c : List (List ℕ)) → IsFacets c → IsFacets (faces_where test c)
facets_where test c h = record {
  simplices = all_from is_simplex (faces_where test c) (λ s i.
      let p = from_faces c s (sets_of c h.simplices) (from_filter test s (faces c) (from_generated s (filter test (faces c)) i).0).0 in
      face_simplex c s h.simplices p.0 p.1);
  complex = is_complex-generated (filter test (faces c));
}

pub drop_facets : (c : List (List ℕ)) (f : List ℕ) → IsFacets c → IsFacets (drop_face c f)
drop_facets c f h = facets_where (λ b. not (is_same b f)) c h

-- the faces after a facet goes
pub faces_drop : (c : List (List ℕ)) (f : List ℕ) → IsFacets c → stands_in c f ≡ true → faces (drop_face c f) ≡ filter (λ b. not (is_same b f)) (faces c)
faces_drop c f h m =
    same_sets nat_list_cmp_total exact (faces (drop_face c f)) (filter (λ b. not (is_same b f)) (faces c))
    (is_increasing-in_order nat_list_cmp_total (flat_map subsets (drop_face c f)))
    (is_increasing-filter simplex_cmp (λ b. not (is_same b f)) (faces c) (is_increasing-in_order nat_list_cmp_total (flat_map subsets c)))
    (λ b i.
    let p = from_faces (drop_face c f) b (sets_of (drop_face c f) d.simplices) i in
    let k = face_simplex (drop_face c f) b d.simplices p.0 p.1 in
    let q : (is_face c b && not (is_same b f)) ≡ true = sym (drop_faces_lem c f b h.simplices h.complex m k) ∙ p.1 in
    in_filter (λ x. not (is_same x f)) b (faces c) (in_faces c b (sets_of c h.simplices) p.0 (and_left _ _ q)) (and_right (is_face c b) _ q))
    (λ b i.
    let r = from_filter (λ x. not (is_same x f)) b (faces c) i in
    let p = from_faces c b (sets_of c h.simplices) r.0 in
    let k = face_simplex c b h.simplices p.0 p.1 in
    in_faces (drop_face c f) b (sets_of (drop_face c f) d.simplices) p.0 (drop_faces_lem c f b h.simplices h.complex m k ∙ and_both _ _ p.1 r.1))
  where
    d : IsFacets (drop_face c f)
    d = drop_facets c f h

-- an increasing list, cut at one of its members
pub record IsCutAt (f : List ℕ) (l : List (List ℕ)) : Type 0 where
  pub front : List (List ℕ)
  pub back : List (List ℕ)
  pub whole : l ≡ front ++ f ∷ back
  pub rest : filter (λ b. not (is_same b f)) l ≡ front ++ back

cut_on : (f b : List ℕ) (l : List (List ℕ)) → is_increasing simplex_cmp (b ∷ l) ≡ true → In f (b ∷ l) → (In f l → IsCutAt f l) → (v : Bool) → is_same b f ≡ v → IsCutAt f (b ∷ l)
cut_on f b l h i later true e =
    let one : b ≡ f = same_from b f e in
    record {
      front = [];
      back = l;
      whole = ap (λ x. x ∷ l) one;
      rest = ap (λ v. cond (not v) (b ∷ filter (λ x. not (is_same x f)) l) (filter (λ x. not (is_same x f)) l)) e
          ∙ filter_all (λ x. not (is_same x f)) l (λ x j. not_from (is_same x f) (λ g.
          below_apart b x (all_at (λ y. is_lt (simplex_cmp b y)) x l (and_left _ (is_increasing simplex_cmp l) h) j) (one ∙ sym (same_from x f g))));
    }
cut_on f b l h i later false e =
    let r = later (elim (cases i) [ inl g ↦ absurd (true≢false (sym (ap (λ x. is_same x f) (sym g) ∙ same_itself f) ∙ e)) | inr k ↦ k ]) in
    record {
      front = b ∷ r.front;
      back = r.back;
      whole = ap (λ m. b ∷ m) r.whole;
      rest = ap (λ v. cond (not v) (b ∷ filter (λ x. not (is_same x f)) l) (filter (λ x. not (is_same x f)) l)) e ∙ ap (λ m. b ∷ m) r.rest;
    }

pub cut : (f : List ℕ) (l : List (List ℕ)) → is_increasing simplex_cmp l ≡ true → In f l → IsCutAt f l
cut f [] h i = absurd (none f i)
cut f (b ∷ l) h i = cut_on f b l h i (λ j. cut f l (and_right _ (is_increasing simplex_cmp l) h) j) (is_same b f) refl

-- the faces with a facet and without it
pub record IsDrop (c : List (List ℕ)) (f : List ℕ) : Type 0 where
  pub front : List (List ℕ)
  pub back : List (List ℕ)
  pub before : faces c ≡ front ++ f ∷ back
  pub after : faces (drop_face c f) ≡ front ++ back

pub facet_in_faces : (c : List (List ℕ)) (f : List ℕ) → IsFacets c → stands_in c f ≡ true → In f (faces c)
facet_in_faces c f h m =
    let i = is_member_at nat_list_cmp_total exact f c m in
    in_faces c f (sets_of c h.simplices) (all_at is_set f c (sets_of c h.simplices) i) (face_from c f f i (within_itself f))

pub dropped : (c : List (List ℕ)) (f : List ℕ) → IsFacets c → stands_in c f ≡ true → IsDrop c f
dropped c f h m =
    let q = cut f (faces c) (is_increasing-in_order nat_list_cmp_total (flat_map subsets c)) (facet_in_faces c f h m) in
    record { front = q.front; back = q.back; before = q.whole; after = faces_drop c f h m ∙ q.rest }

-- the facet is no face any more
pub not_left : (c : List (List ℕ)) (f : List ℕ) → IsFacets c → stands_in c f ≡ true → In f (faces (drop_face c f)) → ⊥
not_left c f h m i =
    let r = from_filter (λ b. not (is_same b f)) f (faces c) (subst (λ l. In f l) (faces_drop c f h m) i) in
    true≢false (sym (same_itself f) ∙ not_true (is_same f f) r.1)

-- ---- a collapse
module _ (c : List (List ℕ)) (s t : List ℕ) (h : IsFacets c) (k : is_set s ≡ true) (e : partner c s ≡ Some t) where
  sets : list_all is_set c ≡ true
  sets = sets_of c h.simplices

  over : IsAbove c s t
  over = partner_above c s t sets e

  -- nothing lies above the partner
  pub partner_facet : stands_in c t ≡ true
  partner_facet = none_facet c h t over.set over.face (by (ups (faces c) t) refl)
    where
      by : (vs : List ℕ) → ups (faces c) t ≡ vs → vs ≡ []
      by [] g = refl
      by (v ∷ vs) g =
          let a = up_above c h t v (subst (λ us. In v us) (sym g) first) in
          let b = union t (v ∷ []) in
          let far : IsAbove c s b = record {
            set = a.set;
            face = a.face;
            within = within_trans s t b over.within a.within;
            another = λ f. over.another (same_labels s t k over.set over.within (subst (λ u. is_within t u ≡ true) (sym f) a.within));
          } in
          absurd (a.another (sym (partner_only c s t b sets e far)))

  -- and it is the free face with one label more
  pub record IsPartner : Type 0 where
    pub label : ℕ
    pub has : In label t
    pub rest : without t label ≡ s
    pub long : length s + 1 ≡ length t

  pub partner_cover : IsPartner
  partner_cover =
      let x = up_beside c h s t k over.face over.within (above_beside c h s t k over) in
      let q = from_ups (faces c) s x.0 x.2 in
      let p = from_faces c q.0 sets q.1 in
      let above : IsAbove c s q.0 = record { set = p.0; face = p.1; within = cover_over s q.0 x.0 q.2; another = λ f. cover_new s q.0 x.0 q.2 (subst (λ u. In x.0 u) (sym f) q.2.has) } in
      let one : q.0 ≡ t = partner_only c s t q.0 sets e above in
      record {
        label = x.0;
        has = x.1;
        rest = ap (λ u. without u x.0) (sym one) ∙ q.2.rest;
        long = cover_long s q.0 x.0 q.2 p.0 ∙ ap length one;
      }

  pub free_is_face : is_face c s ≡ true
  free_is_face = face_below c s t over.within over.face

  free_simplex : IsTrue (is_simplex s)
  free_simplex = face_simplex c s h.simplices k free_is_face

  not_partner : is_same s t ≡ false
  not_partner = false_from (is_same s t) (λ g. over.another (same_from s t g))

  pub left_facet : stands_in (drop_face c t) s ≡ true
  left_facet = none_facet (drop_face c t) d s k still (by (ups (faces (drop_face c t)) s) refl)
    where
      d : IsFacets (drop_face c t)
      d = drop_facets c t h

      still : is_face (drop_face c t) s ≡ true
      still = drop_faces_lem c t s h.simplices h.complex partner_facet free_simplex ∙ and_both _ _ free_is_face (ap not not_partner)

      by : (vs : List ℕ) → ups (faces (drop_face c t)) s ≡ vs → vs ≡ []
      by [] g = refl
      by (v ∷ vs) g =
          let a = up_above (drop_face c t) d s v (subst (λ us. In v us) (sym g) first) in
          let b = union s (v ∷ []) in
          let whole = drop_faces_lem c t b h.simplices h.complex partner_facet (face_simplex (drop_face c t) b d.simplices a.set a.face) in
          let q : (is_face c b && not (is_same b t)) ≡ true = sym whole ∙ a.face in
          let one = partner_only c s t b sets e (record { set = a.set; face = and_left _ _ q; within = a.within; another = a.another }) in
          absurd (true≢false (sym (ap (λ x. is_same x t) one ∙ same_itself t) ∙ not_true (is_same b t) (and_right (is_face c b) _ q)))

  pub collapse_drops : collapse c s ≡ drop_face (drop_face c t) s
  collapse_drops =
      let d = drop_facets c t h in
      let g = drop_facets (drop_face c t) s d in
      let f = facets_where (λ b. not (is_same b s) && not (is_proper_face s b)) c h in
      known_by_faces_lem (collapse c s) (drop_face (drop_face c t) s) f.simplices g.simplices f.complex g.complex
      (λ b u.
      collapse_faces_lem c s t b h.simplices e u
      ∙ swap (is_face c b) (not (is_same b s)) (not (is_same b t))
      ∙ ap (λ v. v && not (is_same b s)) (sym (drop_faces_lem c t b h.simplices h.complex partner_facet u))
      ∙ sym (drop_faces_lem (drop_face c t) s b d.simplices d.complex left_facet u))
    where
      swap : (u v w : Bool) → (u && v && w) ≡ ((u && w) && v)
      swap true true true = refl
      swap true true false = refl
      swap true false true = refl
      swap true false false = refl
      swap false v w = refl
