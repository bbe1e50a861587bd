-- A free face lies in one facet alone, which has one label more.
use Rattle.std.proofs.Common.{◌≡◌, ℕ, ◌+◌, ◌<◌, ◌≤◌, Bool, true, false, not, cond, ◌&&◌, ltb, List, [], ◌∷◌, length, refl, sym, ap, ◌∙◌, subst, inl, inr, arith}
use mathlib.Core.Bool.{true≢false}
use Rattle.std.specs.Prelude.{◌==◌, Option, Some, None, is_some}
use Rattle.std.specs.Bool.{IsTrue}
use Rattle.std.specs.Ordering.{is_lt}
use Rattle.std.specs.List.{list_all, filter, flat_map}
use Rattle.std.proofs.lemmas.Bool.Decides.{nat_tests}
use Rattle.std.proofs.lemmas.Cmp.{nat_list_cmp_total}
use Rattle.simplex.specs.FirstFailing.{first_failing}
use Rattle.simplex.specs.InOrder.{is_increasing}
use Rattle.simplex.specs.Simplex.{is_simplex, is_within, is_same, subsets, simplex_cmp}
use Rattle.simplex.proofs.Filled.{rising_of}
use Rattle.simplex.proofs.InOrderLaws.{and_left, and_right, and_both, is_increasing-in_order}
use Rattle.simplex.proofs.Members.{In, first, later, cases, at_head, none, all_at, in_filter, from_filter, same_sets}
use Rattle.simplex.proofs.SimplexLaws.{within_itself, within_trans, within_length, within_same, is_increasing-filter}
use Rattle.simplex.proofs.Decided.{not_true, not_from, equal_at, equal_from}
use Rattle.facet_set.specs.Complex.{is_complex, is_face, is_proper_face, is_maximal_in, faces, facets_with}
use Rattle.facet_set.specs.Facets.{IsFacets}
use Rattle.facet_set.proofs.ComplexLaws.{exact, is_set, same_from, same_itself, maximal_at, face_at, face_from, from_faces, in_faces, sets_of}
use Rattle.facet_set.proofs.FacetLaws.{below_apart}
use Rattle.local_parts.proofs.SkeletonLaws.{between}
use Rattle.collapse_moves.specs.declared.free_fault.FreeFault.TheVariants.{NotFace, NotFree}
use Rattle.collapse_moves.specs.declared.holder.Holder.{Holder}
use Rattle.collapse_moves.specs.declared.holder.Holder.TheVariants.{Missing, One, Many}
use Rattle.collapse_moves.specs.Collapses.{only, partner, is_free, free_tests}
use Rattle.collapse_moves.specs.Holders.{holder_of}
use Rattle.collapse_moves.specs.Laws.{PartnerIsFacet}
use Rattle.collapse_moves.proofs.HolderLaws.{missing_at, one_at, many_at}

-- ---- the only member of a list

module _ {X : Type 0} where
  pub only_at : (xs : List X) (t : X) → only xs ≡ Some t → xs ≡ t ∷ []
  only_at [] t e = cc
  only_at (x ∷ []) t e = let same : x ≡ t = cc in ap (λ y. y ∷ []) same
  only_at (x ∷ y ∷ xs) t e = cc

  only_none : (xs : List X) → ((x : X) → In x xs → ⊥) → only xs ≡ None
  only_none [] f = refl
  only_none (x ∷ xs) f = absurd (f x first)

  only_two : (xs : List X) (x y : X) → In x xs → In y xs → (x ≡ y → ⊥) → only xs ≡ None
  only_two [] x y i j f = absurd (none x i)
  only_two (z ∷ []) x y i j f = absurd (f (head x i ∙ sym (head y j)))
    where
      head : (w : X) → In w (z ∷ []) → w ≡ z
      head w k = elim (cases k) [ inl e ↦ e | inr n ↦ absurd (none w n) ]
  only_two (z ∷ w ∷ xs) x y i j f = refl

-- ---- the faces in which a simplex lies properly

abbrev pub above : List (List ℕ) → List ℕ → List (List ℕ)
above c s = filter (is_proper_face s) (faces c)

pub record IsAbove (c : List (List ℕ)) (s t : List ℕ) : Type 0 where
  pub set : is_set t ≡ true
  pub face : is_face c t ≡ true
  pub within : is_within s t ≡ true
  pub another : s ≡ t → ⊥

pub in_above : (c : List (List ℕ)) (s t : List ℕ) → list_all is_set c ≡ true → IsAbove c s t → In t (above c s)
in_above c s t h a = in_filter (is_proper_face s) t (faces c) (in_faces c t h a.set a.face) (and_both _ _ a.within (not_from (is_same s t) (λ e. a.another (same_from s t e))))

pub from_above : (c : List (List ℕ)) (s t : List ℕ) → list_all is_set c ≡ true → In t (above c s) → IsAbove c s t
from_above c s t h i =
    let q = from_filter (is_proper_face s) t (faces c) i in
    let p = from_faces c t h q.0 in
    let differ : is_same s t ≡ false = not_true (is_same s t) (and_right (is_within s t) _ q.1) in
    record { set = p.0; face = p.1; within = and_left _ _ q.1; another = λ e. true≢false (sym (ap (is_same s) (sym e) ∙ same_itself s) ∙ differ) }

pub partner_above : (c : List (List ℕ)) (s t : List ℕ) → list_all is_set c ≡ true → partner c s ≡ Some t → IsAbove c s t
partner_above c s t h e = from_above c s t h (subst (λ l. In t l) (sym (only_at (above c s) t e)) first)

pub partner_only : (c : List (List ℕ)) (s t b : List ℕ) → list_all is_set c ≡ true → partner c s ≡ Some t → IsAbove c s b → b ≡ t
partner_only c s t b h e a =
    elim (cases (subst (λ l. In b l) (only_at (above c s) t e) (in_above c s b h a))) [ inl f ↦ f | inr n ↦ absurd (none b n) ]

-- a set that lies properly in another has fewer labels
fewer : (s t : List ℕ) → is_set s ≡ true → is_set t ≡ true → is_within s t ≡ true → (s ≡ t → ⊥) → length s < length t
fewer s t h k w f =
    elim (ltb (length s) (length t)) as (λ v. ltb (length s) (length t) ≡ v → length s < length t) [
      | true ↦ λ e. grind (arith, nat_tests)
      | false ↦ λ e.
          let most : length t ≤ length s = grind (arith, nat_tests) in
          let least = within_length s t h k w in
          absurd (f (within_same s t h k w (omega (arith, most, least))))
    ] refl

-- ---- one facet contains the simplex

pub record IsAlone (c : List (List ℕ)) (s t : List ℕ) : Type 0 where
  pub sets : list_all is_set c ≡ true
  pub simplex : is_set s ≡ true
  pub alone : facets_with c s ≡ t ∷ []

module _ (c : List (List ℕ)) (s t : List ℕ) (a : IsAlone c s t) where
  in_facet : In t c × (is_within s t ≡ true)
  in_facet = from_filter (is_within s) t c (subst (λ l. In t l) (sym a.alone) first)

  facet_rises : is_set t ≡ true
  facet_rises = all_at is_set t c a.sets in_facet.0

  facet_face : is_face c t ≡ true
  facet_face = face_from c t t in_facet.0 (within_itself t)

  -- what lies above the simplex lies in the facet
  below_facet : (b : List ℕ) → IsAbove c s b → is_within b t ≡ true
  below_facet b h =
      let r = face_at c b h.face in
      let i : In r.0 (t ∷ []) = subst (λ l. In r.0 l) a.alone (in_filter (is_within s) r.0 c r.1 (within_trans s b r.0 h.within r.2)) in
      let same : r.0 ≡ t = elim (cases i) [ inl e ↦ e | inr n ↦ absurd (none r.0 n) ] in
      subst (λ u. is_within b u ≡ true) same r.2

  -- one label more: the facet is the partner
  pub one_partner : length s + 1 ≡ length t → partner c s ≡ Some t
  one_partner n = ap only whole
    where
      mine : IsAbove c s t
      mine = record { set = facet_rises; face = facet_face; within = in_facet.1; another = λ e. apart (ap length e) }
        where
          apart : length s ≡ length t → ⊥
          apart e = omega (arith, e, n)

      all_one : (b : List ℕ) → In b (above c s) → b ≡ t
      all_one b i =
          let h = from_above c s b a.sets i in
          let w = below_facet b h in
          let more = fewer s b a.simplex h.set h.within h.another in
          let most = within_length b t h.set facet_rises w in
          within_same b t h.set facet_rises w (omega (arith, more, most, n))

      whole : above c s ≡ t ∷ []
      whole =
          same_sets nat_list_cmp_total exact (above c s) (t ∷ [])
          (is_increasing-filter simplex_cmp (is_proper_face s) (faces c) (is_increasing-in_order nat_list_cmp_total (flat_map subsets c))) refl
          (λ b i. at_head b t [] (all_one b i))
          (λ b i. elim (cases i) [ inl e ↦ subst (λ u. In u (above c s)) (sym e) (in_above c s t a.sets mine) | inr n ↦ absurd (none b n) ])

  -- otherwise nothing lies above the simplex, or the facet and a face with fewer labels do
  pub one_alone : (length s + 1 ≡ length t → ⊥) → partner c s ≡ None
  one_alone f =
      elim (is_within t s) as (λ v. is_within t s ≡ v → partner c s ≡ None) [
        | true ↦ λ e. only_none (above c s) (λ b i.
            let h = from_above c s b a.sets i in
            let more = fewer s b a.simplex h.set h.within h.another in
            let most = within_length b t h.set facet_rises (below_facet b h) in
            let back = within_length t s facet_rises a.simplex e in
            omega (arith, more, most, back))
        | false ↦ λ e.
            let other : s ≡ t → ⊥ = λ g. true≢false (sym (within_itself t) ∙ ap (is_within t) (sym g) ∙ e) in
            let more = fewer s t a.simplex facet_rises in_facet.1 other in
            let m = between t s (length s + 1) facet_rises a.simplex in_facet.1 (omega arith) (omega (arith, more)) in
            only_two (above c s) m.set t
            (in_above c s m.set a.sets (record { set = m.rises; face = face_from c m.set t in_facet.0 m.below; within = m.above; another = λ g. shorter (ap length g ∙ m.long) }))
            (in_above c s t a.sets (record { set = facet_rises; face = facet_face; within = in_facet.1; another = other }))
            (λ g. f (sym m.long ∙ ap length g))
      ] refl
    where
      shorter : length s ≡ length s + 1 → ⊥
      shorter e = omega (arith, e)

-- ---- two facets contain the simplex
-- of two facets none is within the other
facets_apart : (c : List (List ℕ)) (x y : List ℕ) → is_complex c ≡ true → In x c → In y c → (x ≡ y → ⊥) → is_within x y ≡ true → ⊥
facets_apart c x y h i j f w =
    let top : is_maximal_in c x ≡ true = all_at (is_maximal_in c) x c (and_right (is_increasing simplex_cmp c) _ h) i in
    true≢false (sym (and_both _ _ w (not_from (is_same x y) (λ e. f (same_from x y e)))) ∙ maximal_at c x y top j)

pub two_partners : (c : List (List ℕ)) (s x y : List ℕ) (l : List (List ℕ)) → IsFacets c → facets_with c s ≡ x ∷ y ∷ l → partner c s ≡ None
two_partners c s x y l h e = only_two (above c s) x y (in_above c s x whole (over x y xf yf differ)) (in_above c s y whole (over y x yf xf (λ g. differ (sym g)))) differ
  where
    whole : list_all is_set c ≡ true
    whole = sets_of c h.simplices

    xf : In x c × (is_within s x ≡ true)
    xf = from_filter (is_within s) x c (subst (λ m. In x m) (sym e) first)

    yf : In y c × (is_within s y ≡ true)
    yf = from_filter (is_within s) y c (subst (λ m. In y m) (sym e) (later first))

    rises : is_increasing simplex_cmp (x ∷ y ∷ l) ≡ true
    rises = ap (is_increasing simplex_cmp) (sym e) ∙ is_increasing-filter simplex_cmp (is_within s) c (and_left _ _ h.complex)

    differ : x ≡ y → ⊥
    differ = below_apart x y (and_left (is_lt (simplex_cmp x y)) _ (and_left _ _ rises))

    over : (u v : List ℕ) → In u c × (is_within s u ≡ true) → In v c × (is_within s v ≡ true) → (u ≡ v → ⊥) → IsAbove c s u
    over u v p q f = record {
      set = all_at is_set u c whole p.0;
      face = face_from c u u p.0 (within_itself u);
      within = p.1;
      another = λ g. facets_apart c u v h.complex p.0 q.0 f (subst (λ w. is_within w v ≡ true) g q.1);
    }

-- ---- a partner is a facet
pub partner_is_facet_lem : PartnerIsFacet
partner_is_facet_lem c s t h x u = (
  λ e. from (facets_with c s) refl e,
  λ p. one_partner c s t (record { sets = sets_of c h; simplex = rising_of s u; alone = p.0 }) p.1,
)
  where
    clash : (o : Option (List ℕ)) → o ≡ Some t → o ≡ None → ⊥
    clash (Some w) e f = cc
    clash None e f = cc

    only_fits : (w : List ℕ) → facets_with c s ≡ w ∷ [] → partner c s ≡ Some t → (v : Bool) → (length s + 1 == length w) ≡ v → (w ≡ t) × (length s + 1 ≡ length w)
    only_fits w q e true n =
        let a : IsAlone c s w = record { sets = sets_of c h; simplex = rising_of s u; alone = q } in
        let fit = equal_at (length s + 1) (length w) n in
        let same : Some w ≡ Some t = sym (one_partner c s w a fit) ∙ e in
        (cc, fit)
    only_fits w q e false n =
        let a : IsAlone c s w = record { sets = sets_of c h; simplex = rising_of s u; alone = q } in
        absurd (clash (partner c s) e (one_alone c s w a (λ m. true≢false (sym (equal_from (length s + 1) (length w) m) ∙ n))))

    from : (l : List (List ℕ)) → facets_with c s ≡ l → partner c s ≡ Some t → (facets_with c s ≡ t ∷ []) × (length s + 1 ≡ length t)
    from [] q e =
        let a = partner_above c s t (sets_of c h) e in
        let r = face_at c t a.face in
        absurd (none r.0 (subst (λ l. In r.0 l) q (in_filter (is_within s) r.0 c r.1 (within_trans s t r.0 a.within r.2))))
    from (w ∷ []) q e =
        let p = only_fits w q e (length s + 1 == length w) refl in
        (q ∙ ap (λ v. v ∷ []) p.0, p.1 ∙ ap length p.0)
    from (w ∷ v ∷ l) q e = absurd (clash (partner c s) e (two_partners c s w v l (record { simplices = h; complex = x }) q))

-- ---- the tests in order

tests_are : (c : List (List ℕ)) (s : List ℕ) (v w : Bool) → is_face c s ≡ v → is_free c s ≡ w → first_failing (free_tests c s) ≡ cond v (cond w None (Some NotFree)) (Some NotFace)
tests_are c s v w e f = ap (λ x. cond x (cond (is_free c s) None (Some NotFree)) (Some NotFace)) e ∙ ap (λ y. cond v (cond y None (Some NotFree)) (Some NotFace)) f

not_some : (v : Bool) (o : Option (List ℕ)) → o ≡ None → (v && is_some o) ≡ false
not_some true o e = ap is_some e
not_some false o e = refl

no_partner : (c : List (List ℕ)) (s : List ℕ) → partner c s ≡ None → is_free c s ≡ false
no_partner c s e = not_some (not (length s == 0)) (partner c s) e

face_of : (c : List (List ℕ)) (s t : List ℕ) (l : List (List ℕ)) → facets_with c s ≡ t ∷ l → is_face c s ≡ true
face_of c s t l e = let q = from_filter (is_within s) t c (subst (λ m. In t m) (sym e) first) in face_from c s t q.0 q.1

-- what the pass knows of the facets of the complex
told : (c facets : List (List ℕ)) (s : List ℕ) (k : Holder) → facets ≡ c → k ≡ holder_of (facets_with facets s) → holder_of (facets_with c s) ≡ k
told c facets s k e h = sym (h ∙ ap (λ l. holder_of (facets_with l s)) e)

-- no facet contains the simplex
pub missing_fault : (c facets : List (List ℕ)) (s : List ℕ) → facets ≡ c → Missing ≡ holder_of (facets_with facets s) → first_failing (free_tests c s) ≡ Some NotFace
missing_fault c facets s e h = tests_are c s false (is_free c s) (no_face (is_face c s) refl) refl
  where
    nothing : facets_with c s ≡ []
    nothing = missing_at (facets_with c s) (told c facets s Missing e h)

    no_face : (v : Bool) → is_face c s ≡ v → v ≡ false
    no_face true f = let r = face_at c s f in absurd (none r.0 (subst (λ l. In r.0 l) nothing (in_filter (is_within s) r.0 c r.1 r.2)))
    no_face false f = refl

-- two facets contain it
pub many_fault : (c facets : List (List ℕ)) (s : List ℕ) → IsTrue (list_all is_simplex c) → IsTrue (is_complex c) → facets ≡ c → Many ≡ holder_of (facets_with facets s) → first_failing (free_tests c s) ≡ Some NotFree
many_fault c facets s k x e h =
    let two = many_at (facets_with c s) (told c facets s Many e h) in
    tests_are c s true false (face_of c s two.one (two.other ∷ two.rest) two.whole) (no_partner c s (two_partners c s two.one two.other two.rest (record { simplices = k; complex = x }) two.whole))

-- one facet contains it
alone_in : (c facets : List (List ℕ)) (s t : List ℕ) → IsTrue (list_all is_simplex c) → IsTrue (is_simplex s) → facets ≡ c → One t ≡ holder_of (facets_with facets s) → IsAlone c s t
alone_in c facets s t k u e h = record { sets = sets_of c k; simplex = rising_of s u; alone = one_at (facets_with c s) t (told c facets s (One t) e h) }

-- whether the simplex has a label, and the facet one label more
abbrev pub fits : List ℕ → List ℕ → Bool
fits s t = not (length s == 0) && (length s + 1 == length t)

pub one_value : (c facets : List (List ℕ)) (s t : List ℕ) (v : Bool) → IsTrue (list_all is_simplex c) → IsTrue (is_simplex s) → facets ≡ c → One t ≡ holder_of (facets_with facets s) → v ≡ fits s t → v ≡ true → partner c s ≡ Some t
one_value c facets s t v k u e h f g = one_partner c s t (alone_in c facets s t k u e h) (equal_at (length s + 1) (length t) (and_right (not (length s == 0)) _ (sym f ∙ g)))

pub one_passed : (c facets : List (List ℕ)) (s t : List ℕ) (v : Bool) → IsTrue (list_all is_simplex c) → IsTrue (is_simplex s) → facets ≡ c → One t ≡ holder_of (facets_with facets s) → v ≡ fits s t → v ≡ true → first_failing (free_tests c s) ≡ None
one_passed c facets s t v k u e h f g =
    tests_are c s true true (face_of c s t [] (alone_in c facets s t k u e h).alone) (and_both _ _ (and_left _ _ (sym f ∙ g)) (ap is_some (one_value c facets s t v k u e h f g)))

pub one_fault : (c facets : List (List ℕ)) (s t : List ℕ) (v : Bool) → IsTrue (list_all is_simplex c) → IsTrue (is_simplex s) → facets ≡ c → One t ≡ holder_of (facets_with facets s) → v ≡ fits s t → v ≡ false → first_failing (free_tests c s) ≡ Some NotFree
one_fault c facets s t v k u e h f g = tests_are c s true false (face_of c s t [] a.alone) (by (not (length s == 0)) refl)
  where
    a : IsAlone c s t
    a = alone_in c facets s t k u e h

    by : (w : Bool) → not (length s == 0) ≡ w → is_free c s ≡ false
    by true p = no_partner c s (one_alone c s t a (λ n. true≢false (sym (and_both _ _ p (equal_from (length s + 1) (length t) n)) ∙ sym f ∙ g)))
    by false p = ap (λ w. w && is_some (partner c s)) p

-- what the check of a free face rests on
pub ruleset first_faults = (missing_fault, many_fault, one_passed, one_value, one_fault)
