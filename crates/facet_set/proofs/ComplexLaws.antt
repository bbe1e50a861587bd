-- Laws of complexes.
use Rattle.std.proofs.Common.{◌≡◌, ℕ, Bool, true, false, not, ◌&&◌, ◌||◌, List, [], ◌∷◌, map, refl, sym, ap, ◌∙◌, subst, inl, inr, arith}
use mathlib.Core.Bool.{true≢false}
use Rattle.std.specs.Ordering.{nat_cmp}
use Rattle.std.specs.List.{list_any, list_all, filter, flat_map}
use Rattle.std.specs.FinMap.{IsAntisymmetric, nat_cmp-IsAntisymmetric, slice_cmp-IsAntisymmetric}
use Rattle.std.proofs.lemmas.Cmp.{nat_cmp_total, nat_list_cmp_total}
use Rattle.simplex.specs.InOrder.{is_increasing}
use Rattle.simplex.specs.Simplex.{is_simplex, is_within, simplex_cmp, is_same, subsets, without}
use Rattle.simplex.proofs.Filled.{rising_of}
use Rattle.simplex.proofs.InOrderLaws.{and_left, and_right, and_both, is_increasing-in_order, itself, equal_is}
use Rattle.simplex.proofs.SimplexLaws.{is_increasing-filter, within_in, in_within, above_at, rest_increasing, front_increasing, within_itself, within_trans, same_labels}
use Rattle.simplex.proofs.Members.{In, first, later, cases, at_head, none, any_from, any_at, all_at, all_from, in_filter, from_filter, in_map, from_map, in_left, in_right, in_either, in_flat_map, from_flat_map, in_order_in, from_in_order, same_sets}
use Rattle.simplex.proofs.Decided.{agree, false_from, not_true}
use Rattle.facet_set.specs.Parts.{faces_where}
use Rattle.facet_set.specs.Complex.{verts, simplices, is_proper_face, is_maximal_in, generated, is_complex, is_face, faces}

-- simplices that compare alike are one
pub exact : IsAntisymmetric simplex_cmp
exact = slice_cmp-IsAntisymmetric nat_cmp-IsAntisymmetric

pub same_from : (s t : List ℕ) → is_same s t ≡ true → s ≡ t
same_from s t h = exact s t (equal_is _ h)

pub same_itself : (s : List ℕ) → is_same s s ≡ true
same_itself s = itself nat_list_cmp_total s

pub in_simplices : (s : List ℕ) (l : List (List ℕ)) → In s l → In s (simplices l)
in_simplices s l i = in_order_in nat_list_cmp_total exact s l i

pub from_simplices : (s : List ℕ) (l : List (List ℕ)) → In s (simplices l) → In s l
from_simplices s l i = from_in_order nat_list_cmp_total exact s l i

true_not : (v : Bool) → v ≡ false → not v ≡ true
true_not v h = ap not h

-- no member lies properly in another
pub maximal_at : (l : List (List ℕ)) (s t : List ℕ) → is_maximal_in l s ≡ true → In t l → is_proper_face s t ≡ false
maximal_at l s t h i = false_from _ (λ p. true≢false (sym (any_from (is_proper_face s) t l i p) ∙ not_true (list_any (is_proper_face s) l) h))

pub maximal_from : (l : List (List ℕ)) (s : List ℕ) → ((t : List ℕ) → In t l → is_proper_face s t ≡ false) → is_maximal_in l s ≡ true
maximal_from l s f = true_not _ (false_from _ (λ a. let r = any_at (is_proper_face s) l a in true≢false (sym r.2 ∙ f r.0 r.1)))

-- the members of what a list generates
pub in_generated : (s : List ℕ) (l : List (List ℕ)) → In s l → is_maximal_in l s ≡ true → In s (generated l)
in_generated s l i h = in_simplices s _ (in_filter (is_maximal_in l) s l i h)

pub from_generated : (s : List ℕ) (l : List (List ℕ)) → In s (generated l) → In s l × (is_maximal_in l s ≡ true)
from_generated s l i = from_filter (is_maximal_in l) s l (from_simplices s _ i)

generated_increasing : (l : List (List ℕ)) → is_increasing simplex_cmp (generated l) ≡ true
generated_increasing l = is_increasing-in_order nat_list_cmp_total (filter (is_maximal_in l) l)

-- what is generated is a complex
pub is_complex-generated : (l : List (List ℕ)) → is_complex (generated l) ≡ true
is_complex-generated l = and_both _ _ (generated_increasing l)
    (all_from (is_maximal_in (generated l)) (generated l) (λ s i. maximal_from (generated l) s (λ t j. maximal_at l s t (from_generated s l i).1 (from_generated t l j).0)))

-- a complex is what its facets generate
pub generated_again : (c : List (List ℕ)) → is_complex c ≡ true → generated c ≡ c
generated_again c h =
    let up : is_increasing simplex_cmp c ≡ true = and_left _ _ h in
    let top : list_all (is_maximal_in c) c ≡ true = and_right (is_increasing simplex_cmp c) _ h in
    same_sets nat_list_cmp_total exact (generated c) c (generated_increasing c) up (λ s i. (from_generated s c i).0) (λ s i. in_generated s c i (all_at (is_maximal_in c) s c top i))

-- lists with the same members generate one complex
pub generated_same : (l m : List (List ℕ)) → ((s : List ℕ) → In s l → In s m) → ((s : List ℕ) → In s m → In s l) → generated l ≡ generated m
generated_same l m f g =
    same_sets nat_list_cmp_total exact (generated l) (generated m) (generated_increasing l) (generated_increasing m)
    (λ s i. let r = from_generated s l i in in_generated s m (f s r.0) (maximal_from m s (λ t j. maximal_at l s t r.1 (g t j))))
    (λ s i. let r = from_generated s m i in in_generated s l (g s r.0) (maximal_from l s (λ t j. maximal_at m s t r.1 (f t j))))

-- a face lies in a facet
pub face_at : (c : List (List ℕ)) (s : List ℕ) → is_face c s ≡ true → (t : List ℕ) × In t c × (is_within s t ≡ true)
face_at c s h = any_at (is_within s) c h

pub face_from : (c : List (List ℕ)) (s t : List ℕ) → In t c → is_within s t ≡ true → is_face c s ≡ true
face_from c s t i h = any_from (is_within s) t c i h

abbrev pub is_set : List ℕ → Bool
is_set = is_increasing nat_cmp

-- simplices are sets
pub without_set : (s : List ℕ) (a : ℕ) → is_set s ≡ true → is_set (without s a) ≡ true
without_set s a h = is_increasing-filter nat_cmp _ s h

pub verts_increase : (c : List (List ℕ)) → is_increasing nat_cmp (verts c) ≡ true
verts_increase c = is_increasing-in_order nat_cmp_total (flat_map (λ s. s) c)

pub sets_of : (c : List (List ℕ)) → list_all is_simplex c ≡ true → list_all is_set c ≡ true
sets_of c h = all_from is_set c (λ s i. rising_of s (all_at is_simplex s c h i))

sets_at : (l : List (List ℕ)) (s : List ℕ) → list_all is_set l ≡ true → In s l → is_set s ≡ true
sets_at l s h i = all_at is_set s l h i

-- of sets one of which lies in the other, the greater is no proper face of the lesser
no_proper : (s t : List ℕ) → is_set s ≡ true → is_set t ≡ true → is_within s t ≡ true → is_proper_face t s ≡ false
no_proper s t h k w = false_from _ (λ p.
    let back : is_within t s ≡ true = and_left _ _ p in
    true≢false (sym (ap (is_same t) (same_labels s t h k w back) ∙ same_itself t) ∙ not_true (is_same t s) (and_right (is_within t s) _ p)))

-- above a member there is one that no member of k lies properly above
climb : (l k : List (List ℕ)) → list_all is_set l ≡ true → ((x : List ℕ) → In x k → In x l) → (s : List ℕ) → In s l → (t : List ℕ) × In t l × (is_within s t ≡ true) × (is_maximal_in k t ≡ true)
climb l [] h sub s i = (s, i, within_itself s, refl)
climb l (x ∷ k) h sub s i =
    let below = climb l k h (λ y j. sub y (later j)) s i in
    let t = below.0 in
    elim (is_proper_face t x) as (λ v. is_proper_face t x ≡ v → (t : List ℕ) × In t l × (is_within s t ≡ true) × (is_maximal_in (x ∷ k) t ≡ true)) [
      | true ↦ λ e.
          let above = climb l k h (λ y j. sub y (later j)) x (sub x first) in (
            above.0,
            above.1,
            within_trans s x above.0 (within_trans s t x below.2 (and_left _ _ e)) above.2,
            ap (λ b. not (b || list_any (is_proper_face above.0) k)) (no_proper x above.0 (sets_at l x h (sub x first)) (sets_at l above.0 h above.1) above.2) ∙ above.3,
          )
      | false ↦ λ e. (t, below.1, below.2, ap (λ b. not (b || list_any (is_proper_face t) k)) e ∙ below.3)
    ] refl

-- what is generated has the faces of the list
pub is_face-generated : (l : List (List ℕ)) (s : List ℕ) → list_all is_set l ≡ true → is_face (generated l) s ≡ is_face l s
is_face-generated l s h = agree _ _
    (λ a. let r = face_at (generated l) s a in face_from l s r.0 (from_generated r.0 l r.1).0 r.2)
    (λ a. let r = face_at l s a in let top = climb l l h (λ x i. i) r.0 r.1 in
    face_from (generated l) s top.0 (in_generated top.0 l top.1 top.3) (within_trans s r.0 top.0 r.2 top.2))

-- a complex is known by its faces: one half
half_same : (c d : List (List ℕ)) → list_all is_set c ≡ true → list_all is_set d ≡ true → is_complex c ≡ true → ((s : List ℕ) → is_set s ≡ true → is_face c s ≡ is_face d s) → (s : List ℕ) → In s c → In s d
half_same c d h k cx f s i =
    let r = face_at d s (sym (f s (sets_at c s h i)) ∙ face_from c s s i (within_itself s)) in
    let u = face_at c r.0 (f r.0 (sets_at d r.0 k r.1) ∙ face_from d r.0 r.0 r.1 (within_itself r.0)) in
    let top : is_maximal_in c s ≡ true = all_at (is_maximal_in c) s c (and_right (is_increasing simplex_cmp c) _ cx) i in
    let same : is_same s u.0 ≡ true = by (is_within s u.0) (is_same s u.0) (within_trans s r.0 u.0 r.2 u.2) (maximal_at c s u.0 top u.1) in
    let back : is_within r.0 s ≡ true = subst (λ x. is_within r.0 x ≡ true) (sym (same_from s u.0 same)) u.2 in
    subst (λ x. In x d) (sym (same_labels s r.0 (sets_at c s h i) (sets_at d r.0 k r.1) r.2 back)) r.1
  where
    by : (v w : Bool) → v ≡ true → (v && not w) ≡ false → w ≡ true
    by true true a b = refl
    by true false a b = sym b
    by false w a b = absurd (true≢false (sym a))

pub same_complex : (c d : List (List ℕ)) → list_all is_set c ≡ true → list_all is_set d ≡ true → is_complex c ≡ true → is_complex d ≡ true → ((s : List ℕ) → is_set s ≡ true → is_face c s ≡ is_face d s) → c ≡ d
same_complex c d h k cx dx f =
    same_sets nat_list_cmp_total exact c d (and_left _ _ cx) (and_left _ _ dx) (half_same c d h k cx f) (half_same d c k h dx (λ s g. sym (f s g)))

-- ---- faces and parts

-- the subsets of a set are the sets that lie in it
pub from_subsets : (s u : List ℕ) → is_set s ≡ true → In u (subsets s) → (is_set u ≡ true) × (is_within u s ≡ true)
from_subsets [] u h i = elim (cases i) [ inl e ↦ (ap is_set e, ap (λ v. is_within v []) e) | inr j ↦ absurd (none u j) ]
from_subsets (a ∷ s) u h i =
    elim (in_either u (map (λ t. a ∷ t) (subsets s)) (subsets s) i) [
      | inl j ↦
          let r = from_map (λ t. a ∷ t) u (subsets s) j in
          let q = from_subsets s r.0 (rest_increasing a s h) r.1 in (
            ap is_set r.2 ∙ front_increasing a r.0 (λ c k. above_at a s c h (within_in r.0 s c q.1 k)) q.0,
            ap (λ v. is_within v (a ∷ s)) r.2 ∙ in_within (a ∷ r.0) (a ∷ s) (λ c k. elim (cases k) [ inl e ↦ at_head c a s e | inr m ↦ later (within_in r.0 s c q.1 m) ]),
          )
      | inr j ↦ let q = from_subsets s u (rest_increasing a s h) j in (q.0, in_within u (a ∷ s) (λ c k. later (within_in u s c q.1 k)))
    ]

pub in_subsets : (s u : List ℕ) → is_set s ≡ true → is_set u ≡ true → is_within u s ≡ true → In u (subsets s)
in_subsets [] [] h k w = first
in_subsets [] (b ∷ u) h k w = absurd (true≢false (sym w))
in_subsets (a ∷ s) [] h k w = in_right [] (map (λ t. a ∷ t) (subsets s)) _ (in_subsets s [] (rest_increasing a s h) refl refl)
in_subsets (a ∷ s) (b ∷ u) h k w =
    elim (cases (within_in (b ∷ u) (a ∷ s) b w first)) [
      | inl e ↦
          let sub : is_within u s ≡ true = in_within u s (λ c j. let l = above_at b u c k j in elim (cases (within_in (b ∷ u) (a ∷ s) c w (later j))) [ inl f ↦ absurd (omega arith) | inr m ↦ m ]) in
          in_left (b ∷ u) (map (λ t. a ∷ t) (subsets s)) _ (subst (λ x. In (x ∷ u) (map (λ t. a ∷ t) (subsets s))) (sym e) (in_map (λ t. a ∷ t) u (subsets s) (in_subsets s u (rest_increasing a s h) (rest_increasing b u k) sub)))
      | inr i ↦
          let low = above_at a s b h i in
          let sub : is_within (b ∷ u) s ≡ true = in_within (b ∷ u) s (λ c j. elim (cases j) [
            | inl e ↦ subst (λ x. In x s) (sym e) i
            | inr m ↦ let l = above_at b u c k m in elim (cases (within_in (b ∷ u) (a ∷ s) c w (later m))) [ inl f ↦ absurd (omega arith) | inr n ↦ n ]
          ]) in
          in_right (b ∷ u) (map (λ t. a ∷ t) (subsets s)) _ (in_subsets s (b ∷ u) (rest_increasing a s h) k sub)
    ]

-- the members of `faces` are the faces
pub from_faces : (c : List (List ℕ)) (s : List ℕ) → list_all is_set c ≡ true → In s (faces c) → (is_set s ≡ true) × (is_face c s ≡ true)
from_faces c s h i =
    let r = from_flat_map subsets s c (from_simplices s (flat_map subsets c) i) in
    let q = from_subsets r.0 s (sets_at c r.0 h r.1) r.2 in
    (q.0, face_from c s r.0 r.1 q.1)

pub in_faces : (c : List (List ℕ)) (s : List ℕ) → list_all is_set c ≡ true → is_set s ≡ true → is_face c s ≡ true → In s (faces c)
in_faces c s h k f =
    let r = face_at c s f in
    in_simplices s (flat_map subsets c) (in_flat_map subsets r.0 s c r.1 (in_subsets r.0 s (sets_at c r.0 h r.1) k r.2))

pub face_below : (c : List (List ℕ)) (s t : List ℕ) → is_within s t ≡ true → is_face c t ≡ true → is_face c s ≡ true
face_below c s t w f = let r = face_at c t f in face_from c s r.0 r.1 (within_trans s t r.0 w r.2)

-- a family of faces that is closed under subsets is the set of faces of its complex
pub is_face-faces_where : (test : List ℕ → Bool) (c : List (List ℕ)) → list_all is_set c ≡ true → ((s t : List ℕ) → is_set s ≡ true → is_set t ≡ true → is_within s t ≡ true → test t ≡ true → test s ≡ true) → (s : List ℕ) → is_set s ≡ true → is_face (faces_where test c) s ≡ (is_face c s && test s)
is_face-faces_where test c h down s k =
    is_face-generated family s sets ∙ agree (is_face family s) (is_face c s && test s)
    (λ f. let r = face_at family s f in let q = from_filter test r.0 (faces c) r.1 in let p = from_faces c r.0 h q.0 in
    and_both _ _ (face_below c s r.0 r.2 p.1) (down s r.0 k p.0 r.2 q.1))
    (λ f. face_from family s s (in_filter test s (faces c) (in_faces c s h k (and_left _ _ f)) (and_right (is_face c s) _ f)) (within_itself s))
  where
    family : List (List ℕ)
    family = filter test (faces c)

    sets : list_all is_set family ≡ true
    sets = all_from is_set family (λ t i. (from_faces c t h (from_filter test t (faces c) i).0).0)
