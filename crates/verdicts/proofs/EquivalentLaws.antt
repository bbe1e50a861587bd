-- A yes of `equivalent` is a sound certificate.
use Rattle.std.proofs.Common.{◌≡◌, ℕ, zero, suc, true, List, [], ◌∷◌, ◌++◌, map, length, refl, sym, ap, ◌∙◌, subst, inl, inr, Option, Some, None, reverse}
use Rattle.std.specs.Prelude.{slice_get}
use Rattle.std.specs.List.{list_all, zip}
use Rattle.std.proofs.lemmas.List.{map-append, reverse-append}
use Rattle.std.proofs.lemmas.Cmp.{nat_list_cmp_total, lists_total}
use Rattle.simplex.specs.declared.flip.Flip.{Flip}
use Rattle.simplex.specs.Flip.{inverse}
use Rattle.simplex.specs.Simplex.{is_label, is_simplex, without}
use Rattle.simplex.proofs.InOrderLaws.{and_left, and_right, and_both, itself}
use Rattle.simplex.proofs.Members.{In, later, cases, none, at_head, all_at, all_from, from_filter, from_map, from_flat_map}
use Rattle.simplex.proofs.SimplexLaws.{from_without}
use Rattle.facet_set.specs.Complex.{verts}
use Rattle.facet_set.specs.Flips.{after, goes, same_facets, undoing}
use Rattle.facet_set.specs.Maps.{image, is_map}
use Rattle.facet_set.proofs.FlipLaws.{same_list}
use Rattle.facet_set.proofs.VertexLaws.{verts_labels}
use Rattle.relabelling.specs.Bijections.{arrangements, is_map_to, maps, first_map}
use Rattle.flip_certificate.specs.Lines.{is_start, is_pair}
use Rattle.flip_certificate.specs.Valid.{is_pure_from}
use Rattle.flip_certificate.specs.declared.certificate.Certificate.{Certificate}
use Rattle.flip_certificate.specs.declared.certificate.Certificate.TheVariants.{Equivalent}
use Rattle.verdicts.specs.Laws.{EquivalentYes}
use Rattle.verdicts.specs.Ready.{IsReady}
use Rattle.verdicts.specs.Sound.{IsSound, YesIsSound}
use Rattle.verdicts.specs.Verdicts.{equivalent_of, equivalence_by, found, reached}
use Rattle.verdicts.specs.declared.verdict.Verdict.{Verdict}
use Rattle.verdicts.specs.declared.verdict.Verdict.TheVariants.{Yes}
use Rattle.verdicts.proofs.WayLaws.{goal_way, goal_flips, goal_simple, goal_back, undoing_flips}

-- ---- the first map

-- its images are vertices
from_arrangements : (n : ℕ) (s : List ℕ) (t : List ℕ) (x : ℕ) → In t (arrangements n s) → In x t → In x s
from_arrangements zero s t x i j = elim (cases i) [ inl e ↦ absurd (none x (subst (λ u. In x u) e j)) | inr k ↦ absurd (none t k) ]
from_arrangements (suc n) s t x i j =
    let r = from_flat_map (λ a. map (λ t. a ∷ t) (arrangements n (without s a))) t s i in
    let q = from_map (λ t. r.0 ∷ t) t (arrangements n (without s r.0)) r.2 in
    elim (cases (subst (λ u. In x u) q.2 j)) [
      | inl e ↦ subst (λ y. In y s) (sym e) r.1
      | inr k ↦ (from_without s r.0 x (from_arrangements n (without s r.0) q.0 x q.1 k)).0
    ]

zipped : (xs ys : List ℕ) (p : ℕ × ℕ) → In p (zip xs ys) → In p.0 xs × In p.1 ys
zipped [] ys p i = absurd (none p i)
zipped (x ∷ xs) [] p i = absurd (none p i)
zipped (x ∷ xs) (y ∷ ys) p i = elim (cases i) [
  | inl e ↦ (at_head p.0 x xs (ap (λ (q : ℕ × ℕ). q.0) e), at_head p.1 y ys (ap (λ (q : ℕ × ℕ). q.1) e))
  | inr j ↦ let r = zipped xs ys p j in (later r.0, later r.1)
]

head_in : {X : Type 0} (xs : List X) (x : X) → slice_get xs 0 ≡ Some x → In x xs
head_in [] x e = cc
head_in (y ∷ xs) x e = at_head x y xs cc

module _ (c d : List (List ℕ)) (m : List (ℕ × ℕ)) (e : first_map c d ≡ Some m) where
  is_one : In m (map (zip (verts c)) (arrangements (length (verts c)) (verts d))) × (is_map_to c d m ≡ true)
  is_one = from_filter (is_map_to c d) m (map (zip (verts c)) (arrangements (length (verts c)) (verts d))) (head_in (maps c d) m e)

  map_is : is_map m c ≡ true
  map_is = and_left _ _ is_one.1

  image_is : image m c ≡ d
  image_is = same_list (image m c) d (and_right (is_map m c) _ is_one.1)

  map_pairs : list_all is_simplex c ≡ true → list_all is_simplex d ≡ true → list_all is_pair m ≡ true
  map_pairs simple_c simple_d =
      let r = from_map (zip (verts c)) m (arrangements (length (verts c)) (verts d)) is_one.0 in
      all_from is_pair m (λ p i.
      let q = zipped (verts c) r.0 p (subst (λ l. In p l) r.2 i) in
      and_both _ _ (all_at is_label p.0 (verts c) (verts_labels c simple_c) q.0)
      (all_at is_label p.1 (verts d) (verts_labels d simple_d) (from_arrangements (length (verts c)) (verts d) r.0 p.1 r.1 q.1)))

-- ---- the certificate

module _ (c d : List (List ℕ)) (budget seed : ℕ) (start_c : is_start c ≡ true) (start_d : is_start d ≡ true) (pure_c : is_pure_from 1 c ≡ true) (pure_d : is_pure_from 1 d ≡ true) where
  module _ (m : List (ℕ × ℕ)) (e : first_map (reached c budget seed) (reached d budget seed) ≡ Some m) where
    abbrev back : List Flip
    back = undoing (found d budget seed)

    abbrev middle : List (List ℕ)
    middle = image m (reached c budget seed)

    middle_is : middle ≡ reached d budget seed
    middle_is = image_is (reached c budget seed) (reached d budget seed) m e

    middle_goes : goes middle back ≡ true
    middle_goes = ap (λ x. goes x back) middle_is ∙ (goal_back d budget seed start_d).0

    middle_leads : same_facets (after middle back) d ≡ true
    middle_leads = ap (λ x. same_facets x d) (ap (λ x. after x back) middle_is ∙ (goal_back d budget seed start_d).1) ∙ itself (lists_total nat_list_cmp_total) d

    is_sound : IsSound (Equivalent c d (found c budget seed) m back)
    is_sound = record {
      valid = and_both _ _ (and_both _ _ (and_both _ _ (and_both _ _ (and_both _ _ pure_c pure_d) (goal_way c budget seed)) (map_is (reached c budget seed) (reached d budget seed) m e)) middle_goes) middle_leads;
      held = and_both _ _ (and_both _ _ (and_both _ _ start_c start_d) (goal_flips c budget seed start_c)) (undoing_flips (found d budget seed) (goal_flips d budget seed start_d));
      shaped = map_pairs (reached c budget seed) (reached d budget seed) m e (goal_simple c budget seed start_c) (goal_simple d budget seed start_d);
    }

  given_yes : (o : Option (List (ℕ × ℕ))) (k : Certificate) → first_map (reached c budget seed) (reached d budget seed) ≡ o → equivalence_by o c d budget seed ≡ Yes k
      → IsSound k × ((m : List (ℕ × ℕ)) × (k ≡ Equivalent c d (found c budget seed) m (undoing (found d budget seed))))
  given_yes (Some m) k e f =
      let same : Equivalent c d (found c budget seed) m (undoing (found d budget seed)) ≡ k = cc in
      (subst IsSound same (is_sound m e), (m, sym same))
  given_yes None k e f = cc

  given_sound : (o : Option (List (ℕ × ℕ))) → first_map (reached c budget seed) (reached d budget seed) ≡ o → YesIsSound (equivalence_by o c d budget seed)
  given_sound (Some m) e = is_sound m e
  given_sound None e = tt

pub equivalent_yes_lem : EquivalentYes
equivalent_yes_lem c d budget seed k start_c start_d pure_c pure_d e = given_yes c d budget seed start_c start_d pure_c pure_d (first_map (reached c budget seed) (reached d budget seed)) k refl e

pub equivalent_sound : (c d : List (List ℕ)) (budget seed : ℕ) (v : Verdict) → IsReady 1 c budget → IsReady 1 d budget → v ≡ equivalent_of c d budget seed → YesIsSound v
equivalent_sound c d budget seed v h k e = subst YesIsSound (sym e) (given_sound c d budget seed h.start k.start h.pure k.pure (first_map (reached c budget seed) (reached d budget seed)) refl)

-- ---- the inverses, last first

pub undoing_is : (l : List Flip) → map inverse (reverse l) ≡ undoing l
undoing_is [] = refl
undoing_is (m ∷ l) = ap (map inverse) (reverse-append (m ∷ []) l) ∙ map-append inverse (reverse l) (m ∷ []) ∙ ap (λ r. r ++ inverse m ∷ []) (undoing_is l)
