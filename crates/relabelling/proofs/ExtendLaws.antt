-- The one bijection with given images of a facet.
use Rattle.std.proofs.Common.{◌≡◌, ℕ, ◌≤◌, Bool, true, false, cond, List, [], ◌∷◌, map, length, refl, sym, ap, ◌∙◌, subst, inl, inr, arith, Some, None}
use Rattle.std.specs.Prelude.{◌==◌, nat_eq, IsSome}
use Rattle.std.specs.Bool.{IsTrue}
use Rattle.std.specs.HashMap.{HashMap, get}
use Rattle.std.specs.Map.{lookup}
use Rattle.std.specs.Ordering.{nat_cmp}
use Rattle.std.specs.Cmp.Lexicographic.{pointwise}
use Rattle.std.specs.List.{list_all, find, zip}
use Rattle.std.proofs.lemmas.Cmp.{nat_list_cmp_total}
use Rattle.simplex.specs.InOrder.{is_increasing}
use Rattle.simplex.specs.Simplex.{is_label, is_simplex}
use Rattle.simplex.specs.SimplexFault.{set}
use Rattle.simplex.proofs.FaultLaws.{length-set}
use Rattle.simplex.proofs.Filled.{labels_of, rising_of}
use Rattle.simplex.proofs.InOrderLaws.{and_left, and_right, and_both, itself}
use Rattle.simplex.proofs.Members.{In, first, later, cases, none, all_at, all_from, in_map, from_map, is_member_at}
use Rattle.simplex.proofs.SimplexLaws.{in_within, within_length, above_at, rest_increasing}
use Rattle.simplex.proofs.Decided.{false_from, false_at, equal_at, equal_from}
use Rattle.facet_set.specs.Complex.{is_complex, stands_in, verts}
use Rattle.facet_set.specs.Flips.{same_facets}
use Rattle.facet_set.specs.Maps.{image, image_of, is_map, relabelled, becomes}
use Rattle.facet_set.proofs.ComplexLaws.{exact, from_generated, verts_increase}
use Rattle.facet_set.proofs.FlipLaws.{same_list}
use Rattle.facet_set.proofs.GeneratedLaws.{same_at, same_is}
use Rattle.facet_set.proofs.OptionLaws.{in_verts, from_verts}
use Rattle.facet_set.proofs.MapLaws.{firsts, seconds, image_pair, in_relabelled, from_relabelled}
use Rattle.facet_set.proofs.SetLaws.{in_set, from_set, set_up, distinct_length, length_distinct, length_images}
use Rattle.relabelling.specs.Bijections.{is_map_to, maps, goes_to, extension}
use Rattle.relabelling.specs.Walks.{IsKnown, AreLabels, Extends, NoneAgrees, map_of}
use Rattle.relabelling.proofs.CarryLaws.{facet_carried}
use Rattle.relabelling.proofs.MapsLaws.{in_maps, from_maps, firsts_at, firsts_distinct, same_pairs, images_there}
use Rattle.relabelling.proofs.WalkLaws.{agrees_at, becomes_at, becomes_label}

-- ---- the given images
pub given_known : (s given : List ℕ) (a : ℕ) → length given ≡ length s → In a s → IsSome (lookup (nat_eq a) (zip s given))
given_known [] given a n i = absurd (none a i)
given_known (x ∷ s) [] a n i = absurd (omega arith)
given_known (x ∷ s) (y ∷ given) a n i =
    elim (nat_eq a x) as (λ v. nat_eq a x ≡ v → IsSome (cond v (Some y) (lookup (nat_eq a) (zip s given)))) [
      | true ↦ λ h. refl
      | false ↦ λ h. elim (cases i) [ inl e ↦ absurd (false_at (nat_eq a x) h (equal_from a x e)) | inr j ↦ given_known s given a (omega arith) j ]
    ] refl

pub given_labels : (s given : List ℕ) (a b : ℕ) → list_all is_label given ≡ true → lookup (nat_eq a) (zip s given) ≡ Some b → IsTrue (is_label b)
given_labels [] given a b h e = cc
given_labels (x ∷ s) [] a b h e = cc
given_labels (x ∷ s) (y ∷ given) a b h e =
    elim (nat_eq a x) as (λ v. cond v (Some y) (lookup (nat_eq a) (zip s given)) ≡ Some b → IsTrue (is_label b)) [
      | true ↦ λ g. let same : y ≡ b = cc in subst (λ z. IsTrue (is_label z)) same (and_left _ _ h)
      | false ↦ λ g. given_labels s given a b (and_right (is_label y) _ h) g
    ] e

given_under : (m : List (ℕ × ℕ)) (s given : List ℕ) (a b : ℕ) → map (image_of m) s ≡ given → lookup (nat_eq a) (zip s given) ≡ Some b → image_of m a ≡ b
given_under m [] given a b h e = cc
given_under m (x ∷ s) [] a b h e = cc
given_under m (x ∷ s) (y ∷ given) a b h e =
    elim (nat_eq a x) as (λ v. nat_eq a x ≡ v → cond v (Some y) (lookup (nat_eq a) (zip s given)) ≡ Some b → image_of m a ≡ b) [
      | true ↦ λ k g. let same : y ≡ b = cc in let head : image_of m x ≡ y = cc in ap (image_of m) (equal_at a x k) ∙ head ∙ same
      | false ↦ λ k g. let rest : map (image_of m) s ≡ given = cc in given_under m s given a b rest g
    ] refl e

-- the labels of the facet become the given images, where the table has those
given_back : (f : ℕ → ℕ) (s given : List ℕ) → is_increasing nat_cmp s ≡ true → length given ≡ length s → ((a b : ℕ) → In a s → lookup (nat_eq a) (zip s given) ≡ Some b → f a ≡ b) → map f s ≡ given
given_back f [] [] up n h = refl
given_back f [] (y ∷ given) up n h = absurd (omega arith)
given_back f (x ∷ s) [] up n h = absurd (omega arith)
given_back f (x ∷ s) (y ∷ given) up n h =
    let head : f x ≡ y = h x y first (ap (λ v. cond v (Some y) (lookup (nat_eq x) (zip s given))) (equal_from x x refl)) in
    let rest : map f s ≡ given = given_back f s given (rest_increasing x s up) (omega arith) (λ a b i e.
    h a b (later i) (ap (λ v. cond v (Some y) (lookup (nat_eq a) (zip s given))) (false_from (nat_eq a x) (λ k. let less = above_at x s a up i in let same = equal_at a x k in absurd (omega arith))) ∙ e)) in
    λ i. head i ∷ rest i

-- ---- the pairs of labels and their images
abbrev pub paired : (ℕ → ℕ) → List ℕ → List (ℕ × ℕ)
paired f vs = map (λ a. (a, f a)) vs

firsts_paired : (f : ℕ → ℕ) (vs : List ℕ) → firsts (paired f vs) ≡ vs
firsts_paired f [] = refl
firsts_paired f (a ∷ vs) = ap (λ l. a ∷ l) (firsts_paired f vs)

image_paired : (f : ℕ → ℕ) (vs : List ℕ) (a : ℕ) → In a vs → image_of (paired f vs) a ≡ f a
image_paired f [] a i = absurd (none a i)
image_paired f (v ∷ vs) a i =
    elim (v == a) as (λ w. (v == a) ≡ w → cond w (f v) (image_of (paired f vs) a) ≡ f a) [
      | true ↦ λ e. ap f (equal_at v a e)
      | false ↦ λ e. elim (cases i) [ inl g ↦ absurd (false_at (v == a) e (equal_from v a (sym g))) | inr j ↦ image_paired f vs a j ]
    ] refl

pub paired_labels : (f : ℕ → ℕ) (vs : List ℕ) → ((a : ℕ) → In a vs → IsTrue (is_label (f a))) → list_all (λ (p : ℕ × ℕ). is_label p.1) (paired f vs) ≡ true
paired_labels f [] h = refl
paired_labels f (v ∷ vs) h = and_both _ _ (h v first) (paired_labels f vs (λ a i. h a (later i)))

-- ---- numbers of vertices
-- the vertices of the image are images of vertices
images_only : (c d : List (List ℕ)) (m : List (ℕ × ℕ)) → firsts m ≡ verts c → same_facets (image m c) d ≡ true → (b : ℕ) → In b (verts d) → In b (set (seconds m))
images_only c d m f g b i =
    let s = from_verts d b i in
    let t = from_map (relabelled m) s.0 c (from_generated s.0 (map (relabelled m) c) (subst (λ l. In s.0 l) (sym (same_list (image m c) d g)) s.1)).0 in
    let a = from_relabelled m t.0 b (subst (λ l. In b l) t.2 s.2) in
    in_set b (seconds m) (subst (λ z. In z (seconds m)) (sym a.2) (in_map (λ (p : ℕ × ℕ). p.1) (a.0, image_of m a.0) m (image_pair m a.0 (subst (λ l. In a.0 l) (sym f) (in_verts c t.0 a.0 t.1 a.1)))))

no_more : (c d : List (List ℕ)) (m : List (ℕ × ℕ)) → firsts m ≡ verts c → same_facets (image m c) d ≡ true → length (verts d) ≤ length (set (seconds m))
no_more c d m f g = within_length (verts d) (set (seconds m)) (verts_increase d) (set_up (seconds m)) (in_within (verts d) (set (seconds m)) (images_only c d m f g))

seconds_long : (c : List (List ℕ)) (m : List (ℕ × ℕ)) → firsts m ≡ verts c → length (seconds m) ≡ length (verts c)
seconds_long c m f = length_images (λ (p : ℕ × ℕ). p.1) m ∙ sym (length_images (λ (p : ℕ × ℕ). p.0) m) ∙ ap length f

-- a bijection leaves the number of vertices
pub as_many : (c d : List (List ℕ)) (m : List (ℕ × ℕ)) → list_all is_simplex c ≡ true → is_complex c ≡ true → is_map_to c d m ≡ true → length (verts c) ≡ length (verts d)
as_many c d m h k g =
    let f = firsts_at c m (and_left _ _ g) in
    let long = seconds_long c m f in
    let whole = length_distinct (seconds m) (and_right (pointwise nat_eq (firsts m) (verts c)) _ (and_left _ _ g)) in
    let most = no_more c d m f (and_right (is_map m c) _ g) in
    let least = within_length (set (seconds m)) (verts d) (set_up (seconds m)) (verts_increase d) (in_within (set (seconds m)) (verts d) (λ b i. images_there c d m h k g b (from_set b (seconds m) i))) in
    omega arith

-- pairs that carry c to as many vertices are a bijection
whole_map : (c d : List (List ℕ)) (m : List (ℕ × ℕ)) → firsts m ≡ verts c → length (verts c) ≡ length (verts d) → same_facets (image m c) d ≡ true → is_map_to c d m ≡ true
whole_map c d m f n g =
    let long = seconds_long c m f in
    let most = no_more c d m f g in
    let few = length-set (seconds m) in
    and_both _ _
    (and_both _ _ (ap (λ l. pointwise nat_eq l (verts c)) f ∙ same_is (verts c) (verts c) ∙ itself nat_list_cmp_total (verts c)) (distinct_length (seconds m) (omega arith)))
    g

-- the given images are labels where a bijection gives them
pub given_are_labels : (c d : List (List ℕ)) (m : List (ℕ × ℕ)) (s given : List ℕ) → list_all is_simplex c ≡ true → is_complex c ≡ true → list_all is_simplex d ≡ true → In s c → is_map_to c d m ≡ true → goes_to m s given ≡ true → list_all is_label given ≡ true
given_are_labels c d m s given h k l i g t =
    ap (list_all is_label) (sym (same_at (map (image_of m) s) given t)) ∙ all_from is_label (map (image_of m) s) (λ b j.
    let a = from_map (image_of m) b s j in
    all_at is_label b (relabelled m s) (labels_of (relabelled m s) (all_at is_simplex (relabelled m s) d l (facet_carried c d m s h k g i))) (subst (λ z. In z (relabelled m s)) (sym a.2) (in_relabelled m s a.0 a.1)))

-- ---- the one that was sought
pub find_one : {X : Type 0} (q : X → Bool) (xs : List X) (x : X) → ((y : X) → In y xs → q y ≡ true → y ≡ x) → In x xs → q x ≡ true → find q xs ≡ Some x
find_one q [] x f i h = absurd (none x i)
find_one q (y ∷ xs) x f i h =
    elim (q y) as (λ v. q y ≡ v → cond v (Some y) (find q xs) ≡ Some x) [
      | true ↦ λ e. ap Some (f y first e)
      | false ↦ λ e. find_one q xs x (λ z j. f z (later j)) (elim (cases i) [ inl g ↦ absurd (false_at (q y) e (ap q (sym g) ∙ h)) | inr j ↦ j ]) h
    ] refl

find_none : {X : Type 0} (q : X → Bool) (xs : List X) → ((y : X) → In y xs → q y ≡ true → ⊥) → find q xs ≡ None
find_none q [] f = refl
find_none q (y ∷ xs) f = ap (λ v. cond v (Some y) (find q xs)) (false_from (q y) (f y first)) ∙ find_none q xs (λ z j. f z (later j))

pub no_extension : (c d : List (List ℕ)) (s given : List ℕ) → ((m : List (ℕ × ℕ)) → is_map_to c d m ≡ true → goes_to m s given ≡ true → ⊥) → extension c d s given ≡ None
no_extension c d s given f = find_none (λ m. goes_to m s given) (maps c d) (λ m i h. f m (from_maps c d m i) h)

-- the images that a walk gives are the only ones that there can be
module _ {S : Type 0} (c d : List (List ℕ)) (s given : List ℕ) (g t : HashMap ℕ ℕ S) (simplices : list_all is_simplex c ≡ true) (complex : is_complex c ≡ true) (start : In s c) (sized : length given ≡ length s)
    (has_given : (a : ℕ) → get nat_eq g a ≡ lookup (nat_eq a) (zip s given)) (extends : Extends c d g t) (known : IsKnown t (verts c)) where
  only_one : (m : List (ℕ × ℕ)) → is_map_to c d m ≡ true → goes_to m s given ≡ true → m ≡ paired (becomes t) (verts c)
  only_one m h k =
      same_pairs m (paired (becomes t) (verts c)) (firsts_at c m (and_left _ _ h) ∙ sym (firsts_paired (becomes t) (verts c))) (firsts_distinct c m (and_left _ _ h)) (λ a i.
      let at = subst (λ l. In a l) (firsts_at c m (and_left _ _ h)) i in
      sym (image_paired (becomes t) (verts c) a at ∙ agrees_at t m a (extends.agrees m h (λ x y e. given_under m s given x y (same_at (map (image_of m) s) given k) (sym (has_given x) ∙ e))) (known a at)))

  goes_there : goes_to (paired (becomes t) (verts c)) s given ≡ true
  goes_there =
      ap (λ l. pointwise nat_eq l given) (given_back (image_of (paired (becomes t) (verts c))) s given (rising_of s (all_at is_simplex s c simplices start)) sized (λ a b i e.
      image_paired (becomes t) (verts c) a (in_verts c s a start i) ∙ becomes_at t a b (extends.kept a b (has_given a ∙ e))))
      ∙ same_is given given ∙ itself nat_list_cmp_total given

  pub whole_extension : length (verts c) ≡ length (verts d) → map_of c d (verts c) t ≡ extension c d s given
  whole_extension n =
      elim (same_facets (image (paired (becomes t) (verts c)) c) d) as (λ b. same_facets (image (paired (becomes t) (verts c)) c) d ≡ b → cond b (Some (paired (becomes t) (verts c))) None ≡ extension c d s given) [
        | true ↦ λ b. sym (find_one (λ m. goes_to m s given) (maps c d) (paired (becomes t) (verts c)) (λ m i k. only_one m (from_maps c d m i) k)
            (in_maps c d (paired (becomes t) (verts c)) simplices complex (whole_map c d (paired (becomes t) (verts c)) (firsts_paired (becomes t) (verts c)) n b)) goes_there)
        | false ↦ λ b. sym (no_extension c d s given (λ m g k. false_at (same_facets (image (paired (becomes t) (verts c)) c) d) b (ap (λ z. same_facets (image z c) d) (sym (only_one m g k)) ∙ and_right (is_map m c) _ g)))
      ] refl

-- no bijection has the given images where none agrees with them
pub none_extension : {S : Type 0} (c d : List (List ℕ)) (s given : List ℕ) (g : HashMap ℕ ℕ S) → ((a : ℕ) → get nat_eq g a ≡ lookup (nat_eq a) (zip s given)) → NoneAgrees c d g → None ≡ extension c d s given
none_extension c d s given g has f = sym (no_extension c d s given (λ m h k. f m h (λ x y e. given_under m s given x y (same_at (map (image_of m) s) given k) (sym (has x) ∙ e))))

-- no bijection changes the number of vertices
pub apart_numbers : (c d : List (List ℕ)) (s given vs ws : List ℕ) (n k : ℕ) → list_all is_simplex c ≡ true → is_complex c ≡ true → vs ≡ verts c → ws ≡ verts d → n ≡ length vs → k ≡ length ws → (n ≡ k → ⊥) → None ≡ extension c d s given
apart_numbers c d s given vs ws n k h g p q a b f = sym (no_extension c d s given (λ m l t. f (a ∙ ap length p ∙ as_many c d m h g l ∙ sym (ap length q) ∙ sym b)))

-- no bijection has images that are no labels
pub apart_labels : (c d : List (List ℕ)) (s given : List ℕ) (b : Bool) → list_all is_simplex c ≡ true → is_complex c ≡ true → list_all is_simplex d ≡ true → In s c → b ≡ list_all is_label given → b ≡ false → None ≡ extension c d s given
apart_labels c d s given b h k l i e n = sym (no_extension c d s given (λ m g t. false_at (list_all is_label given) (sym e ∙ n) (given_are_labels c d m s given h k l i g t)))

-- the start of a walk
pub stands_at : (c : List (List ℕ)) (s : List ℕ) → IsTrue (stands_in c s) → In s c
stands_at c s h = is_member_at nat_list_cmp_total exact s c h

-- the images of the vertices are labels
pub vertices_labels : {S : Type 0} (t : HashMap ℕ ℕ S) (vs : List ℕ) (ps : List (ℕ × ℕ)) → AreLabels t → list_all is_label vs ≡ true → ps ≡ paired (becomes t) vs → list_all (λ (p : ℕ × ℕ). is_label p.1) ps ≡ true
vertices_labels t vs ps h k e = ap (list_all (λ (p : ℕ × ℕ). is_label p.1)) e ∙ paired_labels (becomes t) vs (λ a i. becomes_label t h a (all_at is_label a vs k i))
