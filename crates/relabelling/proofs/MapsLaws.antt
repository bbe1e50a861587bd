-- The members of the list of bijections.
use Rattle.std.proofs.Common.{◌≡◌, ℕ, zero, suc, true, false, cond, List, [], ◌∷◌, map, length, refl, sym, ap, ◌∙◌, subst, arith}
use Rattle.std.specs.Prelude.{◌==◌, nat_eq}
use Rattle.std.specs.Cmp.Lexicographic.{pointwise}
use Rattle.std.specs.List.{list_all, flat_map, zip}
use Rattle.std.proofs.lemmas.Cmp.{nat_cmp_total}
use Rattle.simplex.specs.Simplex.{is_simplex, without}
use Rattle.simplex.proofs.InOrderLaws.{and_left, and_right, is_increasing-in_order}
use Rattle.simplex.proofs.Members.{In, first, later, in_map, from_map, in_filter, from_filter, in_flat_map}
use Rattle.simplex.proofs.SimplexLaws.{in_without}
use Rattle.simplex.proofs.Decided.{false_from, equal_at, equal_from}
use Rattle.facet_set.specs.Complex.{is_complex, verts}
use Rattle.facet_set.specs.Maps.{image_of, is_distinct, is_map, relabelled}
use Rattle.facet_set.proofs.GeneratedLaws.{same_at}
use Rattle.facet_set.proofs.OptionLaws.{in_verts, from_verts}
use Rattle.facet_set.proofs.MapLaws.{firsts, seconds, pair_image, in_relabelled}
use Rattle.facet_set.proofs.SetLaws.{increasing_distinct, distinct_head, distinct_rest, length_images}
use Rattle.relabelling.specs.Bijections.{arrangements, is_map_to, maps}
use Rattle.relabelling.specs.Laws.{MapMembers, OneByFacet}
use Rattle.relabelling.proofs.CarryLaws.{facet_carried}
use Rattle.relabelling.proofs.ForcedLaws.{carries, agree_everywhere}

pub in_arrangements : (n : ℕ) (s t : List ℕ) → length t ≡ n → is_distinct t ≡ true → ((a : ℕ) → In a t → In a s) → In t (arrangements n s)
in_arrangements zero s [] e h f = first
in_arrangements zero s (a ∷ t) e h f = absurd (omega arith)
in_arrangements (suc n) s [] e h f = absurd (omega arith)
in_arrangements (suc n) s (a ∷ t) e h f =
    in_flat_map (λ b. map (λ u. b ∷ u) (arrangements n (without s b))) a (a ∷ t) s (f a first)
    (in_map (λ u. a ∷ u) t (arrangements n (without s a)) (in_arrangements n (without s a) t (omega arith) (distinct_rest a t h)
    (λ b i. in_without s a b (f b (later i)) (λ q. distinct_head a t h (subst (λ z. In z t) q i)))))

pub zip_parts : (m : List (ℕ × ℕ)) → m ≡ zip (firsts m) (seconds m)
zip_parts [] = refl
zip_parts (p ∷ m) = ap (λ l. p ∷ l) (zip_parts m)

pub firsts_at : (c : List (List ℕ)) (m : List (ℕ × ℕ)) → is_map m c ≡ true → firsts m ≡ verts c
firsts_at c m h = same_at (firsts m) (verts c) (and_left (pointwise nat_eq (firsts m) (verts c)) (is_distinct (seconds m)) h)

pub firsts_distinct : (c : List (List ℕ)) (m : List (ℕ × ℕ)) → is_map m c ≡ true → is_distinct (firsts m) ≡ true
firsts_distinct c m h = ap is_distinct (firsts_at c m h) ∙ increasing_distinct (verts c) (is_increasing-in_order nat_cmp_total (flat_map (λ s. s) c))

pub images_there : (c d : List (List ℕ)) (m : List (ℕ × ℕ)) → list_all is_simplex c ≡ true → is_complex c ≡ true → is_map_to c d m ≡ true → (b : ℕ) → In b (seconds m) → In b (verts d)
images_there c d m h k g b i =
    let p = from_map (λ (q : ℕ × ℕ). q.1) b m i in
    let at = from_verts c p.0.0 (subst (λ l. In p.0.0 l) (firsts_at c m (and_left _ _ g)) (in_map (λ (q : ℕ × ℕ). q.0) p.0 m p.1)) in
    let is : image_of m p.0.0 ≡ b = pair_image m p.0.0 p.0.1 (firsts_distinct c m (and_left _ _ g)) p.1 ∙ sym p.2 in
    in_verts d (relabelled m at.0) b (facet_carried c d m at.0 h k g at.1) (subst (λ z. In z (relabelled m at.0)) is (in_relabelled m at.0 p.0.0 at.2))

-- the images of a bijection are an arrangement
pub images_arranged : (c d : List (List ℕ)) (m : List (ℕ × ℕ)) → list_all is_simplex c ≡ true → is_complex c ≡ true → is_map_to c d m ≡ true → In (seconds m) (arrangements (length (verts c)) (verts d))
images_arranged c d m h k g =
    in_arrangements (length (verts c)) (verts d) (seconds m) (length_images (λ (q : ℕ × ℕ). q.1) m ∙ sym (length_images (λ (q : ℕ × ℕ). q.0) m) ∙ ap length (firsts_at c m map_ok)) (and_right (pointwise nat_eq (firsts m) (verts c)) _ map_ok) (images_there c d m h k g)
  where
    map_ok : is_map m c ≡ true
    map_ok = and_left _ _ g

pub in_maps : (c d : List (List ℕ)) (m : List (ℕ × ℕ)) → list_all is_simplex c ≡ true → is_complex c ≡ true → is_map_to c d m ≡ true → In m (maps c d)
in_maps c d m h k g =
    in_filter (is_map_to c d) m (map (zip (verts c)) (arrangements (length (verts c)) (verts d)))
    (subst (λ z. In z (map (zip (verts c)) (arrangements (length (verts c)) (verts d)))) (sym (zip_parts m ∙ ap (λ l. zip l (seconds m)) (firsts_at c m map_ok)))
    (in_map (zip (verts c)) (seconds m) (arrangements (length (verts c)) (verts d)) (images_arranged c d m h k g))) g
  where
    map_ok : is_map m c ≡ true
    map_ok = and_left _ _ g

pub from_maps : (c d : List (List ℕ)) (m : List (ℕ × ℕ)) → In m (maps c d) → is_map_to c d m ≡ true
from_maps c d m i = (from_filter (is_map_to c d) m (map (zip (verts c)) (arrangements (length (verts c)) (verts d))) i).1

pub map_members_lem : MapMembers
map_members_lem c d m h k = (λ i. from_maps c d m i, λ g. in_maps c d m h k g)

-- lists of pairs with the same first members and images are one
pub same_pairs : (m n : List (ℕ × ℕ)) → firsts m ≡ firsts n → is_distinct (firsts m) ≡ true → ((a : ℕ) → In a (firsts m) → image_of m a ≡ image_of n a) → m ≡ n
same_pairs [] [] e h f = refl
same_pairs [] (q ∷ n) e h f = cc
same_pairs (p ∷ m) [] e h f = cc
same_pairs (p ∷ m) (q ∷ n) e h f =
    let head : p.0 ≡ q.0 = cc in
    let rest : firsts m ≡ firsts n = cc in
    let here : p.1 ≡ q.1 = sym (ap (λ v. cond v p.1 (image_of m p.0)) (equal_from p.0 p.0 refl)) ∙ f p.0 first ∙ ap (λ v. cond v q.1 (image_of n p.0)) (equal_from q.0 p.0 (sym head)) in
    λ i. (head i, here i) ∷ same_pairs m n rest (distinct_rest p.0 (firsts m) h) (λ a j.
    let out : (p.0 == a) ≡ false = false_from (p.0 == a) (λ k. distinct_head p.0 (firsts m) h (subst (λ z. In z (firsts m)) (sym (equal_at p.0 a k)) j)) in
    sym (ap (λ v. cond v p.1 (image_of m a)) out) ∙ f a (later j) ∙ ap (λ v. cond v q.1 (image_of n a)) (ap (λ z. z == a) (sym head) ∙ out)) i

pub one_map : (c d : List (List ℕ)) (m n : List (ℕ × ℕ)) → is_map_to c d m ≡ true → is_map_to c d n ≡ true → ((t : List ℕ) → In t c → (a : ℕ) → In a t → image_of m a ≡ image_of n a) → m ≡ n
one_map c d m n g l f =
    same_pairs m n (firsts_at c m (and_left _ _ g) ∙ sym (firsts_at c n (and_left _ _ l))) (firsts_distinct c m (and_left _ _ g))
    (λ a i. let at = from_verts c a (subst (λ z. In a z) (firsts_at c m (and_left _ _ g)) i) in f at.0 at.1 a at.2)

pub one_by_facet_lem : OneByFacet
one_by_facet_lem c d m n s h k closed strong i j si f =
    one_map c d m n (from_maps c d m i) (from_maps c d n j)
    (λ t ti. agree_everywhere c d m n s t (carries c d m h k (from_maps c d m i)) (carries c d n h k (from_maps c d n j)) closed strong si ti f)
