-- Maps of labels, and the complexes that they lead to.
use Rattle.std.proofs.Common.{◌≡◌, ℕ, Bool, true, false, not, cond, List, [], ◌∷◌, map, length, refl, sym, ap, ◌∙◌, subst, inl, inr, arith}
use Rattle.std.specs.Bool.{IsTrue}
use Rattle.std.specs.Prelude.{◌==◌}
use Rattle.std.specs.List.{list_all}
use Rattle.simplex.specs.InOrder.{is_increasing}
use Rattle.simplex.specs.Simplex.{is_label, is_within, is_same, simplex_cmp}
use Rattle.simplex.proofs.InOrderLaws.{and_left, and_right, and_both}
use Rattle.simplex.proofs.Members.{In, first, later, cases, at_head, none, all_at, in_map, from_map}
use Rattle.simplex.proofs.SimplexLaws.{within_in, in_within, within_same, above_at, rest_increasing}
use Rattle.simplex.proofs.Decided.{false_from, false_at, not_true, equal_at, equal_from}
use Rattle.facet_set.specs.Complex.{simplices, generated, is_complex, is_proper_face, is_maximal_in}
use Rattle.facet_set.specs.Maps.{image, image_of, relabelled, is_distinct}
use Rattle.facet_set.proofs.ComplexLaws.{is_set, same_from, same_itself, maximal_at, maximal_from, in_simplices, from_simplices}
use Rattle.facet_set.proofs.GeneratedLaws.{filter_all}
use Rattle.facet_set.proofs.SetLaws.{in_set, from_set, length_distinct, length_images, distinct_head, distinct_rest, distinct_more}

abbrev pub firsts : List (ℕ × ℕ) → List ℕ
firsts m = map (λ p. p.0) m

abbrev pub seconds : List (ℕ × ℕ) → List ℕ
seconds m = map (λ p. p.1) m

pub seconds_labels : (m : List (ℕ × ℕ)) → list_all is_label (seconds m) ≡ true → list_all (λ (p : ℕ × ℕ). is_label p.1) m ≡ true
seconds_labels [] h = refl
seconds_labels (p ∷ m) h = and_both _ _ (and_left _ _ h) (seconds_labels m (and_right (is_label p.1) _ h))

-- ---- what a label becomes
pub image_pair : (m : List (ℕ × ℕ)) (a : ℕ) → In a (firsts m) → In (a, image_of m a) m
image_pair [] a i = absurd (none a i)
image_pair (p ∷ m) a i =
    elim (p.0 == a) as (λ v. (p.0 == a) ≡ v → In (a, cond v p.1 (image_of m a)) (p ∷ m)) [
      | true ↦ λ e. let same : p.0 ≡ a = equal_at p.0 a e in at_head (a, p.1) p m (λ k. (sym same k, p.1))
      | false ↦ λ e. elim (cases i) [ inl f ↦ absurd (false_at (p.0 == a) e (equal_from p.0 a (sym f))) | inr j ↦ later (image_pair m a j) ]
    ] refl

one_first : (m : List (ℕ × ℕ)) (a b c : ℕ) → is_distinct (seconds m) ≡ true → In (a, c) m → In (b, c) m → a ≡ b
one_first [] a b c h i j = absurd (none (a, c) i)
one_first (p ∷ m) a b c h i j = elim (cases i) [
  | inl e ↦ elim (cases j) [
    | inl f ↦ ap (λ (q : ℕ × ℕ). q.0) e ∙ sym (ap (λ (q : ℕ × ℕ). q.0) f)
    | inr k ↦ absurd (distinct_head p.1 (seconds m) h (subst (λ n. In n (seconds m)) (ap (λ (q : ℕ × ℕ). q.1) e) (in_map (λ (q : ℕ × ℕ). q.1) (b, c) m k)))
  ]
  | inr l ↦ elim (cases j) [
    | inl f ↦ absurd (distinct_head p.1 (seconds m) h (subst (λ n. In n (seconds m)) (ap (λ (q : ℕ × ℕ). q.1) f) (in_map (λ (q : ℕ × ℕ). q.1) (a, c) m l)))
    | inr k ↦ one_first m a b c (distinct_rest p.1 (seconds m) h) l k
  ]
]

-- labels that become one are one
pub image_apart : (m : List (ℕ × ℕ)) (a b : ℕ) → is_distinct (seconds m) ≡ true → In a (firsts m) → In b (firsts m) → image_of m a ≡ image_of m b → a ≡ b
image_apart m a b h i j e = one_first m a b (image_of m b) h (subst (λ c. In (a, c) m) e (image_pair m a i)) (image_pair m b j)

-- a pair tells what its first label becomes, where the first labels differ
pub pair_image : (m : List (ℕ × ℕ)) (a b : ℕ) → is_distinct (firsts m) ≡ true → In (a, b) m → image_of m a ≡ b
pair_image [] a b h i = absurd (none (a, b) i)
pair_image (p ∷ m) a b h i =
    elim (p.0 == a) as (λ v. (p.0 == a) ≡ v → cond v p.1 (image_of m a) ≡ b) [
      | true ↦ λ e. elim (cases i) [
        | inl f ↦ sym (ap (λ (q : ℕ × ℕ). q.1) f)
        | inr j ↦ absurd (distinct_head p.0 (firsts m) h (subst (λ n. In n (firsts m)) (sym (equal_at p.0 a e)) (in_map (λ (q : ℕ × ℕ). q.0) (a, b) m j)))
      ]
      | false ↦ λ e. elim (cases i) [
        | inl f ↦ absurd (false_at (p.0 == a) e (equal_from p.0 a (sym (ap (λ (q : ℕ × ℕ). q.0) f))))
        | inr j ↦ pair_image m a b (distinct_rest p.0 (firsts m) h) j
      ]
    ] refl

-- what becomes of a label is a label
pub image_label : (m : List (ℕ × ℕ)) (a : ℕ) → list_all (λ (p : ℕ × ℕ). is_label p.1) m ≡ true → IsTrue (is_label a) → IsTrue (is_label (image_of m a))
image_label [] a h k = k
image_label (p ∷ m) a h k =
    elim (p.0 == a) as (λ v. IsTrue (is_label (cond v p.1 (image_of m a)))) [
      | true ↦ and_left _ _ h
      | false ↦ image_label m a (and_right (is_label p.1) _ h) k
    ]

-- ---- simplices
pub in_relabelled : (m : List (ℕ × ℕ)) (s : List ℕ) (a : ℕ) → In a s → In (image_of m a) (relabelled m s)
in_relabelled m s a i = in_set (image_of m a) (map (image_of m) s) (in_map (image_of m) a s i)

pub from_relabelled : (m : List (ℕ × ℕ)) (s : List ℕ) (b : ℕ) → In b (relabelled m s) → (a : ℕ) × In a s × (b ≡ image_of m a)
from_relabelled m s b i = from_map (image_of m) b s (from_set b (map (image_of m) s) i)

-- a map that takes the labels of a complex apart
pub record Renames (m : List (ℕ × ℕ)) (c : List (List ℕ)) : Type 0 where
  pub sets : list_all is_set c ≡ true
  pub known : (s : List ℕ) → In s c → (a : ℕ) → In a s → In a (firsts m)
  pub apart : is_distinct (seconds m) ≡ true

pub within_back : (m : List (ℕ × ℕ)) (c : List (List ℕ)) (s t : List ℕ) → Renames m c → In s c → In t c → is_within (relabelled m s) (relabelled m t) ≡ true → is_within s t ≡ true
within_back m c s t r i j w = in_within s t (λ a k.
    let q = from_relabelled m t (image_of m a) (within_in (relabelled m s) (relabelled m t) (image_of m a) w (in_relabelled m s a k)) in
    subst (λ b. In b t) (sym (image_apart m a q.0 r.apart (r.known s i a k) (r.known t j q.0 q.1) q.2)) q.1)

pub distinct_images : (m : List (ℕ × ℕ)) (s : List ℕ) → is_distinct (seconds m) ≡ true → ((a : ℕ) → In a s → In a (firsts m)) → is_set s ≡ true → is_distinct (map (image_of m) s) ≡ true
distinct_images m [] h f up = refl
distinct_images m (a ∷ s) h f up =
    distinct_more (image_of m a) (map (image_of m) s)
    (λ i. let q = from_map (image_of m) (image_of m a) s i in let e = image_apart m a q.0 h (f a first) (f q.0 (later q.1)) q.2 in let l = above_at a s q.0 up q.1 in omega arith)
    (distinct_images m s h (λ b i. f b (later i)) (rest_increasing a s up))

pub length_relabelled : (m : List (ℕ × ℕ)) (c : List (List ℕ)) (s : List ℕ) → Renames m c → In s c → length (relabelled m s) ≡ length s
length_relabelled m c s r i =
    length_distinct (map (image_of m) s) (distinct_images m s r.apart (r.known s i) (all_at is_set s c r.sets i)) ∙ length_images (image_of m) s

-- ---- complexes
pub all_maximal : (l : List (List ℕ)) → ((s : List ℕ) → In s l → is_maximal_in l s ≡ true) → generated l ≡ simplices l
all_maximal l f = ap simplices (filter_all (is_maximal_in l) l f)

-- sets of one length lie in no other
pub one_length : (l : List (List ℕ)) (n : ℕ) → list_all is_set l ≡ true → ((s : List ℕ) → In s l → length s ≡ n) → generated l ≡ simplices l
one_length l n h f = all_maximal l (λ s i. maximal_from l s (λ t j. false_from (is_proper_face s t) (λ p.
    let e = within_same s t (all_at is_set s l h i) (all_at is_set t l h j) (and_left _ _ p) (f s i ∙ sym (f t j)) in
    false_at (is_same s t) (not_true (is_same s t) (and_right (is_within s t) _ p)) (ap (is_same s) (sym e) ∙ same_itself s))))

-- a simplex that lies in a facet is it, where it is a facet
pub facet_same : (c : List (List ℕ)) (s t : List ℕ) → is_complex c ≡ true → In s c → In t c → is_within s t ≡ true → s ≡ t
facet_same c s t h i j w =
    let no : is_proper_face s t ≡ false = maximal_at c s t (all_at (is_maximal_in c) s c (and_right (is_increasing simplex_cmp c) _ h) i) j in
    same_from s t (decide (is_same s t) (λ e. false_at (is_proper_face s t) no (and_both _ _ w (ap not e))))
  where
    decide : (v : Bool) → (v ≡ false → ⊥) → v ≡ true
    decide true f = refl
    decide false f = absurd (f refl)

pub image_is : (m : List (ℕ × ℕ)) (c : List (List ℕ)) → Renames m c → is_complex c ≡ true → image m c ≡ simplices (map (relabelled m) c)
image_is m c r h = all_maximal (map (relabelled m) c) (λ s i. maximal_from (map (relabelled m) c) s (λ t j. false_from (is_proper_face s t) (λ p.
    let u = from_map (relabelled m) s c i in
    let v = from_map (relabelled m) t c j in
    let w : is_within (relabelled m u.0) (relabelled m v.0) ≡ true = ap (λ x. is_within x (relabelled m v.0)) (sym u.2) ∙ ap (is_within s) (sym v.2) ∙ and_left _ _ p in
    let e : u.0 ≡ v.0 = facet_same c u.0 v.0 h u.1 v.1 (within_back m c u.0 v.0 r u.1 v.1 w) in
    let f : s ≡ t = u.2 ∙ ap (relabelled m) e ∙ sym v.2 in
    false_at (is_same s t) (not_true (is_same s t) (and_right (is_within s t) _ p)) (ap (is_same s) (sym f) ∙ same_itself s))))

pub in_image : (m : List (ℕ × ℕ)) (c : List (List ℕ)) (s : List ℕ) → Renames m c → is_complex c ≡ true → In s c → In (relabelled m s) (image m c)
in_image m c s r h i = subst (λ l. In (relabelled m s) l) (sym (image_is m c r h)) (in_simplices (relabelled m s) (map (relabelled m) c) (in_map (relabelled m) s c i))

pub from_image : (m : List (ℕ × ℕ)) (c : List (List ℕ)) (t : List ℕ) → Renames m c → is_complex c ≡ true → In t (image m c) → (s : List ℕ) × In s c × (t ≡ relabelled m s)
from_image m c t r h i = from_map (relabelled m) t c (from_simplices t (map (relabelled m) c) (subst (λ l. In t l) (image_is m c r h) i))
