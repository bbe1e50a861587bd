-- A bijection of a closed and strong complex is known by its images on one facet.
use Rattle.std.proofs.Common.{◌≡◌, ℕ, ◌+◌, ◌≤◌, Bool, true, false, not, cond, ◌&&◌, ◌||◌, List, [], ◌∷◌, length, refl, sym, ap, ◌∙◌, subst, ◌⊎◌, inl, inr, arith}
use Rattle.std.specs.Prelude.{◌==◌, nat_le}
use Rattle.std.specs.Ordering.{nat_cmp}
use Rattle.std.specs.List.{list_any, list_all, filter, flat_map}
use Rattle.std.specs.FinMap.{nat_cmp-IsAntisymmetric}
use Rattle.std.proofs.lemmas.Cmp.{nat_cmp_total}
use Rattle.simplex.specs.Simplex.{has, common, is_within, is_simplex}
use Rattle.simplex.specs.SimplexFault.{set}
use Rattle.simplex.proofs.InOrderLaws.{and_left, and_right, and_both}
use Rattle.simplex.proofs.Members.{In, first, later, cases, none, all_at, in_filter, from_filter, same_sets}
use Rattle.simplex.proofs.SimplexLaws.{has_at, has_from, in_within, is_increasing-filter, within_length}
use Rattle.simplex.proofs.Decided.{le_at, false_at, agree, equal_at, equal_from}
use Rattle.facet_set.specs.Complex.{is_complex, facets_with, faces}
use Rattle.facet_set.specs.Connection.{Chain, here, step, classes, share_ridge, is_closed, is_strong}
use Rattle.facet_set.specs.Maps.{image, image_of, is_map, relabelled}
use Rattle.facet_set.specs.Numbers.{size, is_pure, degree}
use Rattle.facet_set.specs.Parts.{ridges}
use Rattle.facet_set.proofs.ClassLaws.{from_class, in_class, chain_in}
use Rattle.facet_set.proofs.ComplexLaws.{is_set, in_faces, face_from}
use Rattle.facet_set.proofs.FlipLaws.{pure_at, same_list}
use Rattle.facet_set.proofs.MapLaws.{Renames, image_apart, in_relabelled, from_relabelled, from_image}
use Rattle.facet_set.proofs.SetLaws.{from_set, set_up, length_distinct, distinct_more, increasing_distinct}
use Rattle.relabelling.specs.Bijections.{is_map_to}
use Rattle.relabelling.proofs.CarryLaws.{map_renames, facet_carried}

-- ---- two facets and what they share
pair : (x p q : List ℕ) → In x (p ∷ q ∷ []) → (x ≡ p) ⊎ (x ≡ q)
pair x p q i = elim (cases i) [ inl e ↦ inl e | inr j ↦ elim (cases j) [ inl e ↦ inr e | inr k ↦ absurd (none x k) ] ]

pub two_of : (xs : List (List ℕ)) (x y z : List ℕ) → length xs ≡ 2 → In x xs → In y xs → In z xs → (x ≡ y → ⊥) → (z ≡ x) ⊎ (z ≡ y)
two_of [] x y z e i j k f = absurd (none x i)
two_of (p ∷ []) x y z e i j k f = absurd (omega arith)
two_of (p ∷ q ∷ []) x y z e i j k f = elim (pair x p q i) [
  | inl a ↦ elim (pair z p q k) [ inl b ↦ inl (b ∙ sym a) | inr b ↦ elim (pair y p q j) [ inl d ↦ absurd (f (a ∙ sym d)) | inr d ↦ inr (b ∙ sym d) ] ]
  | inr a ↦ elim (pair z p q k) [ inr b ↦ inl (b ∙ sym a) | inl b ↦ elim (pair y p q j) [ inr d ↦ absurd (f (a ∙ sym d)) | inl d ↦ inr (b ∙ sym d) ] ]
]
two_of (p ∷ q ∷ r ∷ xs) x y z e i j k f = absurd (omega arith)

pub in_common : (t u : List ℕ) (a : ℕ) → In a t → In a u → In a (common t u)
in_common t u a i j = in_filter (has u) a t i (has_from u a j)

pub from_common : (t u : List ℕ) (a : ℕ) → In a (common t u) → In a t × In a u
from_common t u a i = let q = from_filter (has u) a t i in (q.0, has_at u a q.1)

common_set : (t u : List ℕ) → is_set t ≡ true → is_set (common t u) ≡ true
common_set t u h = is_increasing-filter nat_cmp (has u) t h

pub third_facet : (c : List (List ℕ)) (t u h : List ℕ) → list_all is_set c ≡ true → is_closed c ≡ true → In t c → In u c → In h c → share_ridge c t u ≡ true → (t ≡ u → ⊥) → is_within (common t u) h ≡ true → (h ≡ t) ⊎ (h ≡ u)
third_facet c t u h sets closed i j k s f w =
    two_of (facets_with c r) t u h (equal_at (degree c r) 2 (all_at (λ r. degree c r == 2) r (ridges c) (and_right (is_pure c) _ closed) ridge))
    (in_filter (is_within r) t c i in_t) (in_filter (is_within r) u c j (in_within r u (λ a l. (from_common t u a l).1))) (in_filter (is_within r) h c k w) f
  where
    r : List ℕ
    r = common t u

    in_t : is_within r t ≡ true
    in_t = in_within r t (λ a l. (from_common t u a l).0)

    ridge : In r (ridges c)
    ridge = in_filter (λ q. length q + 1 == size c) r (faces c) (in_faces c r sets (common_set t u (all_at is_set t c sets i)) (face_from c r t i in_t)) s

-- a facet has one label beside a ridge of it
pub left_one : (t u : List ℕ) (a b : ℕ) → is_set t ≡ true → is_set u ≡ true → length (common t u) + 1 ≡ length u → In a u → In b u → (In a t → ⊥) → (In b t → ⊥) → a ≡ b
left_one t u a b p q n i j f g =
    elim (a == b) as (λ v. (a == b) ≡ v → a ≡ b) [
      | true ↦ λ e. equal_at a b e
      | false ↦ λ e.
          let l = a ∷ b ∷ common t u in
          let rest = distinct_more b (common t u) (λ k. g (from_common t u b k).0) (increasing_distinct (common t u) (common_set t u p)) in
          let whole = distinct_more a (b ∷ common t u) (λ k. elim (cases k) [ inl s ↦ false_at (a == b) e (equal_from a b s) | inr m ↦ f (from_common t u a m).0 ]) rest in
          let long = length_distinct l whole in
          let fits = within_length (set l) u (set_up l) q (in_within (set l) u (λ x k. inside x (from_set x l k))) in
          absurd (omega arith)
    ] refl
  where
    inside : (x : ℕ) → In x (a ∷ b ∷ common t u) → In x u
    inside x k = elim (cases k) [ inl e ↦ subst (λ y. In y u) (sym e) i | inr l ↦ elim (cases l) [ inl e ↦ subst (λ y. In y u) (sym e) j | inr m ↦ (from_common t u x m).1 ] ]

-- ---- from facet to facet
abbrev pub Agrees : List (ℕ × ℕ) → List (ℕ × ℕ) → List ℕ → Type 0
Agrees m n t = (a : ℕ) → In a t → image_of m a ≡ image_of n a

pub record Carries (c d : List (List ℕ)) (m : List (ℕ × ℕ)) : Type 0 where
  pub renames : Renames m c
  pub there : (s : List ℕ) → In s c → In (relabelled m s) d
  pub back : (t : List ℕ) → In t d → (s : List ℕ) × In s c × (t ≡ relabelled m s)

pub carries : (c d : List (List ℕ)) (m : List (ℕ × ℕ)) → list_all is_simplex c ≡ true → is_complex c ≡ true → is_map_to c d m ≡ true → Carries c d m
carries c d m h k g = record {
  renames = map_renames m c h (and_left _ _ g);
  there = λ s i. facet_carried c d m s h k g i;
  back = λ t i. from_image m c t (map_renames m c h (and_left _ _ g)) k (subst (λ l. In t l) (sym (same_list (image m c) d (and_right (is_map m c) _ g))) i);
}

pub apart : (c d : List (List ℕ)) (m : List (ℕ × ℕ)) (s t : List ℕ) (a b : ℕ) → Carries c d m → In s c → In t c → In a s → In b t → image_of m a ≡ image_of m b → a ≡ b
apart c d m s t a b q i j k l e = image_apart m a b q.renames.apart (q.renames.known s i a k) (q.renames.known t j b l) e

agree_new : (c d : List (List ℕ)) (m n : List (ℕ × ℕ)) (t u : List ℕ) (b : ℕ) → Carries c d m → Carries c d n → is_closed c ≡ true → In t c → In u c → share_ridge c t u ≡ true → Agrees m n t → In b u → (In b t → ⊥) → image_of m b ≡ image_of n b
agree_new c d m n t u b p q closed i j s f k g = elim (third_facet c t u h p.renames.sets closed i j hc s apart_tu ridge_in) [
  | inl e ↦ let y = from_relabelled n t (image_of m b) (subst (λ l. In (image_of m b) (relabelled n l)) e mb) in
      absurd (g (subst (λ x. In x t) (sym (apart c d m u t b y.0 p j i k y.1 (y.2 ∙ sym (f y.0 y.1)))) y.1))
  | inr e ↦ let y = from_relabelled n u (image_of m b) (subst (λ l. In (image_of m b) (relabelled n l)) e mb) in
      elim (has t y.0) as (λ v. has t y.0 ≡ v → image_of m b ≡ image_of n b) [
        | true ↦ λ w. let in_t = has_at t y.0 w in absurd (g (subst (λ x. In x t) (sym (apart c d m u t b y.0 p j i k in_t (y.2 ∙ sym (f y.0 in_t)))) in_t))
        | false ↦ λ w. y.2 ∙ ap (image_of n) (left_one t u y.0 b (all_at is_set t c p.renames.sets i) (all_at is_set u c p.renames.sets j) long y.1 k (λ l. false_at (has t y.0) w (has_from t y.0 l)) g)
      ] refl
]
  where
    found : (h : List ℕ) × In h c × (relabelled m u ≡ relabelled n h)
    found = q.back (relabelled m u) (p.there u j)

    h : List ℕ
    h = found.0

    hc : In h c
    hc = found.1

    mb : In (image_of m b) (relabelled n h)
    mb = subst (λ l. In (image_of m b) l) found.2 (in_relabelled m u b k)

    apart_tu : t ≡ u → ⊥
    apart_tu e = g (subst (λ l. In b l) (sym e) k)

    ridge_in : is_within (common t u) h ≡ true
    ridge_in = in_within (common t u) h (λ x l.
        let both = from_common t u x l in
        let y = from_relabelled n h (image_of n x) (subst (λ z. In z (relabelled n h)) (f x both.0) (subst (λ l. In (image_of m x) l) found.2 (in_relabelled m u x both.1))) in
        subst (λ z. In z h) (sym (apart c d n t h x y.0 q i hc both.0 y.1 y.2)) y.1)

    long : length (common t u) + 1 ≡ length u
    long = equal_at (length (common t u) + 1) (size c) s ∙ sym (pure_at c u (and_left _ _ closed) j)

agree_next : (c d : List (List ℕ)) (m n : List (ℕ × ℕ)) (t u : List ℕ) → Carries c d m → Carries c d n → is_closed c ≡ true → In t c → In u c → share_ridge c t u ≡ true → Agrees m n t → Agrees m n u
agree_next c d m n t u p q closed i j s f b k =
    elim (has t b) as (λ v. has t b ≡ v → image_of m b ≡ image_of n b) [
      | true ↦ λ w. f b (has_at t b w)
      | false ↦ λ w. agree_new c d m n t u b p q closed i j s f k (λ l. false_at (has t b) w (has_from t b l))
    ] refl

agree_along : (c d : List (List ℕ)) (m n : List (ℕ × ℕ)) {t u : List ℕ} → Carries c d m → Carries c d n → is_closed c ≡ true → In t c → Agrees m n t → Chain (share_ridge c) c t u → Agrees m n u
agree_along c d m n p q closed i f here = f
agree_along c d m n {t = t} p q closed i f (step {y = y} h j ch) = agree_along c d m n p q closed j (agree_next c d m n t y p q closed i j h f) ch

-- ---- the chains of a strong complex
filter_alike : {X : Type 0} (p q : X → Bool) (xs : List X) → ((x : X) → In x xs → p x ≡ q x) → filter p xs ≡ filter q xs
filter_alike p q [] f = refl
filter_alike p q (x ∷ xs) f = ap (λ v. cond v (x ∷ filter p xs) (filter p xs)) (f x first) ∙ ap (λ l. cond (q x) (x ∷ l) l) (filter_alike p q xs (λ y i. f y (later i)))

any_alike : {X : Type 0} (p q : X → Bool) (xs : List X) → ((x : X) → In x xs → p x ≡ q x) → list_any p xs ≡ list_any q xs
any_alike p q [] f = refl
any_alike p q (x ∷ xs) f = ap (λ v. v || list_any p xs) (f x first) ∙ ap (λ v. q x || v) (any_alike p q xs (λ y i. f y (later i)))

module _ (joined other : List ℕ → List ℕ → Bool) (even : (x y : List ℕ) → other x y ≡ other y x) where
  classes_alike : (xs : List (List ℕ)) → ((x y : List ℕ) → In x xs → In y xs → joined x y ≡ other x y) → classes joined xs ≡ classes other xs
  classes_alike [] f = refl
  classes_alike (x ∷ xs) f =
      ap (λ k. (x ∷ flat_map (λ k. k) (filter (list_any (joined x)) k)) ∷ filter (λ k. not (list_any (joined x) k)) k) (classes_alike xs (λ y z i j. f y z (later i) (later j)))
      ∙ ap (λ l. (x ∷ flat_map (λ k. k) l) ∷ filter (λ k. not (list_any (joined x) k)) ks) (filter_alike (list_any (joined x)) (list_any (other x)) ks near)
      ∙ ap (λ l. (x ∷ flat_map (λ k. k) (filter (list_any (other x)) ks)) ∷ l) (filter_alike (λ k. not (list_any (joined x) k)) (λ k. not (list_any (other x) k)) ks (λ k i. ap not (near k i)))
    where
      ks : List (List (List ℕ))
      ks = classes other xs

      near : (k : List (List ℕ)) → In k ks → list_any (joined x) k ≡ list_any (other x) k
      near k i = any_alike (joined x) (other x) k (λ y j. f x y first (later (from_class other even xs k y i j)))

common_swap : (s t : List ℕ) → is_set s ≡ true → is_set t ≡ true → common s t ≡ common t s
common_swap s t p q =
    same_sets nat_cmp_total nat_cmp-IsAntisymmetric (common s t) (common t s) (common_set s t p) (common_set t s q)
    (λ a i. let r = from_common s t a i in in_common t s a r.1 r.0) (λ a i. let r = from_common t s a i in in_common s t a r.1 r.0)

-- the relation on sets alone
abbrev shared : List (List ℕ) → List ℕ → List ℕ → Bool
shared c s t = (is_set s && is_set t) && share_ridge c s t

shared_even : (c : List (List ℕ)) (s t : List ℕ) → shared c s t ≡ shared c t s
shared_even c s t =
    agree _ _ (λ h. turn s t h) (λ h. turn t s h)
  where
    turn : (s t : List ℕ) → shared c s t ≡ true → shared c t s ≡ true
    turn s t h =
        let p = and_left (is_set s) (is_set t) (and_left (is_set s && is_set t) _ h) in
        let q = and_right (is_set s) (is_set t) (and_left (is_set s && is_set t) _ h) in
        and_both _ _ (and_both _ _ q p) (ap (λ l. length l + 1 == size c) (common_swap t s q p) ∙ and_right (is_set s && is_set t) _ h)

single : {X : Type 0} (ks : List X) (k l : X) → nat_le (length ks) 1 ≡ true → In k ks → In l ks → k ≡ l
single [] k l h i j = absurd (none k i)
single (p ∷ []) k l h i j = elim (cases i) [ inl e ↦ elim (cases j) [ inl f ↦ e ∙ sym f | inr n ↦ absurd (none l n) ] | inr n ↦ absurd (none k n) ]
single (p ∷ q ∷ ks) k l h i j = absurd (let b : length (p ∷ q ∷ ks) ≤ 1 = le_at (length (p ∷ q ∷ ks)) 1 h in omega arith)

weaker : (c xs : List (List ℕ)) {t u : List ℕ} → Chain (shared c) xs t u → Chain (share_ridge c) xs t u
weaker c xs here = here
weaker c xs {t = t} (step {y = y} h j ch) = step (and_right (is_set t && is_set y) _ h) j (weaker c xs ch)

pub strong_chain : (c : List (List ℕ)) (t u : List ℕ) → list_all is_set c ≡ true → is_strong c ≡ true → In t c → In u c → Chain (share_ridge c) c t u
strong_chain c t u sets strong i j =
    let k = in_class (shared c) (shared_even c) c t i in
    let l = in_class (shared c) (shared_even c) c u j in
    let few : nat_le (length (classes (shared c) c)) 1 ≡ true = ap (λ ks. nat_le (length ks) 1) (sym same) ∙ and_right (is_pure c) _ strong in
    let one : k.0 ≡ l.0 = single (classes (shared c) c) k.0 l.0 few k.1 l.1 in
    weaker c c (chain_in (shared c) (shared_even c) c k.0 t u k.1 k.2 (subst (λ z. In u z) (sym one) l.2))
  where
    same : classes (share_ridge c) c ≡ classes (shared c) c
    same = classes_alike (share_ridge c) (shared c) (shared_even c) c (λ x y i j. sym (ap (λ v. v && share_ridge c x y) (and_both _ _ (all_at is_set x c sets i) (all_at is_set y c sets j))))

pub agree_everywhere : (c d : List (List ℕ)) (m n : List (ℕ × ℕ)) (s t : List ℕ) → Carries c d m → Carries c d n → is_closed c ≡ true → is_strong c ≡ true → In s c → In t c → Agrees m n s → Agrees m n t
agree_everywhere c d m n s t p q closed strong i j f = agree_along c d m n p q closed i f (strong_chain c s t p.renames.sets strong i j)
