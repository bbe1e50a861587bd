-- How often a ridge stands in the list of the facets less one label each.
use Rattle.std.proofs.Common.{◌≡◌, ℕ, ◌+◌, ◌-◌, ◌^◌, ◌<◌, Bool, true, false, not, cond, ◌&&◌, eqb, min, List, [], ◌∷◌, ◌++◌, map, length, refl, sym, ap, ◌∙◌, subst, inl, inr, arith}
use Rattle.std.specs.Prelude.{◌==◌}
use Rattle.std.specs.Ordering.{nat_cmp}
use Rattle.std.specs.List.{list_all, filter}
use Rattle.std.proofs.lemmas.Bool.Decides.{nat_tests}
use Rattle.simplex.specs.Simplex.{is_within, without}
use Rattle.simplex.proofs.InOrderLaws.{and_left, and_right}
use Rattle.simplex.proofs.Members.{In, first, later, cases, at_head, none, all_at, all_from, in_filter, from_filter, from_map, from_flat_map}
use Rattle.simplex.proofs.SimplexLaws.{within_in, in_within, within_same, above_at, rest_increasing, is_increasing-filter, from_without}
use Rattle.simplex.proofs.Decided.{eqb_equal, eqb_apart, false_from, agree}
use Rattle.facet_set.specs.Complex.{generated, is_face, faces, facets_with}
use Rattle.facet_set.specs.Numbers.{size, is_pure, degree}
use Rattle.facet_set.specs.Parts.{ridges, boundary}
use Rattle.facet_set.specs.Connection.{is_closed}
use Rattle.facet_set.proofs.ComplexLaws.{is_set, same_itself, generated_same, face_at, face_from, from_faces, in_faces}
use Rattle.facet_set.proofs.FlipLaws.{pure_at, length-without}
use Rattle.facet_set.proofs.GeneratedLaws.{same, same_at, same_is}
use Rattle.local_parts.specs.Pieces.{all_ridges, copies}

-- the set less one label each
abbrev pub drops : List ℕ → List (List ℕ)
drops [] = []
drops (a ∷ s) = s ∷ map (λ t. a ∷ t) (drops s)

keep_all : (p : ℕ → Bool) (s : List ℕ) → ((x : ℕ) → In x s → p x ≡ true) → filter p s ≡ s
keep_all p [] f = refl
keep_all p (x ∷ s) f = ap (λ b. cond b (x ∷ filter p s) (filter p s)) (f x first) ∙ ap (λ k. x ∷ k) (keep_all p s (λ y i. f y (later i)))

not_equal : (a b : ℕ) → a < b → not (a == b) ≡ true
not_equal a b h = grind (arith, nat_tests)

not_equal_back : (a b : ℕ) → a < b → not (b == a) ≡ true
not_equal_back a b h = grind (arith, nat_tests)

not_itself : (a : ℕ) → not (a == a) ≡ false
not_itself a = grind (arith, nat_tests)

map_same : (f g : ℕ → List ℕ) (s : List ℕ) → ((x : ℕ) → In x s → f x ≡ g x) → map f s ≡ map g s
map_same f g [] h = refl
map_same f g (x ∷ s) h = λ i. h x first i ∷ map_same f g s (λ y j. h y (later j)) i

map_map : (f : ℕ → List ℕ) (g : List ℕ → List ℕ) (s : List ℕ) → map (λ x. g (f x)) s ≡ map g (map f s)
map_map f g [] = refl
map_map f g (x ∷ s) = ap (λ l. g (f x) ∷ l) (map_map f g s)

pub drops_are : (s : List ℕ) → is_set s ≡ true → map (without s) s ≡ drops s
drops_are [] h = refl
drops_are (a ∷ s) h =
    let head : without (a ∷ s) a ≡ s = ap (λ b. cond b (a ∷ without s a) (without s a)) (not_itself a) ∙ keep_all (λ b. not (a == b)) s (λ x i. not_equal a x (above_at a s x h i)) in
    let rest : map (without (a ∷ s)) s ≡ map (λ x. a ∷ without s x) s =
    map_same (without (a ∷ s)) (λ x. a ∷ without s x) s (λ x i. ap (λ b. cond b (a ∷ without s x) (without s x)) (not_equal_back a x (above_at a s x h i))) in
    (λ i. head i ∷ rest i) ∙ ap (λ l. s ∷ l) (map_map (without s) (λ t. a ∷ t) s ∙ ap (map (λ t. a ∷ t)) (drops_are s (rest_increasing a s h)))

-- ---- copies

abbrev one_if : Bool → ℕ
one_if b = cond b 1 0

pub copies_more : (r s : List ℕ) (l : List (List ℕ)) → copies r (s ∷ l) ≡ one_if (same r s) + copies r l
copies_more r s l = elim (same r s) as (λ v. length (cond v (s ∷ filter (same r) l) (filter (same r) l)) ≡ one_if v + length (filter (same r) l)) [ true ↦ omega arith | false ↦ omega arith ]

pub copies_append : (r : List ℕ) (l m : List (List ℕ)) → copies r (l ++ m) ≡ copies r l + copies r m
copies_append r [] m = omega arith
copies_append r (s ∷ l) m = omega (arith, copies_more r s (l ++ m), copies_more r s l, copies_append r l m)

copies_led : (b a : ℕ) (r : List ℕ) (l : List (List ℕ)) → copies (b ∷ r) (map (λ t. a ∷ t) l) ≡ cond (eqb b a) (copies r l) 0
copies_led b a r [] = either_way (eqb b a) 0
  where
    either_way : (v : Bool) (n : ℕ) → n ≡ cond v n n
    either_way true n = refl
    either_way false n = refl
copies_led b a r (t ∷ l) =
    copies_more (b ∷ r) (a ∷ t) (map (λ t. a ∷ t) l) ∙ ap (λ n. one_if (eqb b a && same r t) + n) (copies_led b a r l)
    ∙ elim (eqb b a) as (λ v. one_if (v && same r t) + cond v (copies r l) 0 ≡ cond v (copies r (t ∷ l)) 0) [ true ↦ sym (copies_more r t l) | false ↦ refl ]

same_from : (r s : List ℕ) → r ≡ s → same r s ≡ true
same_from r s e = ap (same r) (sym e) ∙ same_is r r ∙ same_itself r

tail_within : (a b : ℕ) (s r : List ℕ) → is_set (a ∷ s) ≡ true → is_set (b ∷ r) ≡ true → (b ≡ a → ⊥) → is_within (b ∷ r) (a ∷ s) ≡ true → is_within (b ∷ r) s ≡ true
tail_within a b s r h k d w = elim (cases (within_in (b ∷ r) (a ∷ s) b w first)) [
  | inl e ↦ absurd (d e)
  | inr i ↦
      let low = above_at a s b h i in
      in_within (b ∷ r) s (λ c j. elim (cases j) [
        | inl e ↦ subst (λ x. In x s) (sym e) i
        | inr m ↦ let l = above_at b r c k m in elim (cases (within_in (b ∷ r) (a ∷ s) c w (later m))) [ inl f ↦ absurd (omega arith) | inr n ↦ n ]
      ])
]

-- a set of one label less stands once among them where it lies in the set, and else not at all
pub copies_drops : (s r : List ℕ) → is_set s ≡ true → is_set r ≡ true → length r + 1 ≡ length s → copies r (drops s) ≡ one_if (is_within r s)
copies_drops [] r h k l = absurd (omega arith)
copies_drops (a ∷ []) [] h k l = refl
copies_drops (a ∷ c ∷ s) [] h k l = absurd (omega arith)
copies_drops (a ∷ s) (b ∷ r) h k l =
    copies_more (b ∷ r) s (map (λ t. a ∷ t) (drops s)) ∙ ap (λ n. one_if (same (b ∷ r) s) + n) (copies_led b a r (drops s))
    ∙ elim (eqb b a) as (λ v. eqb b a ≡ v → one_if (same (b ∷ r) s) + cond v (copies r (drops s)) 0 ≡ one_if (is_within (b ∷ r) (a ∷ s))) [
      | true ↦ λ e.
          let head : b ≡ a = eqb_equal b a e in
          let not_tail : same (b ∷ r) s ≡ false = false_from _ (λ t. let l = above_at a s b h (subst (λ x. In b x) (same_at (b ∷ r) s t) first) in omega arith) in
          let reach : is_within r s ≡ is_within (b ∷ r) (a ∷ s) = agree (is_within r s) (is_within (b ∷ r) (a ∷ s))
          (λ w. in_within (b ∷ r) (a ∷ s) (λ c i. elim (cases i) [ inl f ↦ at_head c a s (f ∙ head) | inr j ↦ later (within_in r s c w j) ]))
          (λ w. in_within r s (λ c j. let l = above_at b r c k j in elim (cases (within_in (b ∷ r) (a ∷ s) c w (later j))) [ inl f ↦ absurd (omega arith) | inr m ↦ m ])) in
          ap (λ v. one_if v + copies r (drops s)) not_tail ∙ zero_left (copies r (drops s)) ∙ copies_drops s r (rest_increasing a s h) (rest_increasing b r k) (omega arith) ∙ ap one_if reach
      | false ↦ λ e.
          let reach : same (b ∷ r) s ≡ is_within (b ∷ r) (a ∷ s) = agree (same (b ∷ r) s) (is_within (b ∷ r) (a ∷ s))
          (λ t. let is = same_at (b ∷ r) s t in in_within (b ∷ r) (a ∷ s) (λ c i. later (subst (λ x. In c x) is i)))
          (λ w. same_from (b ∷ r) s (within_same (b ∷ r) s k (rest_increasing a s h) (tail_within a b s r h k (eqb_apart b a e) w) (omega arith))) in
          zero_right (one_if (same (b ∷ r) s)) ∙ ap one_if reach
    ] refl
  where
    zero_left : (n : ℕ) → 0 + n ≡ n
    zero_left n = omega arith

    zero_right : (n : ℕ) → n + 0 ≡ n
    zero_right n = omega arith

-- each facet adds one copy of the ridges that lie in it
pub copies_ridges : (c : List (List ℕ)) (r : List ℕ) → list_all is_set c ≡ true → is_set r ≡ true → ((s : List ℕ) → In s c → length r + 1 ≡ length s) → copies r (all_ridges c) ≡ degree c r
copies_ridges [] r h k f = refl
copies_ridges (s ∷ c) r h k f =
    let set : is_set s ≡ true = and_left _ _ h in
    copies_append r (map (without s) s) (all_ridges c)
    ∙ ap (λ l. copies r l + copies r (all_ridges c)) (drops_are s set)
    ∙ ap (λ n. n + copies r (all_ridges c)) (copies_drops s r set k (f s first))
    ∙ ap (λ n. one_if (is_within r s) + n) (copies_ridges c r (and_right (is_set s) _ h) k (λ t i. f t (later i)))
    ∙ elim (is_within r s) as (λ v. one_if v + degree c r ≡ length (cond v (s ∷ facets_with c r) (facets_with c r))) [ true ↦ omega arith | false ↦ omega arith ]

in_copies : (r : List ℕ) (l : List (List ℕ)) → 0 < copies r l → In r l
in_copies r [] h = absurd (omega arith)
in_copies r (s ∷ l) h =
    elim (same r s) as (λ v. same r s ≡ v → In r (s ∷ l)) [
      | true ↦ λ e. at_head r s l (same_at r s e)
      | false ↦ λ e. let more = copies_more r s l ∙ ap (λ v. one_if v + copies r l) e in later (in_copies r l (omega arith))
    ] refl

-- a set of one label less that lies in a set lacks one of its labels
pub lacking_in : (s r : List ℕ) → is_set s ≡ true → is_set r ≡ true → length r + 1 ≡ length s → is_within r s ≡ true → (a : ℕ) × In a s × (r ≡ without s a)
lacking_in s r h k l w =
    let one : copies r (drops s) ≡ 1 = copies_drops s r h k l ∙ ap one_if w in
    from_map (without s) r s (subst (λ x. In r x) (sym (drops_are s h)) (in_copies r (drops s) (omega arith)))

some_in : (s : List ℕ) (l : List (List ℕ)) → In s l → 0 < length l
some_in s [] i = absurd (none s i)
some_in s (t ∷ l) i = omega arith

pub record IsRidge (c : List (List ℕ)) (r : List ℕ) : Type 0 where
  pub set : is_set r ≡ true
  pub face : is_face c r ≡ true
  pub long : length r + 1 ≡ size c

from_all : (c : List (List ℕ)) (r : List ℕ) → list_all is_set c ≡ true → is_pure c ≡ true → In r (all_ridges c) → IsRidge c r
from_all c r h p i =
    let q = from_flat_map (λ s. map (without s) s) r c i in
    let m = from_map (without q.0) r q.0 q.2 in
    let set : is_set q.0 ≡ true = all_at is_set q.0 c h q.1 in
    record {
      set = ap is_set m.2 ∙ is_increasing-filter nat_cmp (λ b. not (m.0 == b)) q.0 set;
      face = face_from c r q.0 q.1 (in_within r q.0 (λ x j. (from_without q.0 m.0 x (subst (λ l. In x l) m.2 j)).0));
      long = omega (arith, length-without m.0 q.0 set m.1, pure_at c q.0 p q.1, ap length m.2);
    }

pub ridge_copies : (c : List (List ℕ)) (r : List ℕ) → list_all is_set c ≡ true → is_pure c ≡ true → IsRidge c r → copies r (all_ridges c) ≡ degree c r
ridge_copies c r h p q = copies_ridges c r h q.set (λ s i. q.long ∙ sym (pure_at c s p i))

in_all : (c : List (List ℕ)) (r : List ℕ) → list_all is_set c ≡ true → is_pure c ≡ true → IsRidge c r → In r (all_ridges c)
in_all c r h p q =
    let f = face_at c r q.face in
    let some : 0 < degree c r = some_in f.0 (facets_with c r) (in_filter (is_within r) f.0 c f.1 f.2) in
    in_copies r (all_ridges c) (omega (arith, ridge_copies c r h p q))

pub size_is : (n k : ℕ) → n + 1 ≡ k → (n + 1 == k) ≡ true
size_is n k e = grind (arith, nat_tests)

pub size_at : (n k : ℕ) → (n + 1 == k) ≡ true → n + 1 ≡ k
size_at n k e = grind (arith, nat_tests)

in_ridges : (c : List (List ℕ)) (r : List ℕ) → list_all is_set c ≡ true → IsRidge c r → In r (ridges c)
in_ridges c r h q = in_filter (λ t. length t + 1 == size c) r (faces c) (in_faces c r h q.set q.face) (size_is (length r) (size c) q.long)

from_ridges : (c : List (List ℕ)) (r : List ℕ) → list_all is_set c ≡ true → In r (ridges c) → IsRidge c r
from_ridges c r h i =
    let f = from_filter (λ t. length t + 1 == size c) r (faces c) i in
    let g = from_faces c r h f.0 in
    record { set = g.0; face = g.1; long = size_at (length r) (size c) f.1 }

-- ---- what the counts say

abbrev pub Counts : List (List ℕ) → (List ℕ → ℕ) → Type 0
Counts l at = (t : List ℕ) → at t ≡ min (copies t l) (2 ^ 32 - 1)

number_is : (n m d k : ℕ) → k < 2 ^ 32 - 1 → m ≡ min n (2 ^ 32 - 1) → n ≡ d → (m == k) ≡ (d == k)
number_is n m d k b e f = agree (m == k) (d == k) (λ t. let g : m ≡ k = grind (arith, nat_tests) in let i : d ≡ k = omega arith in grind (arith, nat_tests)) (λ t. let g : d ≡ k = grind (arith, nat_tests) in let i : m ≡ k = omega arith in grind (arith, nat_tests))

counted : (c : List (List ℕ)) (at : List ℕ → ℕ) (r : List ℕ) (k : ℕ) → list_all is_set c ≡ true → is_pure c ≡ true → Counts (all_ridges c) at → k < 2 ^ 32 - 1 → IsRidge c r → (at r == k) ≡ (degree c r == k)
counted c at r k h p f b q = number_is (copies r (all_ridges c)) (at r) (degree c r) k b (f r) (ridge_copies c r h p q)

pub boundary_is : (c : List (List ℕ)) (at : List ℕ → ℕ) → list_all is_set c ≡ true → is_pure c ≡ true → Counts (all_ridges c) at → generated (filter (λ r. at r == 1) (all_ridges c)) ≡ boundary c
boundary_is c at h p f =
    generated_same (filter (λ r. at r == 1) (all_ridges c)) (filter (λ r. degree c r == 1) (ridges c))
    (λ r i. let q = from_filter (λ r. at r == 1) r (all_ridges c) i in let g = from_all c r h p q.0 in
    in_filter (λ r. degree c r == 1) r (ridges c) (in_ridges c r h g) (sym (counted c at r 1 h p f (omega arith) g) ∙ q.1))
    (λ r i. let q = from_filter (λ r. degree c r == 1) r (ridges c) i in let g = from_ridges c r h q.0 in
    in_filter (λ r. at r == 1) r (all_ridges c) (in_all c r h p g) (counted c at r 1 h p f (omega arith) g ∙ q.1))

pub closed_is : (c : List (List ℕ)) (at : List ℕ → ℕ) → list_all is_set c ≡ true → is_pure c ≡ true → Counts (all_ridges c) at → list_all (λ r. at r == 2) (all_ridges c) ≡ is_closed c
closed_is c at h p f =
    agree (list_all (λ r. at r == 2) (all_ridges c)) (list_all (λ r. degree c r == 2) (ridges c))
    (λ t. all_from (λ r. degree c r == 2) (ridges c) (λ r i. let g = from_ridges c r h i in sym (counted c at r 2 h p f (omega arith) g) ∙ all_at (λ r. at r == 2) r (all_ridges c) t (in_all c r h p g)))
    (λ t. all_from (λ r. at r == 2) (all_ridges c) (λ r i. let g = from_all c r h p i in counted c at r 2 h p f (omega arith) g ∙ all_at (λ r. degree c r == 2) r (ridges c) t (in_ridges c r h g)))
    ∙ sym (ap (λ b. b && list_all (λ r. degree c r == 2) (ridges c)) p)
