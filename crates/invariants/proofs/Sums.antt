-- Sets counted with the signs of their numbers of labels.
use Rattle.std.proofs.Common.{◌≡◌, ℕ, zero, suc, ◌+◌, ◌<◌, ◌≤◌, Bool, true, false, not, cond, List, [], ◌∷◌, ◌++◌, map, length, ℤ, pos, ◌+ℤ◌, neg_ℤ, refl, sym, ap, ◌∙◌, subst, ◌⊎◌, inl, inr, arith}
use Rattle.std.specs.Ordering.{is_lt, match_ordering}
use Rattle.std.specs.declared.cmp.Ordering.TheVariants.{Less, Equal, Greater}
use Rattle.std.specs.List.{list_all, filter}
use Rattle.std.proofs.lemmas.Int.{ints}
use Rattle.std.proofs.lemmas.Cmp.{nat_list_cmp_total}
use Rattle.simplex.specs.InOrder.{is_increasing, put}
use Rattle.simplex.specs.Simplex.{simplex_cmp, subsets}
use Rattle.simplex.proofs.InOrderLaws.{and_left, and_right}
use Rattle.simplex.proofs.Members.{In, first, later, cases, at_head, none, all_at, in_map, from_map, in_left, in_right, in_either}
use Rattle.simplex.proofs.SimplexLaws.{within_in, above_at, rest_increasing}
use Rattle.facet_set.specs.ClassLaws.{IsOnce}
use Rattle.facet_set.specs.Complex.{simplices}
use Rattle.facet_set.proofs.ComplexLaws.{exact, is_set, from_simplices, from_subsets}
use Rattle.facet_set.proofs.Counting.{count-put}
use Rattle.facet_set.proofs.FacetLaws.{not_below_itself}
use Rattle.face_vectors.specs.Vectors.{signed}
use Rattle.face_vectors.proofs.SignLaws.{signed-add, signed-zero}

-- (-1)^n
abbrev pub sign : ℕ → ℤ
sign n = signed n (pos 1)

-- the sum of (-1)^|s|
abbrev pub weigh : List (List ℕ) → ℤ
weigh [] = pos 0
weigh (s ∷ l) = sign (length s) +ℤ weigh l

pub weigh-append : (l m : List (List ℕ)) → weigh (l ++ m) ≡ weigh l +ℤ weigh m
weigh-append [] m = omega (arith, ints)
weigh-append (s ∷ l) m = omega (arith, ints, weigh-append l m)

pub weigh-parts : (p : List ℕ → Bool) (l : List (List ℕ)) → weigh l ≡ weigh (filter p l) +ℤ weigh (filter (λ s. not (p s)) l)
weigh-parts p [] = omega (arith, ints)
weigh-parts p (s ∷ l) =
    let rest = weigh-parts p l in
    elim (p s) as (λ v. sign (length s) +ℤ weigh l ≡ weigh (cond v (s ∷ filter p l) (filter p l)) +ℤ weigh (cond (not v) (s ∷ filter (λ s. not (p s)) l) (filter (λ s. not (p s)) l))) [
      | true ↦ omega (arith, ints, rest)
      | false ↦ omega (arith, ints, rest)
    ]

-- ---- lists in which nothing stands twice
pub once-map : {X Y : Type 0} (f : X → Y) (l : List X) → IsOnce X l → ((x y : X) → In x l → In y l → f x ≡ f y → x ≡ y) → IsOnce Y (map f l)
once-map f [] h inj = tt
once-map f (x ∷ l) h inj = (
  λ i. let r = from_map f (f x) l i in h.0 (subst (λ y. In y l) (sym (inj x r.0 first (later r.1) r.2)) r.1),
  once-map f l h.1 (λ y z i j e. inj y z (later i) (later j) e),
)

pub once-append : {X : Type 0} (xs ys : List X) → IsOnce X xs → IsOnce X ys → ((x : X) → In x xs → In x ys → ⊥) → IsOnce X (xs ++ ys)
once-append [] ys h k f = k
once-append (x ∷ xs) ys h k f = (λ i. elim (in_either x xs ys i) [ inl j ↦ h.0 j | inr j ↦ f x first j ], once-append xs ys h.1 k (λ y i j. f y (later i) j))

pub once-rising : (l : List (List ℕ)) → is_increasing simplex_cmp l ≡ true → IsOnce (List ℕ) l
once-rising [] h = tt
once-rising (s ∷ l) h = (λ i. not_below_itself s (all_at (λ y. is_lt (simplex_cmp s y)) s l (and_left _ _ h) i), once-rising l (and_right (list_all (λ y. is_lt (simplex_cmp s y)) l) _ h))

pub once-labels : (s : List ℕ) → is_set s ≡ true → IsOnce ℕ s
once-labels [] h = tt
once-labels (a ∷ s) h = (λ i. let l = above_at a s a h i in omega arith, once-labels s (rest_increasing a s h))

-- ---- putting sets in order
weigh-put : (s : List ℕ) (l : List (List ℕ)) → (In s l → ⊥) → weigh (put simplex_cmp s l) ≡ sign (length s) +ℤ weigh l
weigh-put s [] f = refl
weigh-put s (t ∷ l) f =
    elim (simplex_cmp s t) as (λ r. simplex_cmp s t ≡ r → weigh (match_ordering r (s ∷ t ∷ l) (t ∷ l) (t ∷ put simplex_cmp s l)) ≡ sign (length s) +ℤ (sign (length t) +ℤ weigh l)) [
      | Less ↦ λ e. refl
      | Equal ↦ λ e. absurd (f (at_head s t l (exact s t e)))
      | Greater ↦ λ e. let r = weigh-put s l (λ i. f (later i)) in omega (arith, ints, r)
    ] refl

pub weigh-simplices : (l : List (List ℕ)) → IsOnce (List ℕ) l → weigh (simplices l) ≡ weigh l
weigh-simplices [] h = refl
weigh-simplices (s ∷ l) h = weigh-put s (simplices l) (λ i. h.0 (from_simplices s l i)) ∙ ap (λ z. sign (length s) +ℤ z) (weigh-simplices l h.1)

pub length-simplices : (l : List (List ℕ)) → IsOnce (List ℕ) l → length (simplices l) ≡ length l
length-simplices [] h = refl
length-simplices (s ∷ l) h = count-put nat_list_cmp_total exact s (simplices l) (λ i. h.0 (from_simplices s l i)) ∙ ap suc (length-simplices l h.1)

-- ---- subsets

-- all subsets but the whole
abbrev pub proper : List ℕ → List (List ℕ)
proper [] = []
proper (a ∷ s) = map (λ t. a ∷ t) (proper s) ++ subsets s

weigh-led : (a : ℕ) (l : List (List ℕ)) → weigh (map (λ t. a ∷ t) l) ≡ neg_ℤ (weigh l)
weigh-led a [] = refl
weigh-led a (t ∷ l) = omega (arith, ints, weigh-led a l)

weigh-subsets : (a : ℕ) (s : List ℕ) → weigh (subsets (a ∷ s)) ≡ pos 0
weigh-subsets a s = let x = weigh-append (map (λ t. a ∷ t) (subsets s)) (subsets s) in let y = weigh-led a (subsets s) in omega (arith, ints, x, y)

pub weigh-proper : (s : List ℕ) → 0 < length s → weigh (proper s) ≡ neg_ℤ (sign (length s))
weigh-proper [] h = absurd (omega arith)
weigh-proper (a ∷ []) h = refl
weigh-proper (a ∷ b ∷ s) h =
    let x = weigh-append (map (λ t. a ∷ t) (proper (b ∷ s))) (subsets (b ∷ s)) in
    let y = weigh-led a (proper (b ∷ s)) in
    let z = weigh-subsets b s in
    let r = weigh-proper (b ∷ s) (omega arith) in
    omega (arith, ints, x, y, z, r)

pub in_proper : (s t : List ℕ) → In t (subsets s) → (t ≡ s) ⊎ In t (proper s)
in_proper [] t i = elim (cases i) [ inl e ↦ inl e | inr j ↦ absurd (none t j) ]
in_proper (a ∷ s) t i = elim (in_either t (map (λ u. a ∷ u) (subsets s)) (subsets s) i) [
  | inl j ↦ let r = from_map (λ (u : List ℕ). a ∷ u) t (subsets s) j in elim (in_proper s r.0 r.1) [
    | inl e ↦ inl (r.2 ∙ ap (λ (u : List ℕ). a ∷ u) e)
    | inr k ↦ inr (in_left t (map (λ u. a ∷ u) (proper s)) (subsets s) (subst (λ u. In u (map (λ u. a ∷ u) (proper s))) (sym r.2) (in_map (λ (u : List ℕ). a ∷ u) r.0 (proper s) k)))
  ]
  | inr j ↦ inr (in_right t (map (λ u. a ∷ u) (proper s)) (subsets s) j)
]

pub from_proper : (s t : List ℕ) → In t (proper s) → In t (subsets s)
from_proper [] t i = absurd (none t i)
from_proper (a ∷ s) t i = elim (in_either t (map (λ u. a ∷ u) (proper s)) (subsets s) i) [
  | inl j ↦ let r = from_map (λ (u : List ℕ). a ∷ u) t (proper s) j in
      in_left t (map (λ u. a ∷ u) (subsets s)) (subsets s) (subst (λ u. In u (map (λ u. a ∷ u) (subsets s))) (sym r.2) (in_map (λ (u : List ℕ). a ∷ u) r.0 (subsets s) (from_proper s r.0 r.1)))
  | inr j ↦ in_right t (map (λ u. a ∷ u) (subsets s)) (subsets s) j
]

subset_short : (s t : List ℕ) → In t (subsets s) → length t ≤ length s
subset_short [] t i = elim (cases i) [ inl e ↦ let f = ap length e in omega arith | inr j ↦ absurd (none t j) ]
subset_short (a ∷ s) t i = elim (in_either t (map (λ u. a ∷ u) (subsets s)) (subsets s) i) [
  | inl j ↦ let r = from_map (λ (u : List ℕ). a ∷ u) t (subsets s) j in let l = subset_short s r.0 r.1 in let e = ap length r.2 in omega arith
  | inr j ↦ let l = subset_short s t j in omega arith
]

pub proper_short : (s t : List ℕ) → In t (proper s) → length t < length s
proper_short [] t i = absurd (none t i)
proper_short (a ∷ s) t i = elim (in_either t (map (λ u. a ∷ u) (proper s)) (subsets s) i) [
  | inl j ↦ let r = from_map (λ (u : List ℕ). a ∷ u) t (proper s) j in let l = proper_short s r.0 r.1 in let e = ap length r.2 in omega arith
  | inr j ↦ let l = subset_short s t j in omega arith
]

led_apart : (a : ℕ) (s : List ℕ) (l : List (List ℕ)) → is_set (a ∷ s) ≡ true → (t : List ℕ) → In t (map (λ u. a ∷ u) l) → In t (subsets s) → ⊥
led_apart a s l h t i j =
    let r = from_map (λ (u : List ℕ). a ∷ u) t l i in
    let w = (from_subsets s t (rest_increasing a s h) j).1 in
    let k = above_at a s a h (within_in t s a w (subst (λ u. In a u) (sym r.2) first)) in
    omega arith

led_once : (a : ℕ) (l : List (List ℕ)) → IsOnce (List ℕ) l → IsOnce (List ℕ) (map (λ u. a ∷ u) l)
led_once a l h = once-map (λ (u : List ℕ). a ∷ u) l h (λ x y i j e. cc)

once-subsets : (s : List ℕ) → is_set s ≡ true → IsOnce (List ℕ) (subsets s)
once-subsets [] h = (λ i. none [] i, tt)
once-subsets (a ∷ s) h =
    let rest = once-subsets s (rest_increasing a s h) in
    once-append (map (λ u. a ∷ u) (subsets s)) (subsets s) (led_once a (subsets s) rest) rest (led_apart a s (subsets s) h)

pub once-proper : (s : List ℕ) → is_set s ≡ true → IsOnce (List ℕ) (proper s)
once-proper [] h = tt
once-proper (a ∷ s) h =
    once-append (map (λ u. a ∷ u) (proper s)) (subsets s) (led_once a (proper s) (once-proper s (rest_increasing a s h))) (once-subsets s (rest_increasing a s h)) (led_apart a s (proper s) h)

-- ---- signs
pub sign-add : (n k : ℕ) → sign (n + k) ≡ signed n (sign k)
sign-add zero k = let e : 0 + k ≡ k = omega arith in ap sign e
sign-add (suc n) k = let e : suc n + k ≡ suc (n + k) = omega arith in ap sign e ∙ ap neg_ℤ (sign-add n k)

-- each set made longer by n
pub weigh-longer : (f : List ℕ → List ℕ) (n : ℕ) (l : List (List ℕ)) → ((t : List ℕ) → In t l → length (f t) ≡ n + length t) → weigh (map f l) ≡ signed n (weigh l)
weigh-longer f n [] h = sym (signed-zero n)
weigh-longer f n (t ∷ l) h =
    (λ i. (ap sign (h t first) ∙ sign-add n (length t)) i +ℤ weigh-longer f n l (λ u j. h u (later j)) i) ∙ sym (signed-add n (sign (length t)) (weigh l))
