-- How many faces a complex has.
use Rattle.std.proofs.Common.{◌≡◌, ◌≤◌, ◌<◌, ℕ, suc, ◌+◌, ◌*◌, ◌^◌, min, leb, Bool, true, false, cond, List, [], ◌∷◌, map, length, get_or, refl, sym, ap, ◌∙◌, subst, arith, length-append}
use Rattle.std.specs.Prelude.{◌==◌}
use Rattle.std.specs.Bool.{IsTrue}
use Rattle.std.specs.List.{All, list_all, filter, flat_map, range_with_len}
use Rattle.std.specs.Ordering.{match_ordering}
use Rattle.std.specs.declared.cmp.Ordering.{Ordering}
use Rattle.std.specs.declared.cmp.Ordering.TheVariants.{Less, Equal, Greater}
use Rattle.std.proofs.lemmas.Bool.Decides.{nat_tests}
use Rattle.std.proofs.lemmas.List.{length-map, nil_from_length}
use Rattle.std.proofs.lemmas.List.Elements.{All-map, All-from_get_or}
use Rattle.std.proofs.Math.Nat.{pow-le-pow_right, pow-suc}
use Rattle.simplex.specs.InOrder.{in_order, put}
use Rattle.simplex.specs.Simplex.{is_simplex, simplex_cmp, subsets}
use Rattle.facet_set.specs.Complex.{faces}
use Rattle.facet_set.specs.Numbers.{size, weight, faces_of_size, face_count, f_vector, weight_limit}
use Rattle.face_lattice.proofs.KeyLaws.{none_longer}
use Rattle.face_vectors.specs.Counts.{numbers, IsWithinLimits}
use Rattle.face_vectors.specs.declared.counts.Counts.{Counts}
use Rattle.face_vectors.specs.declared.counts.TheConstants.{COUNT_LIMIT}

put_more : {X : Type 0} (cmp : X → X → Ordering) (x : X) (ys : List X) → length (put cmp x ys) ≤ suc (length ys)
put_more cmp x [] = omega arith
put_more cmp x (y ∷ ys) = elim (cmp x y) as (λ r. length (match_ordering r (x ∷ y ∷ ys) (y ∷ ys) (y ∷ put cmp x ys)) ≤ suc (suc (length ys))) [
  | Less ↦ omega arith
  | Equal ↦ omega arith
  | Greater ↦ omega (arith, put_more cmp x ys)
]

-- a set has no more members than its list
in_order_most : {X : Type 0} (cmp : X → X → Ordering) (xs : List X) → length (in_order cmp xs) ≤ length xs
in_order_most cmp [] = omega arith
in_order_most cmp (x ∷ xs) = omega (arith, put_more cmp x (in_order cmp xs), in_order_most cmp xs)

filter_most : {X : Type 0} (p : X → Bool) (xs : List X) → length (filter p xs) ≤ length xs
filter_most p [] = omega arith
filter_most p (x ∷ xs) = elim (p x) as (λ b. length (cond b (x ∷ filter p xs) (filter p xs)) ≤ suc (length xs)) [
  | true ↦ omega (arith, filter_most p xs)
  | false ↦ omega (arith, filter_most p xs)
]

subset_count : (s : List ℕ) → length (subsets s) ≡ 2 ^ length s
subset_count [] = refl
subset_count (a ∷ s) =
    let both = length-append (map (λ t. a ∷ t) (subsets s)) (subsets s) in
    let same = length-map (subsets s) (λ t. a ∷ t) in
    omega (arith, both, same, subset_count s, pow-suc 2 (length s))

subsets_most : (c : List (List ℕ)) (m : ℕ) → size c ≤ m → length (flat_map subsets c) ≤ length c * 2 ^ m
subsets_most [] m h = omega arith
subsets_most (s ∷ c) m h =
    let both = length-append (subsets s) (flat_map subsets c) in
    let p : 2 ^ length s ≤ 2 ^ m = pow-le-pow_right {n = 2} (omega arith) {i = length s} {j = m} (omega (arith, h)) in
    let r = subsets_most c m (omega (arith, h)) in
    omega (arith, both, p, r, subset_count s)

-- no number of faces is above the weight
pub face_count_most : (c : List (List ℕ)) (n : ℕ) → face_count c n ≤ weight c
face_count_most c n =
    let a = filter_most (λ s. length s == n) (faces c) in
    let b = in_order_most simplex_cmp (flat_map subsets c) in
    let d = subsets_most c (size c) (omega arith) in
    omega (arith, a, b, d)

pub counts_within : (c : List (List ℕ)) (k : Counts) → numbers k ≡ f_vector c → k.size ≡ size c → size c ≤ 12 → weight c ≤ weight_limit → IsWithinLimits k
counts_within c k e z s w = record {
  size = omega arith;
  counts = subst (All (λ n. n ≤ COUNT_LIMIT)) (sym e) (All-map (λ n. n ≤ COUNT_LIMIT) (face_count c) sizes
      (All-from_get_or (λ n. face_count c n ≤ COUNT_LIMIT) sizes 0 (λ i l. omega (arith, face_count_most c (get_or sizes i 0), w))));
}
  where
    sizes : List ℕ
    sizes = range_with_len 1 (size c)

no_faces : (c : List (List ℕ)) (n : ℕ) → IsTrue (list_all is_simplex c) → 12 < n → faces_of_size c n ≡ []
no_faces c n h l = nil_from_length (faces_of_size c n) (none_longer c n h l)

-- no face has more labels than a simplex may have
pub faces_limited : (c : List (List ℕ)) (k : ℕ) → IsTrue (list_all is_simplex c) → faces_of_size c (min k 12 + 1) ≡ faces_of_size c (k + 1)
faces_limited c k h = elim (leb k 12) as (λ v. leb k 12 ≡ v → faces_of_size c (min k 12 + 1) ≡ faces_of_size c (k + 1)) [
  | true ↦ λ e. let l : k ≤ 12 = grind (arith, nat_tests) in let m : min k 12 ≡ k = omega (arith, l) in ap (λ n. faces_of_size c (n + 1)) m
  | false ↦ λ e. let l : 12 < k = grind (arith, nat_tests) in no_faces c (min k 12 + 1) h (omega (arith, l)) ∙ sym (no_faces c (k + 1) h (omega (arith, l)))
] refl
