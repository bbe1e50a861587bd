-- No number of faces is above the weight.
use Rattle.std.proofs.Common.{◌≡◌, ℕ, suc, ◌*◌, ◌^◌, ◌≤◌, Bool, true, false, cond, List, [], ◌∷◌, map, length, get_or, refl, arith, length-append}
use Rattle.std.specs.Prelude.{◌==◌}
use Rattle.std.specs.List.{All, filter, flat_map, range_with_len}
use Rattle.std.proofs.lemmas.List.{length-map}
use Rattle.std.proofs.lemmas.List.Elements.{All-map, All-from_get_or}
use Rattle.std.proofs.Math.Nat.{pow-le-pow_right, pow-suc}
use Rattle.simplex.specs.Simplex.{simplex_cmp, subsets}
use Rattle.facet_set.specs.Complex.{faces}
use Rattle.facet_set.specs.Numbers.{f_vector, face_count, size, weight}
use Rattle.facet_set.proofs.Counting.{most-in_order}
use Rattle.face_vectors.specs.declared.counts.TheConstants.{COUNT_LIMIT}

most-filter : {X : Type 0} (p : X → Bool) (xs : List X) → length (filter p xs) ≤ length xs
most-filter p [] = omega arith
most-filter p (x ∷ xs) = elim (p x) as (λ b. length (cond b (x ∷ filter p xs) (filter p xs)) ≤ suc (length xs)) [
  | true ↦ omega (arith, most-filter p xs)
  | false ↦ omega (arith, most-filter p xs)
]

count-subsets : (s : List ℕ) → length (subsets s) ≡ 2 ^ length s
count-subsets [] = refl
count-subsets (a ∷ s) =
    let both = length-append (map (λ t. a ∷ t) (subsets s)) (subsets s) in
    let same = length-map (subsets s) (λ t. a ∷ t) in
    omega (arith, both, same, count-subsets s, pow-suc 2 (length s))

most-subsets : (c : List (List ℕ)) (m : ℕ) → size c ≤ m → length (flat_map subsets c) ≤ length c * 2 ^ m
most-subsets [] m h = omega arith
most-subsets (s ∷ c) m h =
    let both = length-append (subsets s) (flat_map subsets c) in
    let p : 2 ^ length s ≤ 2 ^ m = pow-le-pow_right {n = 2} (omega arith) {i = length s} {j = m} (omega (arith, h)) in
    let r = most-subsets c m (omega (arith, h)) in
    omega (arith, both, p, r, count-subsets s)

pub most-faces : (c : List (List ℕ)) (n : ℕ) → face_count c n ≤ weight c
most-faces c n =
    let a = most-filter (λ s. length s == n) (faces c) in
    let b = most-in_order simplex_cmp (flat_map subsets c) in
    let d = most-subsets c (size c) (omega arith) in
    omega (arith, a, b, d)

pub few_faces : (c : List (List ℕ)) → weight c ≤ COUNT_LIMIT → All (λ n. n ≤ COUNT_LIMIT) (f_vector c)
few_faces c w =
    let sizes = range_with_len 1 (size c) in
    All-map (λ n. n ≤ COUNT_LIMIT) (face_count c) sizes (All-from_get_or (λ n. face_count c n ≤ COUNT_LIMIT) sizes 0 (λ i l. omega (arith, most-faces c (get_or sizes i 0), w)))
