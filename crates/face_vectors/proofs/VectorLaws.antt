-- The sums and rows of numbers, one term on.
use Rattle.std.proofs.Common.{◌≡◌, ℕ, ◌+◌, ◌-◌, ◌<◌, ◌≤◌, List, [], ◌∷◌, ◌++◌, ℤ, pos, ◌+ℤ◌, ◌-ℤ◌, map, length, take, drop, get_or, ◌∙◌, ap, subst, sym, arith}
use Rattle.std.specs.List.{All, range_with_len}
use Rattle.std.proofs.lemmas.List.{drop_more, get_or-take, length-take-le}
use Rattle.std.proofs.lemmas.List.FromFn.{map-range_with_len_more}
use Rattle.std.proofs.lemmas.List.Sums.{fold_push}
use Rattle.face_vectors.specs.Vectors.{alternating, sum_ℤ}

-- one entry more
pub entries_more : (t : ℕ → ℤ) (xs ys : List ℤ) (k : ℕ) (z : ℤ) → ys ≡ xs ++ z ∷ [] → xs ≡ map t (range_with_len 0 k) → z ≡ t k → ys ≡ map t (range_with_len 0 (k + 1))
entries_more t xs ys k z e f g = e ∙ ap (λ v. v ++ z ∷ []) f ∙ ap (λ v. map t (range_with_len 0 k) ++ v ∷ []) g ∙ sym (map-range_with_len_more t 0 k k (omega arith))

-- one term more
pub sum_more : (t : ℕ → ℤ) (k : ℕ) → sum_ℤ (map t (range_with_len 0 (k + 1))) ≡ sum_ℤ (map t (range_with_len 0 k)) +ℤ t k
sum_more t k = ap sum_ℤ (map-range_with_len_more t 0 k k (omega arith)) ∙ fold_push ◌+ℤ◌ (pos 0) (map t (range_with_len 0 k)) (t k)

-- the alternating sum from one place before
pub alternating-drop : (size : ℕ) (at : List ℕ) (k : ℕ) → 0 < k → k ≤ size → size ≤ length at
    → alternating (drop (k - 1) (take size at)) ≡ pos (get_or at (k - 1) 0) -ℤ alternating (drop k (take size at))
alternating-drop size at k p q r =
    let xs = take size at in
    let there : k - 1 < length xs = omega (arith, length-take-le size at r) in
    let next : k - 1 + 1 ≡ k = omega arith in
    ap alternating (drop_more xs (k - 1) 0 there)
    ∙ ap (λ n. pos n -ℤ alternating (drop (k - 1 + 1) xs)) (get_or-take size at (k - 1) 0 (omega arith))
    ∙ ap (λ n. pos (get_or at (k - 1) 0) -ℤ alternating (drop n xs)) next

-- what holds of each number holds of the one at a place
pub number_at : (P : ℕ → Type 0) (size : ℕ) (at : List ℕ) (k : ℕ) → k < size → size ≤ length at → All P (take size at) → P (get_or at k 0)
number_at P size at k p q h =
    let there : k < length (take size at) = omega (arith, length-take-le size at q) in
    subst P (get_or-take size at k 0 p) (h k 0 there)
