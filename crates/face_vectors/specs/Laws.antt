-- How the vectors and the Euler characteristic of any numbers of faces are related.
use Rattle.std.specs.Prelude.{◌≡◌, ℕ, List, map, length, slice_index, pos, ◌-ℤ◌}
use Rattle.std.specs.List.{range_with_len}
use Rattle.face_vectors.specs.Vectors.{alternating, count_of_size, h_of, h_vector_of, signed, sum_ℤ}

-- the Euler characteristic is the sum of the numbers (-1)^k f_k
abbrev pub EulerIsSignedSum : Type 0
EulerIsSignedSum = (fs : List ℕ) → alternating fs ≡ sum_ℤ (map (λ k. signed k (pos (slice_index fs k))) (range_with_len 0 (length fs)))

-- the Euler characteristic is 1 - (-1)^(d+1) h_(d+1)
abbrev pub EulerByH : Type 0
EulerByH = (fs : List ℕ) → alternating fs ≡ pos 1 -ℤ signed (length fs) (h_of fs (length fs))

-- the numbers h_0, .., h_(d+1) add up to f_d
abbrev pub HSumsToTop : Type 0
HSumsToTop = (fs : List ℕ) → sum_ℤ (h_vector_of fs) ≡ pos (count_of_size fs (length fs))
