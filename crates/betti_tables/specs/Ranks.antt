-- Betti numbers modulo 2, by the ranks of the boundaries of faces (textbook).
use Rattle.std.specs.Prelude.{ℕ, ◌+◌, ◌==◌, ℤ, pos, ◌-ℤ◌, List, map, if◌then◌else◌}
use Rattle.std.specs.List.{range_with_len}
use Rattle.simplex.specs.Simplex.{simplex_cmp, without}
use Rattle.facet_set.specs.Numbers.{face_count, faces_of_size, size}
use Rattle.gf2_rank.specs.Span.{rank}

-- the subsets with one label less
abbrev pub column : List ℕ → List (List ℕ)
column s = map (without s) s

-- rank(k), the rank of the columns of all faces with k + 1 labels; rank(0) is 0
unfoldable pub rank_at : List (List ℕ) → ℕ → ℕ
rank_at c k = if k == 0 then 0 else rank simplex_cmp (map column (faces_of_size c (k + 1)))

-- b_k = f_k - rank(k) - rank(k+1)
abbrev pub betti_number : List (List ℕ) → ℕ → ℤ
betti_number c k = pos (face_count c (k + 1)) -ℤ pos (rank_at c k) -ℤ pos (rank_at c (k + 1))

-- b_0, .., b_d
abbrev pub betti_vector : List (List ℕ) → List ℤ
betti_vector c = map (betti_number c) (range_with_len 0 (size c))
