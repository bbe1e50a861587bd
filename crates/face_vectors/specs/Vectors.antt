-- The numbers that a complex with f_0, f_1, .. , f_d faces has: fs is the list of these, and its length is d + 1.
use Rattle.std.specs.Prelude.{ℕ, zero, suc, ◌+◌, ◌-◌, ◌*◌, ◌/◌, List, [], ◌∷◌, map, length, fold, slice_index, ℤ, pos, ◌+ℤ◌, ◌-ℤ◌, neg_ℤ}
use Rattle.std.specs.List.{range_with_len}
use Rattle.simplex.specs.Binomials.{choose}

-- (-1)^k * z
abbrev pub signed : ℕ → ℤ → ℤ
signed zero z = z
signed (suc k) z = neg_ℤ (signed k z)

-- the sum of the integers
abbrev pub sum_ℤ : List ℤ → ℤ
sum_ℤ zs = fold ◌+ℤ◌ (pos 0) zs

-- f_0 - (f_1 - (f_2 - ..)), the Euler characteristic
abbrev pub alternating : List ℕ → ℤ
alternating [] = pos 0
alternating (n ∷ ns) = pos n -ℤ alternating ns

-- f_(i-1), the number of faces with i labels, of which the empty face is one
abbrev pub count_of_size : List ℕ → ℕ → ℕ
count_of_size fs zero = 1
count_of_size fs (suc k) = slice_index fs k

-- (-1)^(k-i) * C(d+1-i, k-i) * f_(i-1)
abbrev pub h_term : List ℕ → ℕ → ℕ → ℤ
h_term fs k i = signed (k - i) (pos (choose (length fs - i) (k - i) * count_of_size fs i))

-- h_k, the sum of these terms over i = 0, .., k
abbrev pub h_of : List ℕ → ℕ → ℤ
h_of fs k = sum_ℤ (map (h_term fs k) (range_with_len 0 (k + 1)))

-- h_0, .., h_(d+1)
abbrev pub h_vector_of : List ℕ → List ℤ
h_vector_of fs = map (h_of fs) (range_with_len 0 (length fs + 1))

-- g_0 = h_0, and g_k = h_k - h_(k-1)
abbrev pub g_of : List ℕ → ℕ → ℤ
g_of fs zero = h_of fs 0
g_of fs (suc k) = h_of fs (suc k) -ℤ h_of fs k

-- g_0, g_1, .. up to half of d + 1
abbrev pub g_vector_of : List ℕ → List ℤ
g_vector_of fs = map (g_of fs) (range_with_len 0 (length fs / 2 + 1))
