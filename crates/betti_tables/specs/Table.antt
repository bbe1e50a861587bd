-- Tables of ranks. The place k holds rank(k), where it is kept; rank(0) never is.
use Rattle.std.specs.Prelude.{◌≡◌, ℕ, ◌-◌, ◌&&◌, not, List, length, replicate, slice_index_or, nat_le, nat_lt, Option, Some, None, if◌then◌else◌}
use Rattle.std.specs.List.{filter, range_with_len}
use Rattle.std.specs.Option.{is_some}
use Rattle.betti_tables.specs.Ranks.{rank_at}

-- the rank that is kept for k, if it is
abbrev pub kept : List (Option ℕ) → ℕ → Option ℕ
kept t k = slice_index_or t k None

-- the table with no rank
abbrev pub no_ranks : List (Option ℕ)
no_ranks = replicate 12 None

-- each kept rank is that of the complex
abbrev pub AreRanksOf : List (List ℕ) → List (Option ℕ) → Type 0
AreRanksOf c t = (k r : ℕ) → kept t k ≡ Some r → r ≡ rank_at c k

-- what is kept for k once rank(1), .., rank(n-1) of the complex are kept too
abbrev pub kept_after : List (List ℕ) → List (Option ℕ) → ℕ → ℕ → Option ℕ
kept_after c t n k = if nat_le 1 k && nat_lt k n then Some (rank_at c k) else kept t k

-- those of 1, .., n-1 whose ranks are not kept
abbrev pub missing : List (Option ℕ) → ℕ → List ℕ
missing t n = filter (λ k. not (is_some (kept t k))) (range_with_len 1 (n - 1))

-- how many ranks are kept
abbrev pub kept_count : List (Option ℕ) → ℕ
kept_count t = length (filter is_some t)
