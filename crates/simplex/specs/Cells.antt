-- How a simplex lies in twelve cells: its labels, and then zeros.
use Rattle.std.specs.Prelude.{◌≡◌, ℕ, ◌-◌, ◌≤◌, List, ◌++◌, length, take, drop, replicate, IsTrue}
use Rattle.std.proofs.Common.{ap, ◌∙◌, sym, arith, take-append-drop, length-take-le}
use Rattle.simplex.specs.Simplex.{is_simplex}

pub record IsFilled (cells : List ℕ) (len : ℕ) : Type 0 where
  pub whole : length cells ≡ 12
  pub short : len ≤ 12
  pub rest : drop len cells ≡ replicate (12 - len) 0
  pub simplex : IsTrue (is_simplex (take len cells))

pub filled_len : (cells : List ℕ) (len : ℕ) → IsFilled cells len → length (take len cells) ≡ len
filled_len cells len h = length-take-le len cells (omega (arith, h.whole, h.short))

pub filled_back : (cells : List ℕ) (len : ℕ) → IsFilled cells len → take len cells ++ replicate (12 - length (take len cells)) 0 ≡ cells
filled_back cells len h =
    ap (λ n. take len cells ++ replicate (12 - n) 0) (filled_len cells len h)
    ∙ ap (λ xs. take len cells ++ xs) (sym h.rest)
    ∙ take-append-drop len cells
