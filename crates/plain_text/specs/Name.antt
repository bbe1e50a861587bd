-- How a name lies in 32 cells: its bytes, and then zeros.
use Rattle.std.specs.Prelude.{◌≡◌, ℕ, ◌-◌, ◌≤◌, List, ◌++◌, length, take, drop, replicate, IsTrue}
use Rattle.std.proofs.Common.{ap, ◌∙◌, sym, arith, take-append-drop, length-take-le}
use Rattle.plain_text.specs.Bytes.{is_word}

pub record IsNamed (cells : List ℕ) (len : ℕ) : Type 0 where
  pub whole : length cells ≡ 32
  pub short : len ≤ 32
  pub rest : drop len cells ≡ replicate (32 - len) 0
  pub word : IsTrue (is_word (take len cells))

pub named_len : (cells : List ℕ) (len : ℕ) → IsNamed cells len → length (take len cells) ≡ len
named_len cells len h = length-take-le len cells (omega (arith, h.whole, h.short))

pub named_back : (cells : List ℕ) (len : ℕ) → IsNamed cells len → take len cells ++ replicate (32 - length (take len cells)) 0 ≡ cells
named_back cells len h =
    ap (λ n. take len cells ++ replicate (32 - n) 0) (named_len cells len h)
    ∙ ap (λ xs. take len cells ++ xs) (sym h.rest)
    ∙ take-append-drop len cells
