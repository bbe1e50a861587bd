-- A read of n bytes from a place in the bytes of a source in memory.
use Rattle.std.proofs.Common.{◌≡◌, ℕ, ◌+◌, ◌≤◌, length, take, drop, List, ◌++◌, sym, ap, ◌∙◌, arith, length-drop, length-take-le, take-append-drop}
use Rattle.std.proofs.Math.Seq.{take-append_seam}
use Rattle.std.proofs.lemmas.List.{drop-drop}

front : (part rest : List ℕ) (n : ℕ) → length part ≡ n → take n (part ++ rest) ≡ part
front part rest n e = ap (λ k. take k (part ++ rest)) (sym e) ∙ take-append_seam part rest

pub read_part : (bytes buf part : List ℕ) (at n : ℕ) → at + n ≤ length bytes → part ≡ take n (drop at bytes)
    → drop at bytes ≡ take n (part ++ drop n buf) ++ drop (at + n) bytes
read_part bytes buf part at n h e =
    let len : length part ≡ n = ap length e ∙ length-take-le n (drop at bytes) (omega (arith, length-drop at bytes)) in
    sym (ap (λ xs. xs ++ drop (at + n) bytes) (front part (drop n buf) n len ∙ e)
    ∙ ap (λ xs. take n (drop at bytes) ++ xs) (sym (drop-drop n at bytes))
    ∙ take-append-drop n (drop at bytes))
