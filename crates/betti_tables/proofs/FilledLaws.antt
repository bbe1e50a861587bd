-- How numbers come to lie in twelve places.
use Rattle.std.proofs.Common.{◌≡◌, ℕ, ◌+◌, ◌-◌, ◌<◌, List, set, drop, replicate, ◌∙◌, ap, sym, arith}
use Rattle.std.proofs.lemmas.List.{drop-replicate, drop-set-lt, drop-drop}
use Rattle.betti_tables.specs.Filled.{IsFilled}

pub filled_push : (at : List ℕ) (len n : ℕ) → IsFilled at len → len < 12 → IsFilled (set at len n) (len + 1)
filled_push at len n h room =
    let fewer : 12 - len - 1 ≡ 12 - (len + 1) = omega arith in
    record {
      short = omega arith;
      rest = drop-set-lt (len + 1) at len n (omega arith) ∙ sym (drop-drop 1 len at) ∙ ap (drop 1) h.rest ∙ drop-replicate 1 (12 - len) 0 ∙ ap (λ k. replicate k 0) fewer;
    }
