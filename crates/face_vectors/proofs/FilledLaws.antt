-- How integers come to lie in the places of a row.
use Rattle.std.proofs.Common.{◌≡◌, ℕ, ◌+◌, ◌-◌, ◌<◌, List, ℤ, pos, set, drop, replicate, ◌∙◌, ap, sym, arith}
use Rattle.std.proofs.lemmas.List.{drop-replicate, drop-set-lt, drop-drop}
use Rattle.face_vectors.specs.Filled.{IsFilled}

pub filled_push : (at : List ℤ) (len : ℕ) (z : ℤ) → IsFilled at len → len < 13 → IsFilled (set at len z) (len + 1)
filled_push at len z h room =
    let fewer : 13 - len - 1 ≡ 13 - (len + 1) = omega arith in
    record {
      short = omega arith;
      rest = drop-set-lt (len + 1) at len z (omega arith) ∙ sym (drop-drop 1 len at) ∙ ap (drop 1) h.rest ∙ drop-replicate 1 (13 - len) (pos 0) ∙ ap (λ n. replicate n (pos 0)) fewer;
    }
