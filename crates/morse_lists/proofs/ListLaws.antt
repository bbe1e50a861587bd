-- Laws of lists: how numbers come to lie in twelve places, sums, and members that pass a test.
use Rattle.std.proofs.Common.{◌≡◌, ℕ, zero, suc, ◌+◌, ◌-◌, ◌<◌, ◌≤◌, Bool, true, false, cond, List, [], ◌∷◌, ◌++◌, length, set, get_or, take, drop, replicate, ◌∙◌, ap, sym, arith}
use Rattle.std.specs.List.{filter, sum}
use Rattle.std.proofs.lemmas.List.{drop-replicate, drop-set-lt, drop-drop, take_more}
use Rattle.std.proofs.lemmas.List.Elements.{filter-append}
use Rattle.std.proofs.lemmas.List.Sums.{sum_by-append}
use Rattle.betti_tables.specs.Filled.{IsFilled}

pub filled_push : (at : List ℕ) (len n : ℕ) → IsFilled at len → len < 12 → IsFilled (set at len n) (len + 1)
filled_push at len n h room =
    let fewer : 12 - len - 1 ≡ 12 - (len + 1) = omega arith in
    record {
      short = omega arith;
      rest = drop-set-lt (len + 1) at len n (omega arith) ∙ sym (drop-drop 1 len at) ∙ ap (drop 1) h.rest ∙ drop-replicate 1 (12 - len) 0 ∙ ap (λ k. replicate k 0) fewer;
    }

pub sum-append : (xs ys : List ℕ) → sum (xs ++ ys) ≡ sum xs + sum ys
sum-append xs ys = sum_by-append (λ x. x) xs ys

pub sum_one : (v : ℕ) → sum (v ∷ []) ≡ v
sum_one v = omega arith

pub take_short : {X : Type 0} (xs : List X) (i : ℕ) → length (take i xs) ≤ i
take_short xs zero = omega arith
take_short [] (suc i) = omega arith
take_short (x ∷ xs) (suc i) = let rest = take_short xs i in omega arith

module _ {X : Type 0} (p : X → Bool) where
  pub filter_short : (xs : List X) → length (filter p xs) ≤ length xs
  filter_short [] = omega arith
  filter_short (x ∷ xs) =
      let rest = filter_short xs in
      elim (p x) as (λ v. length (cond v (x ∷ filter p xs) (filter p xs)) ≤ length (x ∷ xs)) [ true ↦ omega arith | false ↦ omega arith ]

  -- one more of a list
  pub filter_more : (xs : List X) (i : ℕ) (x : X) → i < length xs → x ≡ get_or xs i x → filter p (take (i + 1) xs) ≡ filter p (take i xs) ++ cond (p x) (x ∷ []) []
  filter_more xs i x h e = ap (filter p) (take_more xs i x h ∙ ap (λ y. take i xs ++ y ∷ []) (sym e)) ∙ filter-append p (take i xs) (x ∷ [])
