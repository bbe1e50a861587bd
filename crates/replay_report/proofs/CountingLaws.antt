-- One part more in a report.
use Rattle.std.proofs.Common.{◌≡◌, ℕ, suc, ◌+◌, ◌-◌, ◌<◌, ◌≤◌, Bool, true, false, not, ◌&&◌, ltb, cond, List, [], ◌∷◌, ◌++◌, length, take, drop, refl, sym, ap, ◌∙◌, arith, append_assoc, count_by, length-drop, add-zero}
use Rattle.std.specs.List.{flat_map, list_all}
use Rattle.std.proofs.lemmas.List.{take_rest}
use Rattle.std.proofs.lemmas.List.Sums.{sum_by-cons, count_by-le-length}
use Rattle.std.proofs.lemmas.Bool.Decides.{nat_tests}
use Rattle.replay_report.specs.Report.{parts, part_text, is_accepted}

-- the bytes behind a part
abbrev pub rest_from : List ℕ → ℕ → List ℕ
rest_from xs n = take (length xs - n) (drop n xs)

pub next_part : (rest : List ℕ) (start n : ℕ) → parts rest ≡ parts (drop start rest)
    → parts (rest_from rest start) ≡ take n (rest_from rest start) ∷ parts (drop n (rest_from rest start))
    → parts rest ≡ take n (rest_from rest start) ∷ parts (rest_from (rest_from rest start) n)
next_part rest start n e h =
    e ∙ ap parts (sym (take_rest rest start)) ∙ h ∙ ap (λ xs. take n (rest_from rest start) ∷ parts xs) (sym (take_rest (rest_from rest start) n))

length_rest : (xs : List ℕ) (n : ℕ) → length (rest_from xs n) ≡ length xs - n
length_rest xs n = ap length (take_rest xs n) ∙ length-drop n xs

pub room_more : (rest : List ℕ) (start n before now all : ℕ) → 0 < n → n ≤ length (rest_from rest start) → now ≡ before + 1 → before + length rest ≤ all
    → now + length (rest_from (rest_from rest start) n) ≤ all
room_more rest start n before now all some within e was = omega (arith, length_rest rest start, length_rest (rest_from rest start) n)

module _ (ps qs : List (List ℕ)) (p : List ℕ) (e : ps ≡ p ∷ qs) where
  pub text_more : (old new all : List ℕ) → new ≡ old ++ part_text p → old ++ flat_map part_text ps ≡ all → new ++ flat_map part_text qs ≡ all
  text_more old new all h was =
      ap (λ t. t ++ flat_map part_text qs) h ∙ append_assoc old (part_text p) (flat_map part_text qs) ∙ ap (λ xs. old ++ flat_map part_text xs) (sym e) ∙ was

  pub count_more : (old new all : ℕ) → new ≡ old + 1 → old + length ps ≡ all → new + length qs ≡ all
  count_more old new all h was = omega (arith, ap length e)

  pub good_more : (old new all : ℕ) → new ≡ old + cond (is_accepted p) 1 0 → old + count_by is_accepted ps ≡ all → new + count_by is_accepted qs ≡ all
  good_more old new all h was =
      let f : count_by is_accepted ps ≡ cond (is_accepted p) 1 0 + count_by is_accepted qs = ap (count_by is_accepted) e ∙ sum_by-cons (λ x. cond (is_accepted x) 1 0) p qs in omega arith

pub fewer_more : (b : Bool) (good count new parts : ℕ) → new ≡ good + cond b 1 0 → parts ≡ count + 1 → good ≤ count → new ≤ parts
fewer_more true good count new parts e f h = omega arith
fewer_more false good count new parts e f h = omega arith

-- fewer are accepted than there are, where one is not
module _ (p : List ℕ → Bool) where
  one_more : (b r : Bool) (c n : ℕ) → c ≤ n → ltb c n ≡ not r → ltb (cond b 1 0 + c) (suc n) ≡ not (b && r)
  one_more true r c n h e = same c n ∙ e
    where
      same : (c n : ℕ) → ltb (1 + c) (suc n) ≡ ltb c n
      same c n = grind (arith, nat_tests)
  one_more false r c n h e = grind (arith, nat_tests)

  pub fewer_than_all : (xs : List (List ℕ)) → ltb (count_by p xs) (length xs) ≡ not (list_all p xs)
  fewer_than_all [] = refl
  fewer_than_all (x ∷ xs) =
      ap (λ n. ltb n (length (x ∷ xs))) (sum_by-cons (λ y. cond (p y) 1 0) x xs)
      ∙ one_more (p x) (list_all p xs) (count_by p xs) (length xs) (count_by-le-length p xs) (fewer_than_all xs)

-- no part is left
pub at_end : (left all : List (List ℕ)) (good count : ℕ) → left ≡ [] → good + count_by is_accepted left ≡ count_by is_accepted all → count + length left ≡ length all
    → ltb good count ≡ not (list_all is_accepted all)
at_end left all good count none e f =
    let g : good ≡ count_by is_accepted all = sym (add-zero good) ∙ ap (λ xs. good + count_by is_accepted xs) (sym none) ∙ e in
    let k : count ≡ length all = sym (add-zero count) ∙ ap (λ xs. count + length xs) (sym none) ∙ f in
    ap (λ n. ltb n count) g ∙ ap (λ n. ltb (count_by is_accepted all) n) k ∙ fewer_than_all is_accepted all
