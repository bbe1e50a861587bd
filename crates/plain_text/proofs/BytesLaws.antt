-- Words in cells, and the values of digits.
use Rattle.std.proofs.Common.{◌≡◌, ℕ, zero, suc, ◌<◌, ◌≤◌, ◌+◌, ◌-◌, ◌*◌, ◌^◌, true, ◌&&◌, List, [], ◌∷◌, ◌++◌, length, drop, get_or, replicate, refl, sym, ap, ◌∙◌, subst, arith, add-one, length-append}
use Rattle.std.specs.Bool.{IsTrue}
use Rattle.std.proofs.lemmas.Bool.{ltb-true}
use Rattle.std.proofs.lemmas.Bool.Decides.{nat_tests}
use Rattle.std.proofs.lemmas.List.{take_at, drop_at, drop-replicate, length-replicate, length-drop}
use Rattle.std.proofs.Math.Nat.{pow-le-pow_right, pow-suc}
use Rattle.std.specs.List.{list_all}
use Rattle.simplex.proofs.InOrderLaws.{and_left, and_right}
use Rattle.plain_text.specs.Bytes.{is_digit, is_letter, is_run_byte, is_word}
use Rattle.plain_text.specs.Name.{IsNamed}

word_short : (w : List ℕ) → IsTrue (is_word w) → length w ≤ 32
word_short [] h = omega arith
word_short (c ∷ cs) h = let l : length cs < 32 = ltb-true (length cs) 32 (and_right (is_letter c && list_all is_run_byte cs) _ h) in omega arith

-- the cells that begin with a word
pub named_cells : (w zeros : List ℕ) → zeros ≡ replicate 32 0 → IsTrue (is_word w) → IsNamed (w ++ drop (length w) zeros) (length w)
named_cells w zeros z h =
    let short = word_short w h in
    let count : length zeros ≡ 32 = ap length z ∙ (let z : ℕ = 0 in length-replicate 32 z) in
    record {
      whole = length-append w (drop (length w) zeros) ∙ ap (λ n. length w + n) (length-drop (length w) zeros) ∙ omega arith;
      short = short;
      rest = drop_at w (drop (length w) zeros) (length w) refl ∙ ap (drop (length w)) z ∙ drop-replicate (length w) 32 0;
      word = subst (λ v. IsTrue (is_word v)) (sym (take_at w (drop (length w) zeros) (length w) refl)) h;
    }

digit_is : (x : ℕ) → is_digit x ≡ true → x - 48 ≤ 9
digit_is x h = grind (arith, nat_tests)

digit_at : (run : List ℕ) (k : ℕ) → list_all is_digit run ≡ true → k < length run → get_or run k 0 - 48 ≤ 9
digit_at [] k h l = absurd (omega arith)
digit_at (x ∷ xs) zero h l = digit_is x (and_left (is_digit x) (list_all is_digit xs) h)
digit_at (x ∷ xs) (suc k) h l = digit_at xs k (and_right (is_digit x) (list_all is_digit xs) h) (omega arith)

-- a number of at most 18 digits fits
pub next_fits : (n i : ℕ) → n < 10 ^ i → i < 18 → 10 * n + 9 < 2 ^ 64
next_fits n i h l =
    let k : 10 ^ suc i ≤ 10 ^ 18 = pow-le-pow_right {n = 10} (omega arith) {i = suc i} {j = 18} (omega arith) in
    let e : 10 ^ suc i ≡ 10 ^ i * 10 = pow-suc 10 i in
    omega (arith, k, e, h)

pub digit_fits : (run : List ℕ) (n k : ℕ) → n < 10 ^ k → k < length run → length run ≤ 18 → list_all is_digit run ≡ true → 10 * n + (get_or run k 0 - 48) < 2 ^ 64
digit_fits run n k h l short digits = omega (arith, next_fits n k h (omega arith), digit_at run k digits l)

-- one more digit
pub digit_more : (run : List ℕ) (n k : ℕ) → n < 10 ^ k → k < length run → list_all is_digit run ≡ true → 10 * n + (get_or run k 0 - 48) < 10 ^ (k + 1)
digit_more run n k h l digits =
    let e : 10 ^ suc k ≡ 10 ^ k * 10 = pow-suc 10 k in
    let d : 10 * n + (get_or run k 0 - 48) < 10 ^ suc k = omega (arith, e, digit_at run k digits l) in
    rw add-one d
