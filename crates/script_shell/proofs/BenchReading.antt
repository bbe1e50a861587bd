-- The script of a bench is read as three commands: an assignment of a stacked sphere, a question and a verdict.
use Rattle.std.proofs.Common.{◌≡◌, ℕ, suc, ◌<◌, ◌≤◌, ◌+◌, ◌-◌, ◌*◌, ◌^◌, Bool, true, false, cond, not, ◌&&◌, ◌||◌, List, [], ◌∷◌, ◌++◌, length, get_or, refl, sym, ap, ◌∙◌, subst, arith, Some, None, append_assoc, rules}
use Rattle.std.specs.Prelude.{◌==◌, codes, decimal, nat_lt}
use Rattle.std.specs.List.{list_all}
use Rattle.std.proofs.Math.Nat.{pow-le-pow_right, pow-suc}
use Rattle.std.proofs.lemmas.Bool.{ltb-true}
use Rattle.std.proofs.lemmas.Bool.Decides.{nat_tests}
use Rattle.std.proofs.lemmas.Fmt.{decimal-digits_value}
use Rattle.std.proofs.lemmas.Str.Parse.{IsNumeralModel, numerals_by_fold}
use Rattle.simplex.proofs.InOrderLaws.{and_left, and_right, and_both}
use Rattle.plain_text.specs.Bytes.{is_digit, is_letter, is_number, is_run_byte, is_white, number_of, value_onto}
use Rattle.script_text.specs.Reading.{command_of}
use Rattle.script_text.specs.Tokens.{all_of, cons_both, goes_on, in_front, pieces, plain, plain_from, sign_of, token_of, tokens}
use Rattle.script_text.specs.declared.command.Command.TheVariants as command
use Rattle.script_text.specs.declared.command.Maker.TheVariants as maker
use Rattle.script_text.specs.declared.command.Question.TheVariants as question
use Rattle.script_text.specs.declared.token.Token.TheVariants.{Word, Number, Assign}
use Rattle.script_text.proofs.CommandLaws.{reads_the_spelled_lem}
use Rattle.script_shell.specs.Bench.{bench_script, three_numbers, two_numbers}
use Rattle.script_shell.specs.Transcript.{at_front, before_others, cut_from}

-- ---- digits
-- a byte that ends no piece and begins no comment
abbrev pub is_quiet : ℕ → Bool
is_quiet c = not (c == 59) && not (c == 35)

quiet_digit : (c : ℕ) → is_digit c ≡ true → is_quiet c ≡ true
quiet_digit c h = grind (arith, nat_tests)

run_digit : (c : ℕ) → is_digit c ≡ true → is_run_byte c ≡ true
run_digit c h = grind (arith, nat_tests)

no_letter : (c : ℕ) → is_digit c ≡ true → is_letter c ≡ false
no_letter c h = grind (arith, nat_tests)

no_white : (c : ℕ) → is_run_byte c ≡ true → is_white c ≡ false
no_white c h = grind (arith, nat_tests)

digit_is : (c : ℕ) → is_digit c ≡ true → c - 48 ≤ 9
digit_is c h = grind (arith, nat_tests)

all_weaker : (f g : ℕ → Bool) → ((c : ℕ) → f c ≡ true → g c ≡ true) → (xs : List ℕ) → list_all f xs ≡ true → list_all g xs ≡ true
all_weaker f g w [] h = refl
all_weaker f g w (x ∷ xs) h = and_both (g x) (list_all g xs) (w x (and_left (f x) (list_all f xs) h)) (all_weaker f g w xs (and_right (f x) (list_all f xs) h))

all_both : (f : ℕ → Bool) (xs ys : List ℕ) → list_all f xs ≡ true → list_all f ys ≡ true → list_all f (xs ++ ys) ≡ true
all_both f [] ys h k = k
all_both f (x ∷ xs) ys h k = and_both (f x) (list_all f (xs ++ ys)) (and_left (f x) (list_all f xs) h) (all_both f xs ys (and_right (f x) (list_all f xs) h) k)

value_bound : (ds : List ℕ) (n k : ℕ) → n < 10 ^ k → list_all is_digit ds ≡ true → value_onto n ds < 10 ^ (length ds + k)
value_bound [] n k h d = subst (λ m. n < 10 ^ m) (omega arith) h
value_bound (c ∷ cs) n k h d =
    let e : 10 ^ suc k ≡ 10 ^ k * 10 = pow-suc 10 k in
    let s = digit_is c (and_left (is_digit c) (list_all is_digit cs) d) in
    let more : 10 * n + (c - 48) < 10 ^ suc k = omega (arith, e, s, h) in
    subst (λ m. value_onto (10 * n + (c - 48)) cs < 10 ^ m) (omega arith) (value_bound cs (10 * n + (c - 48)) (suc k) more (and_right (is_digit c) (list_all is_digit cs) d))

-- ---- a number is spelled as it was read
own : IsNumeralModel (λ ds. list_all is_digit ds ≡ true) (value_onto 0)
own = numerals_by_fold _ (search rules) value_onto (search rules)

pub record IsSpelled (n : ℕ) : Type 0 where
  pub number : is_number (decimal n) ≡ true
  pub value : value_onto 0 (decimal n) ≡ n

number_digits : (w : List ℕ) → is_number w ≡ true → list_all is_digit w ≡ true
number_digits [] h = refl
number_digits (c ∷ cs) h = and_left (list_all is_digit (c ∷ cs)) _ (and_left (list_all is_digit (c ∷ cs) && nat_lt (length cs) 18) _ h)

number_short : (w : List ℕ) → is_number w ≡ true → (0 < length w) × (length w ≤ 18)
number_short [] h = absurd (cc)
number_short (c ∷ cs) h = let l = ltb-true (length cs) 18 (and_right (list_all is_digit (c ∷ cs)) _ (and_left (list_all is_digit (c ∷ cs) && nat_lt (length cs) 18) _ h)) in (omega arith, omega arith)

number_lead : (w : List ℕ) → is_number w ≡ true → get_or w 0 0 ≡ 48 → length w ≡ 1
number_lead [] h e = absurd (cc)
number_lead (c ∷ cs) h e =
    let k : (not (c == 48) || (length cs == 0)) ≡ true = and_right (list_all is_digit (c ∷ cs) && nat_lt (length cs) 18) _ h in
    only c (length cs) k e
  where
    only : (c n : ℕ) → (not (c == 48) || (n == 0)) ≡ true → c ≡ 48 → suc n ≡ 1
    only c n k e = grind (arith, nat_tests)

number_small : (w : List ℕ) → is_number w ≡ true → value_onto 0 w < 2 ^ 64
number_small w h =
    let s = number_short w h in
    let b = value_bound w 0 0 (omega arith) (number_digits w h) in
    let p : 10 ^ (length w + 0) ≤ 10 ^ 18 = pow-le-pow_right {n = 10} (omega arith) {i = length w + 0} {j = 18} (omega (arith, s.1)) in
    omega (arith, b, p)

pub spelled : (w : List ℕ) (n : ℕ) → number_of w ≡ Some n → IsSpelled n
spelled w n h = by (is_number w) refl h
  where
    by : (v : Bool) → is_number w ≡ v → cond v (Some (value_onto 0 w)) None ≡ Some n → IsSpelled n
    by false k e = cc
    by true k e =
        let same : value_onto 0 w ≡ n = cc in
        let back : decimal n ≡ w = ap decimal (sym same) ∙ decimal-digits_value own w (number_digits w k) (number_short w k).0 (number_lead w k) (number_small w k) in
        record { number = ap is_number back ∙ k; value = ap (value_onto 0) back ∙ same }

number_token : (w : List ℕ) → is_number w ≡ true → token_of w ≡ Some (Number (value_onto 0 w))
number_token [] h = absurd (cc)
number_token (c ∷ cs) h =
    let digit = and_left (is_digit c) (list_all is_digit cs) (number_digits (c ∷ cs) h) in
    ap (λ v. cond ((v && list_all is_run_byte cs) && nat_lt (length cs) 32) (Some (Word (c ∷ cs))) (cond (is_number (c ∷ cs)) (Some (Number (value_onto 0 (c ∷ cs)))) (sign_of (c ∷ cs)))) (no_letter c digit)
    ∙ ap (λ v. cond v (Some (Number (value_onto 0 (c ∷ cs)))) (sign_of (c ∷ cs))) h

pub spelled_token : (n : ℕ) → IsSpelled n → token_of (decimal n) ≡ Some (Number n)
spelled_token n p = number_token (decimal n) p.number ∙ ap (λ v. Some (Number v)) p.value

-- ---- pieces between spaces
none_on : (a b : Bool) → ((a && false) || (b && false)) ≡ false
none_on true true = refl
none_on true false = refl
none_on false true = refl
none_on false false = refl

alone : (c d : ℕ) (ds : List ℕ) (ps : List (List ℕ)) → goes_on c d ≡ false → in_front c (d ∷ ds) ps ≡ (c ∷ []) ∷ ps
alone c d ds [] g = refl
alone c d ds (p ∷ ps) g = ap (λ v. cond v ((c ∷ p) ∷ ps) ((c ∷ []) ∷ p ∷ ps)) g

joined : (c d : ℕ) (ds q : List ℕ) (qs : List (List ℕ)) → is_run_byte c ≡ true → is_run_byte d ≡ true → in_front c (d ∷ ds) ((d ∷ q) ∷ qs) ≡ (c ∷ d ∷ q) ∷ qs
joined c d ds q qs h k = ap (λ v. cond (v || ((c == 58) && (d == 61))) ((c ∷ d ∷ q) ∷ qs) ((c ∷ []) ∷ (d ∷ q) ∷ qs)) (and_both (is_run_byte c) (is_run_byte d) h k)

run_piece : (c : ℕ) (w rest : List ℕ) → list_all is_run_byte (c ∷ w) ≡ true → pieces ((c ∷ w) ++ 32 ∷ rest) ≡ (c ∷ w) ∷ pieces rest
run_piece c [] rest h =
    ap (λ v. cond v (pieces rest) (in_front c (32 ∷ rest) (pieces rest))) (no_white c (and_left (is_run_byte c) true h))
    ∙ alone c 32 rest (pieces rest) (none_on (is_run_byte c) (c == 58))
run_piece c (d ∷ w) rest h =
    let first = and_left (is_run_byte c) (list_all is_run_byte (d ∷ w)) h in
    let others = and_right (is_run_byte c) (list_all is_run_byte (d ∷ w)) h in
    ap (λ v. cond v (pieces ((d ∷ w) ++ 32 ∷ rest)) (in_front c ((d ∷ w) ++ 32 ∷ rest) (pieces ((d ∷ w) ++ 32 ∷ rest)))) (no_white c first)
    ∙ ap (in_front c ((d ∷ w) ++ 32 ∷ rest)) (run_piece d w rest others)
    ∙ joined c d (w ++ 32 ∷ rest) w (pieces rest) first (and_left (is_run_byte d) (list_all is_run_byte w) others)

run_last : (c : ℕ) (w : List ℕ) → list_all is_run_byte (c ∷ w) ≡ true → pieces (c ∷ w) ≡ (c ∷ w) ∷ []
run_last c [] h = ap (λ v. cond v [] ((c ∷ []) ∷ [])) (no_white c (and_left (is_run_byte c) true h))
run_last c (d ∷ w) h =
    let first = and_left (is_run_byte c) (list_all is_run_byte (d ∷ w)) h in
    let others = and_right (is_run_byte c) (list_all is_run_byte (d ∷ w)) h in
    ap (λ v. cond v (pieces (d ∷ w)) (in_front c (d ∷ w) (pieces (d ∷ w)))) (no_white c first)
    ∙ ap (in_front c (d ∷ w)) (run_last d w others)
    ∙ joined c d w w [] first (and_left (is_run_byte d) (list_all is_run_byte w) others)

number_piece : (w rest : List ℕ) → is_number w ≡ true → pieces (w ++ 32 ∷ rest) ≡ w ∷ pieces rest
number_piece [] rest h = absurd (cc)
number_piece (c ∷ cs) rest h = run_piece c cs rest (all_weaker is_digit is_run_byte run_digit (c ∷ cs) (number_digits (c ∷ cs) h))

number_last : (w : List ℕ) → is_number w ≡ true → pieces w ≡ w ∷ []
number_last [] h = absurd (cc)
number_last (c ∷ cs) h = run_last c cs (all_weaker is_digit is_run_byte run_digit (c ∷ cs) (number_digits (c ∷ cs) h))

assign_piece : (rest : List ℕ) → pieces (58 ∷ 61 ∷ 32 ∷ rest) ≡ (58 ∷ 61 ∷ []) ∷ pieces rest
assign_piece rest = ap (in_front 58 (61 ∷ 32 ∷ rest)) (alone 61 32 rest (pieces rest) refl)

plain_quiet : (bytes : List ℕ) → list_all is_quiet bytes ≡ true → plain bytes ≡ bytes
plain_quiet [] h = refl
plain_quiet (c ∷ cs) h =
    let hash : (c == 35) ≡ false = not_true (c == 35) (and_right (not (c == 59)) _ (and_left (is_quiet c) (list_all is_quiet cs) h)) in
    ap (λ v. cond v 32 c ∷ plain_from v cs) hash ∙ ap (λ xs. c ∷ xs) (plain_quiet cs (and_right (is_quiet c) (list_all is_quiet cs) h))
  where
    not_true : (b : Bool) → not b ≡ true → b ≡ false
    not_true true e = cc
    not_true false e = refl

-- ---- the numbers
two_pieces : (n seed : ℕ) → IsSpelled n → IsSpelled seed → pieces (two_numbers n seed) ≡ decimal n ∷ decimal seed ∷ []
two_pieces n seed p q = number_piece (decimal n) (decimal seed) p.number ∙ ap (λ ps. decimal n ∷ ps) (number_last (decimal seed) q.number)

three_pieces : (d n seed : ℕ) → IsSpelled d → IsSpelled n → IsSpelled seed → pieces (three_numbers d n seed) ≡ decimal d ∷ decimal n ∷ decimal seed ∷ []
three_pieces d n seed o p q = number_piece (decimal d) (two_numbers n seed) o.number ∙ ap (λ ps. decimal d ∷ ps) (two_pieces n seed p q)

quiet_number : (w : List ℕ) → is_number w ≡ true → list_all is_quiet w ≡ true
quiet_number w h = all_weaker is_digit is_quiet quiet_digit w (number_digits w h)

pub quiet_two : (n seed : ℕ) → IsSpelled n → IsSpelled seed → list_all is_quiet (two_numbers n seed) ≡ true
quiet_two n seed p q = all_both is_quiet (decimal n) (32 ∷ decimal seed) (quiet_number (decimal n) p.number) (quiet_number (decimal seed) q.number)

pub quiet_three : (d n seed : ℕ) → IsSpelled d → IsSpelled n → IsSpelled seed → list_all is_quiet (three_numbers d n seed) ≡ true
quiet_three d n seed o p q = all_both is_quiet (decimal d) (32 ∷ two_numbers n seed) (quiet_number (decimal d) o.number) (quiet_two n seed p q)

-- ---- the commands
abbrev pub made : ℕ → ℕ → ℕ → List ℕ
made d n seed = codes "X := stacked " ++ three_numbers d n seed

abbrev pub asked : List ℕ
asked = codes " fvec X"

abbrev pub decided : ℕ → ℕ → List ℕ
decided n seed = codes " sphere X " ++ two_numbers n seed

made_tokens : (d n seed : ℕ) → IsSpelled d → IsSpelled n → IsSpelled seed
    → tokens (made d n seed) ≡ Some (Word (codes "X") ∷ Assign ∷ Word (codes "stacked") ∷ Number d ∷ Number n ∷ Number seed ∷ [])
made_tokens d n seed o p q =
    let numbers = three_numbers d n seed in
    ap (λ bytes. all_of token_of (pieces bytes)) (plain_quiet (made d n seed) (quiet_three d n seed o p q))
    ∙ ap (all_of token_of) (
    run_piece 88 [] (58 ∷ 61 ∷ 32 ∷ codes "stacked " ++ numbers) refl
    ∙ ap (λ ps. codes "X" ∷ ps) (assign_piece (codes "stacked " ++ numbers))
    ∙ ap (λ ps. codes "X" ∷ codes ":=" ∷ ps) (run_piece 115 (codes "tacked") numbers refl)
    ∙ ap (λ ps. codes "X" ∷ codes ":=" ∷ codes "stacked" ∷ ps) (three_pieces d n seed o p q))
    ∙ ap (λ a. cons_both (Some (Word (codes "X"))) (cons_both (Some Assign) (cons_both (Some (Word (codes "stacked"))) (cons_both a (cons_both (token_of (decimal n)) (cons_both (token_of (decimal seed)) (Some []))))))) (spelled_token d o)
    ∙ ap (λ a. cons_both (Some (Word (codes "X"))) (cons_both (Some Assign) (cons_both (Some (Word (codes "stacked"))) (cons_both (Some (Number d)) (cons_both a (cons_both (token_of (decimal seed)) (Some []))))))) (spelled_token n p)
    ∙ ap (λ a. cons_both (Some (Word (codes "X"))) (cons_both (Some Assign) (cons_both (Some (Word (codes "stacked"))) (cons_both (Some (Number d)) (cons_both (Some (Number n)) (cons_both a (Some []))))))) (spelled_token seed q)

decided_tokens : (n seed : ℕ) → IsSpelled n → IsSpelled seed → tokens (decided n seed) ≡ Some (Word (codes "sphere") ∷ Word (codes "X") ∷ Number n ∷ Number seed ∷ [])
decided_tokens n seed p q =
    let numbers = two_numbers n seed in
    ap (λ bytes. all_of token_of (pieces bytes)) (plain_quiet (decided n seed) (quiet_two n seed p q))
    ∙ ap (all_of token_of) (
    run_piece 115 (codes "phere") (codes "X " ++ numbers) refl
    ∙ ap (λ ps. codes "sphere" ∷ ps) (run_piece 88 [] numbers refl)
    ∙ ap (λ ps. codes "sphere" ∷ codes "X" ∷ ps) (two_pieces n seed p q))
    ∙ ap (λ a. cons_both (Some (Word (codes "sphere"))) (cons_both (Some (Word (codes "X"))) (cons_both a (cons_both (token_of (decimal seed)) (Some []))))) (spelled_token n p)
    ∙ ap (λ a. cons_both (Some (Word (codes "sphere"))) (cons_both (Some (Word (codes "X"))) (cons_both (Some (Number n)) (cons_both a (Some []))))) (spelled_token seed q)

pub made_is : (d n seed : ℕ) → IsSpelled d → IsSpelled n → IsSpelled seed → command_of (made d n seed) ≡ Some (command.Make (codes "X") (maker.Stacked d n seed))
made_is d n seed o p q = (reads_the_spelled_lem (made d n seed) (command.Make (codes "X") (maker.Stacked d n seed))).1 (made_tokens d n seed o p q)

pub asked_is : command_of asked ≡ Some (command.Ask (codes "X") question.Fvec)
asked_is = (reads_the_spelled_lem asked (command.Ask (codes "X") question.Fvec)).1 refl

pub decided_is : (n seed : ℕ) → IsSpelled n → IsSpelled seed → command_of (decided n seed) ≡ Some (command.Sphere (codes "X") n seed)
decided_is n seed p q = (reads_the_spelled_lem (decided n seed) (command.Sphere (codes "X") n seed)).1 (decided_tokens n seed p q)

-- ---- the pieces of the script
cut_quiet : (p rest : List ℕ) → list_all is_quiet p ≡ true → cut_from false (p ++ 59 ∷ rest) ≡ before_others p (cut_from false rest)
cut_quiet [] rest h = refl
cut_quiet (c ∷ p) rest h =
    let q = and_left (is_quiet c) (list_all is_quiet p) h in
    step c p rest (not_true (c == 59) (and_left (not (c == 59)) _ q)) (not_true (c == 35) (and_right (not (c == 59)) _ q)) (cut_quiet p rest (and_right (is_quiet c) (list_all is_quiet p) h))
  where
    not_true : (b : Bool) → not b ≡ true → b ≡ false
    not_true true e = cc
    not_true false e = refl

    step : (c : ℕ) (p rest : List ℕ) → (c == 59) ≡ false → (c == 35) ≡ false → cut_from false (p ++ 59 ∷ rest) ≡ before_others p (cut_from false rest)
        → cut_from false ((c ∷ p) ++ 59 ∷ rest) ≡ before_others (c ∷ p) (cut_from false rest)
    step c p rest e f g =
        let bytes = p ++ 59 ∷ rest in
        ap (λ v. cond (v && not (c == 35)) (before_others [] (cut_from (c == 35) bytes)) (at_front c (cut_from (c == 35) bytes))) e
        ∙ ap (λ v. at_front c (cut_from v bytes)) f
        ∙ ap (at_front c) g

pub script_cut : (d n seed : ℕ) → IsSpelled d → IsSpelled n → IsSpelled seed
    → cut_from false (bench_script d n seed) ≡ record { ended = made d n seed ∷ asked ∷ decided n seed ∷ []; rest = [] }
script_cut d n seed o p q =
    ap (cut_from false) whole
    ∙ cut_quiet (made d n seed) (asked ++ 59 ∷ (decided n seed ++ 59 ∷ [])) (quiet_three d n seed o p q)
    ∙ ap (before_others (made d n seed)) (
    cut_quiet asked (decided n seed ++ 59 ∷ []) refl
    ∙ ap (before_others asked) (cut_quiet (decided n seed) [] (quiet_two n seed p q)))
  where
    whole : bench_script d n seed ≡ made d n seed ++ 59 ∷ (asked ++ 59 ∷ (decided n seed ++ 59 ∷ []))
    whole = simp append_assoc
