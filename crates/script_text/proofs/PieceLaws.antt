-- The pieces of bytes, from the front.
use Rattle.std.proofs.Common.{◌≡◌, ℕ, zero, suc, ◌<◌, ◌≤◌, ◌+◌, Bool, true, false, cond, not, ◌&&◌, ◌||◌, List, [], ◌∷◌, ◌++◌, length, take, drop, get_or, refl, sym, ap, ◌∙◌, arith, Option, Some, None, append_assoc}
use Rattle.std.specs.Prelude.{◌==◌}
use Rattle.std.proofs.lemmas.Bool.Decides.{nat_tests}
use Rattle.std.proofs.lemmas.List.{drop_more, take_more, append-nil}
use Rattle.std.specs.List.{list_all}
use Rattle.simplex.proofs.InOrderLaws.{and_left, and_right, and_both}
use Rattle.plain_text.specs.Bytes.{is_white, is_run_byte}
use Rattle.script_text.specs.declared.token.Token.{Token}
use Rattle.script_text.specs.Tokens.{plain, plain_from, goes_on, in_front, pieces, is_at_piece, token_of, tokens, cons_both, all_of, is_blank}
use Rattle.script_text.specs.Fronts.{before}

not_true : (b : Bool) → not b ≡ true → b ≡ false
not_true true e = cc
not_true false e = refl

true_not : (b : Bool) → b ≡ false → not b ≡ true
true_not true e = cc
true_not false e = refl

front_white : (c : ℕ) (cs : List ℕ) → is_at_piece (c ∷ cs) ≡ true → is_white c ≡ false
front_white c cs h = not_true (is_white c) (and_left (not (is_white c)) (not (c == 35)) h)

front_hash : (c : ℕ) (cs : List ℕ) → is_at_piece (c ∷ cs) ≡ true → (c == 35) ≡ false
front_hash c cs h = not_true (c == 35) (and_right (not (is_white c)) (not (c == 35)) h)

front_is : (c : ℕ) (cs : List ℕ) → is_at_piece (c ∷ cs) ≡ true → plain (c ∷ cs) ≡ c ∷ plain cs
front_is c cs h = ap (λ v. cond v 32 c ∷ plain_from v cs) (front_hash c cs h)

pieces_is : (c : ℕ) (cs : List ℕ) → is_at_piece (c ∷ cs) ≡ true → pieces (plain (c ∷ cs)) ≡ in_front c (plain cs) (pieces (plain cs))
pieces_is c cs h = ap pieces (front_is c cs h) ∙ ap (λ v. cond v (pieces (plain cs)) (in_front c (plain cs) (pieces (plain cs)))) (front_white c cs h)

or_cases : (a b : Bool) (P : Type 0) → (a ≡ true → P) → (b ≡ true → P) → (a || b) ≡ true → P
or_cases true b P f g e = f refl
or_cases false b P f g e = g e

equal_of : (d n : ℕ) → (d == n) ≡ true → d ≡ n
equal_of d n h = grind (arith, nat_tests)

run_at : (d : ℕ) → is_run_byte d ≡ true → (not (is_white d) && not (d == 35)) ≡ true
run_at d h = grind (arith, nat_tests)

-- a byte that goes on is no white space and begins no comment
goes_at : (c d : ℕ) → goes_on c d ≡ true → (not (is_white d) && not (d == 35)) ≡ true
goes_at c d g =
    or_cases (is_run_byte c && is_run_byte d) ((c == 58) && (d == 61)) _ (λ h. run_at d (and_right (is_run_byte c) (is_run_byte d) h))
    (λ h. ap (λ n. not (is_white n) && not (n == 35)) (equal_of d 61 (and_right (c == 58) (d == 61) h))) g

joined_front : (c d : ℕ) (ds q : List ℕ) (qs : List (List ℕ)) → goes_on c d ≡ true → in_front c (d ∷ ds) (q ∷ qs) ≡ (c ∷ q) ∷ qs
joined_front c d ds q qs g = ap (λ v. cond v ((c ∷ q) ∷ qs) ((c ∷ []) ∷ q ∷ qs)) g

joins : (c d : ℕ) (cs q : List ℕ) (qs : List (List ℕ)) → is_at_piece (c ∷ d ∷ cs) ≡ true → goes_on c d ≡ true → pieces (plain (d ∷ cs)) ≡ q ∷ qs → pieces (plain (c ∷ d ∷ cs)) ≡ (c ∷ q) ∷ qs
joins c d cs q qs h g e =
    pieces_is c (d ∷ cs) h
    ∙ ap (λ xs. in_front c xs (pieces (plain (d ∷ cs)))) (front_is d cs (goes_at c d g))
    ∙ ap (λ ps. in_front c (d ∷ plain cs) ps) e
    ∙ joined_front c d (plain cs) q qs g

apart : (c d : ℕ) (ds : List ℕ) (ps : List (List ℕ)) → goes_on c d ≡ false → in_front c (d ∷ ds) ps ≡ (c ∷ []) ∷ ps
apart c d ds [] g = refl
apart c d ds (p ∷ ps) g = ap (λ v. cond v ((c ∷ p) ∷ ps) ((c ∷ []) ∷ p ∷ ps)) g

none_on : (a b : Bool) → ((a && false) || (b && false)) ≡ false
none_on true true = refl
none_on true false = refl
none_on false true = refl
none_on false false = refl

goes_not : (c d : ℕ) (v : Bool) → goes_on c d ≡ false → goes_on c (cond v 32 d) ≡ false
goes_not c d true g = none_on (is_run_byte c) (c == 58)
goes_not c d false g = g

-- whether the byte goes on into the bytes
abbrev pub goes_into : ℕ → List ℕ → Bool
goes_into c [] = false
goes_into c (d ∷ cs) = goes_on c d

ends : (c : ℕ) (cs : List ℕ) → is_at_piece (c ∷ cs) ≡ true → goes_into c cs ≡ false → pieces (plain (c ∷ cs)) ≡ (c ∷ []) ∷ pieces (plain cs)
ends c [] h g = pieces_is c [] h
ends c (d ∷ cs) h g = pieces_is c (d ∷ cs) h ∙ apart c (cond (d == 35) 32 d) (plain_from (d == 35) cs) (pieces (plain (d ∷ cs))) (goes_not c d (d == 35) g)

-- ---- along a list
-- the first piece of the bytes from a place on makes the first piece of all
abbrev pub Carries : List ℕ → ℕ → Type 0
Carries bytes at = (q : List ℕ) (qs : List (List ℕ)) → pieces (plain (drop at bytes)) ≡ q ∷ qs → pieces (plain bytes) ≡ (take at bytes ++ q) ∷ qs

carried : (bytes : List ℕ) (at : ℕ) (q : List ℕ) (qs : List (List ℕ)) → at < length bytes → pieces (plain bytes) ≡ (take at bytes ++ get_or bytes at 0 ∷ q) ∷ qs → pieces (plain bytes) ≡ (take (at + 1) bytes ++ q) ∷ qs
carried bytes at q qs l e = e ∙ ap (λ xs. xs ∷ qs) (sym (ap (λ xs. xs ++ q) (take_more bytes at 0 l) ∙ append_assoc (take at bytes) (get_or bytes at 0 ∷ []) q))

at_next : (bytes : List ℕ) (at : ℕ) → at + 1 < length bytes → goes_on (get_or bytes at 0) (get_or bytes (at + 1) 0) ≡ true → is_at_piece (drop (at + 1) bytes) ≡ true
at_next bytes at l g = ap is_at_piece (drop_more bytes (at + 1) 0 l) ∙ goes_at (get_or bytes at 0) (get_or bytes (at + 1) 0) g

pub piece_step : (bytes : List ℕ) (at : ℕ) → at + 1 < length bytes → goes_on (get_or bytes at 0) (get_or bytes (at + 1) 0) ≡ true → is_at_piece (drop at bytes) ≡ true → Carries bytes at
    → is_at_piece (drop (at + 1) bytes) ≡ true × Carries bytes (at + 1)
piece_step bytes at l g h f =
    let c = get_or bytes at 0 in
    let d = get_or bytes (at + 1) 0 in
    let m : at < length bytes = omega arith in
    let split : drop at bytes ≡ c ∷ d ∷ drop (at + 1 + 1) bytes = drop_more bytes at 0 m ∙ ap (λ xs. c ∷ xs) (drop_more bytes (at + 1) 0 l) in (
      at_next bytes at l g,
      λ q qs e. carried bytes at q qs m (f (c ∷ q) qs (ap (λ xs. pieces (plain xs)) split
          ∙ joins c d (drop (at + 1 + 1) bytes) q qs (ap is_at_piece (sym split) ∙ h) g (ap (λ xs. pieces (plain xs)) (sym (drop_more bytes (at + 1) 0 l)) ∙ e))),
    )

pub piece_end : (bytes : List ℕ) (at : ℕ) → at < length bytes → goes_into (get_or bytes at 0) (drop (at + 1) bytes) ≡ false → is_at_piece (drop at bytes) ≡ true → Carries bytes at
    → pieces (plain bytes) ≡ take (at + 1) bytes ∷ pieces (plain (drop (at + 1) bytes))
piece_end bytes at l g h f =
    let c = get_or bytes at 0 in
    let rest = drop (at + 1) bytes in
    let split : drop at bytes ≡ c ∷ rest = drop_more bytes at 0 l in
    carried bytes at [] (pieces (plain rest)) l (f (c ∷ []) (pieces (plain rest)) (ap (λ xs. pieces (plain xs)) split ∙ ends c rest (ap is_at_piece (sym split) ∙ h) g))
    ∙ ap (λ xs. xs ∷ pieces (plain rest)) (append-nil (take (at + 1) bytes))

pub into_none : (bytes : List ℕ) (at : ℕ) → length bytes ≤ at + 1 → goes_into (get_or bytes at 0) (drop (at + 1) bytes) ≡ false
into_none bytes at l = ap (goes_into (get_or bytes at 0)) (drop_past bytes (at + 1) l)
  where
    drop_past : (xs : List ℕ) (n : ℕ) → length xs ≤ n → drop n xs ≡ []
    drop_past [] zero l = refl
    drop_past [] (suc n) l = refl
    drop_past (x ∷ xs) zero l = absurd (omega arith)
    drop_past (x ∷ xs) (suc n) l = drop_past xs n (omega arith)

pub into_next : (bytes : List ℕ) (at : ℕ) → at + 1 < length bytes → goes_on (get_or bytes at 0) (get_or bytes (at + 1) 0) ≡ false → goes_into (get_or bytes at 0) (drop (at + 1) bytes) ≡ false
into_next bytes at l g = ap (goes_into (get_or bytes at 0)) (drop_more bytes (at + 1) 0 l) ∙ g

-- ---- tokens
pub token_first : (bytes piece rest : List ℕ) (t : Token) → pieces (plain bytes) ≡ piece ∷ pieces (plain rest) → token_of piece ≡ Some t → tokens bytes ≡ before (t ∷ []) (tokens rest)
token_first bytes piece rest t e h = ap (all_of token_of) e ∙ ap (λ r. cons_both r (tokens rest)) h ∙ both (tokens rest)
  where
    both : (r : Option (List Token)) → cons_both (Some t) r ≡ before (t ∷ []) r
    both None = refl
    both (Some us) = refl

pub token_none : (bytes piece rest : List ℕ) → pieces (plain bytes) ≡ piece ∷ pieces (plain rest) → token_of piece ≡ None → tokens bytes ≡ None
token_none bytes piece rest e h = ap (all_of token_of) e ∙ ap (λ r. cons_both r (tokens rest)) h

-- nothing but white space and comments, and no token
blank_pieces : (ps : List ℕ) → list_all is_white ps ≡ true → pieces ps ≡ []
blank_pieces [] h = refl
blank_pieces (c ∷ cs) h = ap (λ v. cond v (pieces cs) (in_front c cs (pieces cs))) (and_left (is_white c) (list_all is_white cs) h) ∙ blank_pieces cs (and_right (is_white c) (list_all is_white cs) h)

pub over : (bytes : List ℕ) → is_blank bytes ≡ true → tokens bytes ≡ Some []
over bytes h = ap (all_of token_of) (blank_pieces (plain bytes) h)

front_some : (c : ℕ) (cs : List ℕ) (ps : List (List ℕ)) → in_front c cs ps ≡ [] → ⊥
front_some c [] ps h = cc
front_some c (d ∷ cs) [] h = cc
front_some c (d ∷ cs) (p ∷ ps) h = either (goes_on c d) h
  where
    either : (v : Bool) → cond v ((c ∷ p) ∷ ps) ((c ∷ []) ∷ p ∷ ps) ≡ [] → ⊥
    either true h = cc
    either false h = cc

pieces_blank : (ps : List ℕ) → pieces ps ≡ [] → list_all is_white ps ≡ true
pieces_blank [] h = refl
pieces_blank (c ∷ cs) h = either (is_white c) refl (λ k. pieces_blank cs k) h
  where
    either : (v : Bool) → is_white c ≡ v → (pieces cs ≡ [] → list_all is_white cs ≡ true) → cond v (pieces cs) (in_front c cs (pieces cs)) ≡ [] → (is_white c && list_all is_white cs) ≡ true
    either true e f h = and_both (is_white c) (list_all is_white cs) e (f h)
    either false e f h = absurd (front_some c cs (pieces cs) h)

none_all : (ps : List (List ℕ)) → all_of token_of ps ≡ Some [] → ps ≡ []
none_all [] h = refl
none_all (p ∷ ps) h = absurd (both (token_of p) (all_of token_of ps) h)
  where
    both : (t : Option Token) (r : Option (List Token)) → cons_both t r ≡ Some [] → ⊥
    both None r h = cc
    both (Some t) None h = cc
    both (Some t) (Some us) h = cc

pub over_only : (bytes : List ℕ) → tokens bytes ≡ Some [] → is_blank bytes ≡ true
over_only bytes h = pieces_blank (plain bytes) (none_all (pieces (plain bytes)) h)
