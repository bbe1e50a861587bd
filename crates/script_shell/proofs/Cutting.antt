-- Where the first piece of a script ends.
use Rattle.std.proofs.Common.{◌≡◌, ℕ, zero, suc, ◌<◌, ◌≤◌, ◌+◌, ◌⊎◌, inl, inr, Bool, true, false, not, ◌&&◌, cond, eqb, eq-eqb, ne_eqb, List, [], ◌∷◌, ◌++◌, length, take, drop, get_or, refl, sym, ap, ◌∙◌, append-nil, arith, add-one}
use Rattle.std.proofs.Math.ListN.{drop_of_length-le}
use Rattle.std.proofs.lemmas.List.{take_all}
use Rattle.script_text.specs.Tokens.{is_in_comment}
use Rattle.script_shell.specs.Answering.{comment_after, in_front}
use Rattle.script_shell.specs.Transcript.{Pieces, before_others, at_front, cut_from}

pub front_of_ended : (xs p : List ℕ) (ps : Pieces) → in_front xs (before_others p ps) ≡ before_others (xs ++ p) ps
front_of_ended [] p ps = refl
front_of_ended (x ∷ xs) p ps = ap (at_front x) (front_of_ended xs p ps)

pub front_of_rest : (xs r : List ℕ) → in_front xs (record { ended = []; rest = r }) ≡ record { ended = []; rest = xs ++ r }
front_of_rest [] r = refl
front_of_rest (x ∷ xs) r = ap (at_front x) (front_of_rest xs r)

-- whether the byte ends a piece
abbrev pub is_end : Bool → ℕ → Bool
is_end before c = eqb c 59 && not (is_in_comment before c)

-- a byte that ends no piece goes to the front
pub goes_on : (bytes : List ℕ) (i : ℕ) (before : Bool) → i < length bytes → is_end before (get_or bytes i 0) ≡ false
    → in_front (take (suc i) bytes) (cut_from (is_in_comment before (get_or bytes i 0)) (drop (suc i) bytes)) ≡ in_front (take i bytes) (cut_from before (drop i bytes))
goes_on [] i before h e = absurd (omega arith)
goes_on (x ∷ xs) zero before h e =
    let ps : Pieces = cut_from (is_in_comment before x) xs in
    ap (λ v. cond v (before_others [] ps) (at_front x ps)) (sym e)
goes_on (x ∷ xs) (suc i) before h e = ap (at_front x) (goes_on xs i before (omega arith) e)

-- a byte that ends a piece
pub ends_here : (bytes : List ℕ) (i : ℕ) (before : Bool) → i < length bytes → is_end before (get_or bytes i 0) ≡ true
    → in_front (take i bytes) (cut_from before (drop i bytes)) ≡ before_others (take i bytes) (cut_from (is_in_comment before (get_or bytes i 0)) (drop (suc i) bytes))
ends_here [] i before h e = absurd (omega arith)
ends_here (x ∷ xs) zero before h e =
    let ps : Pieces = cut_from (is_in_comment before x) xs in
    ap (λ v. cond v (before_others [] ps) (at_front x ps)) e
ends_here (x ∷ xs) (suc i) before h e = ap (at_front x) (ends_here xs i before (omega arith) e)

not_end_by_byte : (c : ℕ) (before : Bool) → eqb c 59 ≡ false → is_end before c ≡ false
not_end_by_byte c before h = ap (λ v. v && not (is_in_comment before c)) h

and_false : (b : Bool) → (b && false) ≡ false
and_false true = refl
and_false false = refl

pub not_end : (c : ℕ) (before inside : Bool) → inside ≡ is_in_comment before c → ((c ≡ 59) × (inside ≡ true)) ⊎ (c ≡ 59 → ⊥) → is_end before c ≡ false
not_end c before inside e (inl h) = ap (λ v. eqb c 59 && not v) (sym e ∙ h.1) ∙ and_false (eqb c 59)
not_end c before inside e (inr h) = not_end_by_byte c before (ne_eqb c 59 h)

comment_step : (bytes : List ℕ) (i : ℕ) (before : Bool) → i < length bytes
    → comment_after (is_in_comment before (get_or bytes i 0)) (drop (suc i) bytes) ≡ comment_after before (drop i bytes)
comment_step [] i before h = absurd (omega arith)
comment_step (x ∷ xs) zero before h = refl
comment_step (x ∷ xs) (suc i) before h = comment_step xs i before (omega arith)

-- the loop over the bytes of a piece: one more byte
pub next_byte : (first : Bool) (bytes : List ℕ) (i : ℕ) (before inside : Bool) → i < length bytes → inside ≡ is_in_comment before (get_or bytes i 0)
    → is_end before (get_or bytes i 0) ≡ false → in_front (take i bytes) (cut_from before (drop i bytes)) ≡ cut_from first bytes
    → in_front (take (i + 1) bytes) (cut_from inside (drop (i + 1) bytes)) ≡ cut_from first bytes
next_byte first bytes i before inside h e other was =
    rw add-one (ap (λ v. in_front (take (suc i) bytes) (cut_from v (drop (suc i) bytes))) e ∙ goes_on bytes i before h other ∙ was)

-- the byte that ends the piece
pub piece_here : (first : Bool) (bytes : List ℕ) (i : ℕ) (before inside : Bool) → i < length bytes → inside ≡ is_in_comment before (get_or bytes i 0)
    → inside ≡ false → get_or bytes i 0 ≡ 59 → in_front (take i bytes) (cut_from before (drop i bytes)) ≡ cut_from first bytes
    → cut_from first bytes ≡ before_others (take i bytes) (cut_from false (drop (i + 1) bytes))
piece_here first bytes i before inside h e out semicolon was =
    let outside : is_in_comment before (get_or bytes i 0) ≡ false = sym e ∙ out in
    let yes : is_end before (get_or bytes i 0) ≡ true = ap (λ v. v && not (is_in_comment before (get_or bytes i 0))) (eq-eqb (get_or bytes i 0) 59 semicolon) ∙ ap not outside in
    rw add-one (sym was ∙ ends_here bytes i before h yes ∙ ap (λ v. before_others (take i bytes) (cut_from v (drop (suc i) bytes))) outside)

-- no byte ends a piece
pub no_piece : (first : Bool) (bytes : List ℕ) (i : ℕ) (before : Bool) → length bytes ≤ i → in_front (take i bytes) (cut_from before (drop i bytes)) ≡ cut_from first bytes
    → cut_from first bytes ≡ record { ended = []; rest = bytes }
no_piece first bytes i before h was =
    sym was
    ∙ ap (λ xs. in_front (take i bytes) (cut_from before xs)) (drop_of_length-le bytes {i = i} h)
    ∙ ap (λ xs. in_front xs (record { ended = []; rest = [] })) (take_all i bytes h)
    ∙ front_of_rest bytes []
    ∙ ap (λ (xs : List ℕ). let ps : Pieces = record { ended = []; rest = xs } in ps) (append-nil bytes)

-- ---- comments

-- one more byte
pub comment_next : (first : Bool) (bytes : List ℕ) (i : ℕ) (before inside : Bool) → i < length bytes → inside ≡ is_in_comment before (get_or bytes i 0)
    → comment_after before (drop i bytes) ≡ comment_after first bytes → comment_after inside (drop (i + 1) bytes) ≡ comment_after first bytes
comment_next first bytes i before inside h e was = rw (add-one, e) (comment_step bytes i before h ∙ was)

-- no byte is left
pub comment_end : (first : Bool) (bytes : List ℕ) (i : ℕ) (before : Bool) → length bytes ≤ i → comment_after before (drop i bytes) ≡ comment_after first bytes → before ≡ comment_after first bytes
comment_end first bytes i before h was = sym (ap (comment_after before) (drop_of_length-le bytes {i = i} h)) ∙ was

pub comment_append : (b : Bool) (xs ys : List ℕ) → comment_after b (xs ++ ys) ≡ comment_after (comment_after b xs) ys
comment_append b [] ys = refl
comment_append b (x ∷ xs) ys = comment_append (is_in_comment b x) xs ys

-- ---- more bytes

-- ended pieces before others
abbrev pub before_all : List (List ℕ) → Pieces → Pieces
before_all ps qs = record { ended = ps ++ qs.ended; rest = qs.rest }

at_front_of : (x : ℕ) (es : List (List ℕ)) (r : List ℕ) (q : Pieces)
    → at_front x (before_all es (in_front r q)) ≡ before_all (at_front x (record { ended = es; rest = r })).ended (in_front (at_front x (record { ended = es; rest = r })).rest q)
at_front_of x [] r q = refl
at_front_of x (e ∷ es) r q = refl

-- the pieces of more bytes go on where those before them end
pub cut_more : (b : Bool) (xs ys : List ℕ)
    → cut_from b (xs ++ ys) ≡ before_all (cut_from b xs).ended (in_front (cut_from b xs).rest (cut_from (comment_after b xs) ys))
cut_more b [] ys = refl
cut_more b (x ∷ xs) ys =
    let inside : Bool = is_in_comment b x in
    let c : Pieces = cut_from inside xs in
    let more : Pieces = cut_from (comment_after inside xs) ys in
    elim (is_end b x) as (λ v. cond v (before_others [] (cut_from inside (xs ++ ys))) (at_front x (cut_from inside (xs ++ ys)))
    ≡ before_all (cond v (before_others [] c) (at_front x c)).ended (in_front (cond v (before_others [] c) (at_front x c)).rest more)) [
      | true ↦ ap (before_others []) (cut_more inside xs ys)
      | false ↦ ap (at_front x) (cut_more inside xs ys) ∙ at_front_of x c.ended c.rest more
    ]
