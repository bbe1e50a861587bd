-- The tokens of a command.
use Rattle.std.specs.Prelude.{ℕ, Bool, true, false, not, ◌&&◌, ◌||◌, List, [], ◌∷◌, Option, Some, None, if◌then◌else◌, ◌==◌, codes}
use Rattle.std.specs.List.{list_all}
use Rattle.plain_text.specs.Bytes.{is_run_byte, is_text, is_white, is_word, is_number, value_onto}
use Rattle.script_text.specs.declared.token.Token.{Token}
use Rattle.script_text.specs.declared.token.Token.TheVariants.{Word, Number, Assign, Open, Close, Comma}

-- whether the byte belongs to a comment, where the one before it does or does not: from # on, up to a line feed
abbrev pub is_in_comment : Bool → ℕ → Bool
is_in_comment before c = if before then not (c == 10) else c == 35

-- the bytes with a space for each byte of a comment
abbrev pub plain_from : Bool → List ℕ → List ℕ
plain_from before [] = []
plain_from before (c ∷ cs) =
    let inside = is_in_comment before c in
    (if inside then 32 else c) ∷ plain_from inside cs

abbrev pub plain : List ℕ → List ℕ
plain = plain_from false

-- whether the second byte belongs to the token of the first: in a run, and in :=
abbrev pub goes_on : ℕ → ℕ → Bool
goes_on c d = (is_run_byte c && is_run_byte d) || ((c == 58) && (d == 61))

-- the pieces of what follows, with a byte in front of it
abbrev pub in_front : ℕ → List ℕ → List (List ℕ) → List (List ℕ)
in_front c [] ps = (c ∷ []) ∷ ps
in_front c (d ∷ cs) [] = (c ∷ []) ∷ []
in_front c (d ∷ cs) (p ∷ ps) = if goes_on c d then (c ∷ p) ∷ ps else (c ∷ []) ∷ p ∷ ps

-- the pieces between white space: the longest runs, := and other bytes one by one
abbrev pub pieces : List ℕ → List (List ℕ)
pieces [] = []
pieces (c ∷ cs) = if is_white c then pieces cs else in_front c cs (pieces cs)

-- the sign that a piece is, if it is one
abbrev pub sign_of : List ℕ → Option Token
sign_of p =
    if is_text p (codes ":=") then Some Assign
    else (if is_text p (codes "[") then Some Open
    else (if is_text p (codes "]") then Some Close
    else (if is_text p (codes ",") then Some Comma else None)))

-- the token that a piece is, if it is one
abbrev pub token_of : List ℕ → Option Token
token_of p = if is_word p then Some (Word p) else (if is_number p then Some (Number (value_onto 0 p)) else sign_of p)

abbrev pub cons_both : {Y : Type 0} → Option Y → Option (List Y) → Option (List Y)
cons_both None ys = None
cons_both (Some y) None = None
cons_both (Some y) (Some ys) = Some (y ∷ ys)

-- what the list's members give, if each gives something
abbrev pub all_of : {X Y : Type 0} → (X → Option Y) → List X → Option (List Y)
all_of f [] = Some []
all_of f (x ∷ xs) = cons_both (f x) (all_of f xs)

-- the tokens of the bytes, if each piece is one
abbrev pub tokens : List ℕ → Option (List Token)
tokens bytes = all_of token_of (pieces (plain bytes))

-- whether the bytes are white space and comments alone
abbrev pub is_blank : List ℕ → Bool
is_blank bytes = list_all is_white (plain bytes)

-- whether no white space and no comment is in front of the bytes
abbrev pub is_at_piece : List ℕ → Bool
is_at_piece [] = true
is_at_piece (c ∷ cs) = not (is_white c) && not (c == 35)
