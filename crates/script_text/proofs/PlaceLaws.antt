-- The form that tokens have, found again from the last token on.
use Rattle.std.proofs.Common.{◌≡◌, ℕ, Bool, true, false, cond, List, [], ◌∷◌, ◌++◌, map, refl, sym, ap, ◌∙◌, Option, Some, None, append_assoc, option_and_then}
use Rattle.std.specs.Prelude.{◌==◌, flat_map}
use Rattle.std.proofs.lemmas.Bool.Decides.{nat_tests}
use Rattle.std.proofs.Common.{arith}
use Rattle.std.specs.Cmp.Lexicographic.{bytes_decides}
use Rattle.simplex.proofs.InOrderLaws.{and_left, and_right, and_both}
use Rattle.simplex.proofs.Decided.{equal_itself}
use Rattle.plain_text.specs.Bytes.{is_text}
use Rattle.script_text.specs.declared.token.Token.{Token}
use Rattle.script_text.specs.declared.token.Token.TheVariants.{Word, Number, Assign, Open, Close, Comma}
use Rattle.script_text.specs.declared.form.Part.{Part}
use Rattle.script_text.specs.declared.form.Part.TheVariants as part
use Rattle.script_text.specs.declared.form.Form.{Form}
use Rattle.script_text.specs.declared.form.Form.TheVariants.{Alone, One, Two, Three, Four}
use Rattle.script_text.specs.Fronts.{number, normal_part, AreNormal}
use Rattle.script_text.specs.Grammar.{with_commas, closed, list, parts_of, part_tokens, form_tokens}
use Rattle.script_text.specs.Reading.{same_token, same_tokens, Outside, Inside, Within, step, place, form_from, outside, checked, form_of}

-- ---- the same tokens
text_same : (v : List ℕ) → is_text v v ≡ true
text_same v = (bytes_decides v v).1 refl

number_of : (m n : ℕ) → (m == n) ≡ true → m ≡ n
number_of m n h = grind (arith, nat_tests)

token_same : (t : Token) → same_token t t ≡ true
token_same (Word v) = text_same v
token_same (Number n) = equal_itself n
token_same Assign = refl
token_same Open = refl
token_same Close = refl
token_same Comma = refl

tokens_same : (ts : List Token) → same_tokens ts ts ≡ true
tokens_same [] = refl
tokens_same (t ∷ ts) = and_both (same_token t t) (same_tokens ts ts) (token_same t) (tokens_same ts)

token_one : (t u : Token) → same_token t u ≡ true → t ≡ u
token_one (Word v) (Word w) h = ap Word ((bytes_decides v w).0 h)
token_one (Number m) (Number n) h = ap Number (number_of m n h)
token_one Assign Assign h = refl
token_one Open Open h = refl
token_one Close Close h = refl
token_one Comma Comma h = refl
token_one t u h = cc

tokens_one : (ts us : List Token) → same_tokens ts us ≡ true → ts ≡ us
tokens_one [] [] h = refl
tokens_one (t ∷ ts) (u ∷ us) h =
    let p = token_one t u (and_left (same_token t u) (same_tokens ts us) h) in
    let q = tokens_one ts us (and_right (same_token t u) (same_tokens ts us) h) in
    cc (p, q)
tokens_one [] (u ∷ us) h = cc
tokens_one (t ∷ ts) [] h = cc

-- ---- places
at_numbers : (ns : List ℕ) (us : List Token) (ps : List Part) → place us ≡ Outside ps → place (closed (map number ns) ++ us) ≡ Inside ns [] ps
at_numbers [] us ps e = ap (step Close) e
at_numbers (n ∷ []) us ps e = ap (λ s. step (Number n) (step Close s)) e
at_numbers (n ∷ m ∷ ns) us ps e = ap (λ s. step (Number n) (step Comma s)) (at_numbers (m ∷ ns) us ps e)

within_numbers : (ns : List ℕ) (us : List Token) (ls : List (List ℕ)) (ps : List Part) → place us ≡ Inside [] ls ps → place (closed (map number ns) ++ us) ≡ Within ns ls ps
within_numbers [] us ls ps e = ap (step Close) e
within_numbers (n ∷ []) us ls ps e = ap (λ s. step (Number n) (step Close s)) e
within_numbers (n ∷ m ∷ ns) us ls ps e = ap (λ s. step (Number n) (step Comma s)) (within_numbers (m ∷ ns) us ls ps e)

at_list : (l : List ℕ) (us : List Token) (ls : List (List ℕ)) (ps : List Part) → place us ≡ Inside [] ls ps → place (list l ++ us) ≡ Inside [] (l ∷ ls) ps
at_list l us ls ps e = ap (step Open) (within_numbers l us ls ps e)

at_lists : (ls : List (List ℕ)) (us : List Token) (ps : List Part) → place us ≡ Outside ps → place (closed (map list ls) ++ us) ≡ Inside [] ls ps
at_lists [] us ps e = ap (step Close) e
at_lists (l ∷ []) us ps e = ap place (append_assoc (list l) (Close ∷ []) us) ∙ at_list l (Close ∷ us) [] ps (ap (step Close) e)
at_lists (l ∷ k ∷ ls) us ps e =
    ap place (ap (λ ts. ts ++ us) (append_assoc (list l) (Comma ∷ with_commas (map list (k ∷ ls))) (Close ∷ [])) ∙ append_assoc (list l) (Comma ∷ closed (map list (k ∷ ls))) us)
    ∙ at_list l (Comma ∷ closed (map list (k ∷ ls)) ++ us) (k ∷ ls) ps (ap (step Comma) (at_lists (k ∷ ls) us ps e))

at_part : (p : Part) (us : List Token) (ps : List Part) → place us ≡ Outside ps → place (part_tokens p ++ us) ≡ Outside (normal_part p ∷ ps)
at_part (part.Name x) us ps e = ap (step (Word x)) e
at_part (part.Number n) us ps e = ap (step (Number n)) e
at_part (part.List ns) us ps e = ap (step Open) (at_numbers ns us ps e)
at_part (part.Lists []) us ps e = ap (λ s. step Open (step Close s)) e
at_part (part.Lists (l ∷ ls)) us ps e = ap (step Open) (at_lists (l ∷ ls) us ps e)

at_parts : (ps : List Part) → place (flat_map part_tokens ps) ≡ Outside (map normal_part ps)
at_parts [] = refl
at_parts (p ∷ ps) = at_part p (flat_map part_tokens ps) (map normal_part ps) (at_parts ps)

-- ---- forms
-- with no lists as the list of no numbers
abbrev pub normal : Form → Form
normal (Alone a) = Alone (normal_part a)
normal (One w a) = One w (normal_part a)
normal (Two w a b) = Two w (normal_part a) (normal_part b)
normal (Three w a b c) = Three w (normal_part a) (normal_part b) (normal_part c)
normal (Four w a b c d) = Four w (normal_part a) (normal_part b) (normal_part c) (normal_part d)

from_normal : (f : Form) → form_from (map normal_part (parts_of f)) ≡ Some (normal f)
from_normal (Alone a) = refl
from_normal f = refl

from_parts : (f : Form) → form_from (parts_of f) ≡ Some f
from_parts (Alone a) = refl
from_parts f = refl

normal_parts : (f : Form) → parts_of (normal f) ≡ map normal_part (parts_of f)
normal_parts (Alone a) = refl
normal_parts f = refl

normal_tokens : (p : Part) → part_tokens (normal_part p) ≡ part_tokens p
normal_tokens (part.Lists []) = refl
normal_tokens p = refl

same_spelled : (ps : List Part) → flat_map part_tokens (map normal_part ps) ≡ flat_map part_tokens ps
same_spelled [] = refl
same_spelled (p ∷ ps) = ap (λ ts. ts ++ flat_map part_tokens (map normal_part ps)) (normal_tokens p) ∙ ap (λ ts. part_tokens p ++ ts) (same_spelled ps)

normal_spelled : (f : Form) → form_tokens (normal f) ≡ form_tokens f
normal_spelled f = ap (flat_map part_tokens) (normal_parts f) ∙ same_spelled (parts_of f)

found_again : (f : Form) → outside (place (form_tokens f)) ≡ Some (normal f)
found_again f = ap outside (at_parts (parts_of f)) ∙ from_normal f

-- forms with the same tokens are the same but for lists that are empty
pub spelled_once : (f g : Form) → form_tokens f ≡ form_tokens g → normal f ≡ normal g
spelled_once f g e = let s : Some (normal f) ≡ Some (normal g) = sym (found_again f) ∙ ap (λ ts. outside (place ts)) e ∙ found_again g in cc

pub normal_itself : (f : Form) → AreNormal (parts_of f) → normal f ≡ f
normal_itself f h = let s : Some (normal f) ≡ Some f = sym (from_normal f) ∙ ap form_from h ∙ from_parts f in cc

-- the form of tokens that are spelled
pub form_again : (f : Form) → form_of (form_tokens f) ≡ Some (normal f)
form_again f =
    ap (option_and_then (checked (form_tokens f))) (found_again f)
    ∙ ap (λ ts. cond (same_tokens (form_tokens f) ts) (Some (normal f)) None) (normal_spelled f)
    ∙ ap (λ v. cond v (Some (normal f)) None) (tokens_same (form_tokens f))

checked_only : (ts : List Token) (f g : Form) (v : Bool) → same_tokens ts (form_tokens f) ≡ v → cond v (Some f) None ≡ Some g → ts ≡ form_tokens g
checked_only ts f g true e h = let k : f ≡ g = cc in tokens_one ts (form_tokens f) e ∙ ap form_tokens k
checked_only ts f g false e h = cc

pub form_only : (ts : List Token) (g : Form) → form_of ts ≡ Some g → ts ≡ form_tokens g
form_only ts g h = either (outside (place ts)) h
  where
    either : (r : Option Form) → option_and_then (checked ts) r ≡ Some g → ts ≡ form_tokens g
    either None k = cc
    either (Some f) k = checked_only ts f g (same_tokens ts (form_tokens f)) refl k
