-- The command that bytes spell: of their tokens the form, and of this the command.
use Rattle.std.specs.Prelude.{ℕ, Bool, true, false, ◌&&◌, ◌==◌, List, [], ◌∷◌, Option, Some, None, if◌then◌else◌, option_and_then}
use Rattle.script_text.specs.declared.token.Token.{Token}
use Rattle.script_text.specs.declared.token.Token.TheVariants.{Word, Number, Assign, Open, Close, Comma}
use Rattle.plain_text.specs.Bytes.{is_text}
use Rattle.script_text.specs.Tokens.{tokens}
use Rattle.script_text.specs.Grammar.{form_tokens}
use Rattle.script_text.specs.Forms.{command_from}
use Rattle.script_text.specs.declared.form.Part.{Part}
use Rattle.script_text.specs.declared.form.Part.TheVariants as part
use Rattle.script_text.specs.declared.form.Form.{Form}
use Rattle.script_text.specs.declared.form.Form.TheVariants.{Alone, One, Two, Three, Four}
use Rattle.script_text.specs.declared.command.Command.{Command}

-- whether the tokens are one
abbrev pub same_token : Token → Token → Bool
same_token (Word v) (Word w) = is_text v w
same_token (Number m) (Number n) = m == n
same_token Assign Assign = true
same_token Open Open = true
same_token Close Close = true
same_token Comma Comma = true
same_token t u = false

abbrev pub same_tokens : List Token → List Token → Bool
same_tokens [] [] = true
same_tokens (t ∷ ts) (u ∷ us) = same_token t u && same_tokens ts us
same_tokens ts us = false

-- what tokens are so far, from the last: parts; in a bracket its numbers and lists and the parts behind it; in a
-- list in a bracket the numbers of the list, the lists behind it, and the parts behind the bracket
pub data Place : Type 0 where
  Outside : List Part → Place
  Inside : List ℕ → List (List ℕ) → List Part → Place
  Within : List ℕ → List (List ℕ) → List Part → Place

-- with one more token in front
abbrev pub step : Token → Place → Place
step (Word x) (Outside ps) = Outside (part.Name x ∷ ps)
step (Number n) (Outside ps) = Outside (part.Number n ∷ ps)
step Close (Outside ps) = Inside [] [] ps
step (Number n) (Inside ns ls ps) = Inside (n ∷ ns) ls ps
step Close (Inside ns ls ps) = Within [] ls ps
step Open (Inside ns [] ps) = Outside (part.List ns ∷ ps)
step Open (Inside ns (l ∷ ls) ps) = Outside (part.Lists (l ∷ ls) ∷ ps)
step (Number n) (Within ns ls ps) = Within (n ∷ ns) ls ps
step Open (Within ns ls ps) = Inside [] (ns ∷ ls) ps
step t s = s

abbrev pub place : List Token → Place
place [] = Outside []
place (t ∷ ts) = step t (place ts)

-- the form with these parts, if there is one
abbrev pub form_from : List Part → Option Form
form_from (a ∷ []) = Some (Alone a)
form_from (part.Name w ∷ a ∷ []) = Some (One w a)
form_from (part.Name w ∷ a ∷ b ∷ []) = Some (Two w a b)
form_from (part.Name w ∷ a ∷ b ∷ c ∷ []) = Some (Three w a b c)
form_from (part.Name w ∷ a ∷ b ∷ c ∷ d ∷ []) = Some (Four w a b c d)
form_from ps = None

abbrev pub outside : Place → Option Form
outside (Outside ps) = form_from ps
outside s = None

-- the form, if the tokens are its own
abbrev pub checked : List Token → Form → Option Form
checked ts f = if same_tokens ts (form_tokens f) then Some f else None

-- the form that tokens have, found by a guess that is checked against its tokens
abbrev pub form_of : List Token → Option Form
form_of ts = option_and_then (checked ts) (outside (place ts))

-- the command that tokens spell, if they spell one
abbrev pub command_in : List Token → Option Command
command_in (Word x ∷ Assign ∷ ts) = option_and_then (command_from (Some x)) (form_of ts)
command_in ts = option_and_then (command_from None) (form_of ts)

-- the command that bytes spell, if they spell one
unfoldable pub command_of : List ℕ → Option Command
command_of bytes = option_and_then command_in (tokens bytes)
