-- Whole runs: a script is cut into pieces, and each piece that is not blank has a number and a reply.
use Rattle.std.specs.Prelude.{ℕ, ◌+◌, Bool, true, false, not, ◌&&◌, ◌||◌, ◌==◌, List, [], ◌∷◌, ◌++◌, Option, Some, None, is_some, if◌then◌else◌, codes, decimal}
use Rattle.reply_texts.specs.Replies.{line}
use Rattle.script_text.specs.Reading.{command_of}
use Rattle.script_text.specs.Tokens.{is_blank, is_in_comment}
use Rattle.script_text.specs.declared.command.Command.{Command}
use Rattle.script_shell.specs.Commands.{failed, state_after, reply_to}
use Rattle.script_shell.specs.Limits.{standard}
use Rattle.shell_names.specs.State.{State}

-- the pieces of a script: those before each ; outside comments, and the rest behind the last one
pub record Pieces : Type 0 where
  pub ended : List (List ℕ)
  pub rest : List ℕ

-- one more piece before the others
abbrev pub before_others : List ℕ → Pieces → Pieces
before_others p ps = record { ended = p ∷ ps.ended; rest = ps.rest }

-- one more byte at the front of the first piece
abbrev pub at_front : ℕ → Pieces → Pieces
at_front c ps = by ps.ended
  where
    by : List (List ℕ) → Pieces
    by [] = record { ended = []; rest = c ∷ ps.rest }
    by (q ∷ qs) = record { ended = (c ∷ q) ∷ qs; rest = ps.rest }

-- the pieces of the bytes, where the byte before them belongs to a comment or does not
abbrev pub cut_from : Bool → List ℕ → Pieces
cut_from before [] = record { ended = []; rest = [] }
cut_from before (c ∷ cs) =
    let inside = is_in_comment before c in
    let ps = cut_from inside cs in
    if (c == 59) && not inside then before_others [] ps else at_front c ps

-- a run so far: how many commands had a number, and the state
pub record Run : Type 0 where
  pub count : ℕ
  pub state : State

-- the reply to a piece that is not blank, the state after it, and whether it is refused: bytes that are no command are refused
abbrev pub reply_in : State → Option Command → List ℕ
reply_in s None = line (codes "refused syntax")
reply_in s (Some k) = reply_to standard s k

abbrev pub state_in : State → Option Command → State
state_in s None = s
state_in s (Some k) = state_after standard s k

abbrev pub is_refused_in : State → Option Command → Bool
is_refused_in s None = true
is_refused_in s (Some k) = is_some (failed standard s k)

-- the reply with its number
abbrev pub numbered : ℕ → List ℕ → List ℕ
numbered n reply = 91 ∷ decimal n ++ codes "] " ++ reply

-- what is written for a piece; nothing for a blank one
abbrev pub piece_text : Run → List ℕ → List ℕ
piece_text r p = if is_blank p then [] else numbered (r.count + 1) (reply_in r.state (command_of p))

-- the run after a piece; a blank one takes no number
abbrev pub after_piece : Run → List ℕ → Run
after_piece r p = if is_blank p then r else record { count = r.count + 1; state = state_in r.state (command_of p) }

-- whether a piece is refused
abbrev pub piece_refuses : Run → List ℕ → Bool
piece_refuses r p = not (is_blank p) && is_refused_in r.state (command_of p)

-- what is written for the rest behind the last ;
abbrev pub rest_text : Run → List ℕ → List ℕ
rest_text r rest = if is_blank rest then [] else numbered (r.count + 1) (line (codes "refused unended"))

-- what is written for the pieces and the rest, from this run on
abbrev pub replies : Run → List (List ℕ) → List ℕ → List ℕ
replies r [] rest = rest_text r rest
replies r (p ∷ ps) rest = piece_text r p ++ replies (after_piece r p) ps rest

-- what is written for the pieces alone
abbrev pub answers : Run → List (List ℕ) → List ℕ
answers r [] = []
answers r (p ∷ ps) = piece_text r p ++ answers (after_piece r p) ps

-- whether a piece or the rest is refused, from this run on
abbrev pub refuses : Run → List (List ℕ) → List ℕ → Bool
refuses r [] rest = not (is_blank rest)
refuses r (p ∷ ps) rest = piece_refuses r p || refuses (after_piece r p) ps rest

-- the run before the first piece
abbrev pub start : Run
start = record { count = 0; state = [] }

-- what is written for a whole script
unfoldable pub transcript : List ℕ → List ℕ
transcript bytes = let ps = cut_from false bytes in replies start ps.ended ps.rest

-- what is written for the pieces of some bytes that a ; ends, whatever bytes follow
unfoldable pub answered : List ℕ → List ℕ
answered bytes = answers start (cut_from false bytes).ended

-- whether a piece of a script is refused
unfoldable pub is_refusing : List ℕ → Bool
is_refusing bytes = let ps = cut_from false bytes in refuses start ps.ended ps.rest
