-- A run that answers each command before it takes more bytes: what it has done behind some bytes, and what it keeps of them.
use Rattle.std.specs.Prelude.{◌≡◌, ℕ, ◌-◌, Bool, false, ◌||◌, List, [], ◌∷◌, ◌++◌, length, take, Option, ◌⊎◌}
use Rattle.run_ends.specs.Ends.{AtEnd, Grows}
use Rattle.script_text.specs.Tokens.{is_in_comment}
use Rattle.script_shell.specs.InVain.{AreInVain, ScriptInVain}
use Rattle.script_shell.specs.Replays.{AreSound, Replays, certificates_from}
use Rattle.script_shell.specs.Streams.{Gave, GrowsByFront, GrowsPast, before_last}
use Rattle.script_shell.specs.Transcript.{Pieces, Run, after_piece, answered, answers, at_front, cut_from, is_refusing, piece_refuses, transcript}
use Rattle.script_shell.specs.declared.exit.Exit.{Exit}
use Rattle.script_shell.specs.declared.exit.Exit.TheVariants.{Memory, ReadFault, WriteFault, TooLong}
use Rattle.script_shell.specs.declared.stream.ReadEnd.{ReadEnd}
use Rattle.script_shell.specs.declared.stream.ReadEnd.TheVariants as read
use Rattle.run_ends.specs.declared.ends.SinkFault.{SinkFault}
use Rattle.run_ends.specs.declared.ends.SinkFault.TheVariants as sink

-- whether the last of the bytes belongs to a comment, where the one before them does or does not
abbrev pub comment_after : Bool → List ℕ → Bool
comment_after before [] = before
comment_after before (c ∷ cs) = comment_after (is_in_comment before c) cs

-- bytes at the front of the first piece
abbrev pub in_front : List ℕ → Pieces → Pieces
in_front [] ps = ps
in_front (x ∷ xs) ps = at_front x (in_front xs ps)

-- the pieces that a piece without an end and more bytes make
abbrev pub pieces_with : List ℕ → Bool → List ℕ → Pieces
pieces_with piece comment more = in_front piece (cut_from comment more)

-- the run after the pieces
abbrev pub run_after : Run → List (List ℕ) → Run
run_after r [] = r
run_after r (p ∷ ps) = run_after (after_piece r p) ps

-- whether one of the pieces is refused, from this run on
abbrev pub refuses_one : Run → List (List ℕ) → Bool
refuses_one r [] = false
refuses_one r (p ∷ ps) = piece_refuses r p || refuses_one (after_piece r p) ps

-- the pieces lead from one run to another, and what is known of their replies
pub record Leads (from to : Run) (refusing_from refusing_to : Bool) (ps : List (List ℕ)) : Type 0 where
  pub run : to ≡ run_after from ps
  pub refusing : refusing_to ≡ (refusing_from || refuses_one from ps)
  pub sound : AreSound (certificates_from from ps)
  pub in_vain : AreInVain from ps

-- the exit where the source or the sink stops a run
abbrev pub read_exit : ReadEnd → Exit
read_exit read.Failed = ReadFault
read_exit read.TooLong = TooLong
read_exit read.Memory = Memory

abbrev pub sink_exit : SinkFault → Exit
sink_exit sink.Failed = WriteFault
sink_exit sink.Memory = Memory

-- what a run has written that ends early, at this exit, behind the bytes that the source gave
pub record StopsAfter (e : Exit) (left_old left_new : Option (List ℕ)) (taken_old taken_new : ℕ) (old new : Option (List ℕ)) : Type 0 where
  pub bytes : List ℕ
  pub gave : Gave left_old left_new taken_old taken_new bytes
  pub exact : e ≡ ReadFault → Grows old new (answered bytes)
  pub past : GrowsPast old new (answered (before_last bytes))
  pub front : GrowsByFront old new (answered bytes) ⊎ (AtEnd left_new × GrowsByFront old new (transcript bytes))

-- the same of a run that answers all that the source gave, and whether something is refused
pub record AnswersAll (refused : Bool) (left_old left_new : Option (List ℕ)) (taken_old taken_new : ℕ) (old new : Option (List ℕ)) : Type 0 where
  pub bytes : List ℕ
  pub gave : Gave left_old left_new taken_old taken_new bytes
  pub end : AtEnd left_new
  pub text : Grows old new (transcript bytes)
  pub refusing : refused ≡ is_refusing bytes
  pub replays : Replays bytes
  pub in_vain : ScriptInVain bytes
