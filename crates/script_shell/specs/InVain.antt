-- Each undecided reply of a script belongs to a walk that made its whole budget of flips and met no simplex boundary: from the present
-- complex of the name in the command, from one of two, or from the link of the vertex that the reply names.
use Rattle.std.specs.Prelude.{ℕ, Bool, true, false, List, [], ◌∷◌, Option, Some, None}
use Rattle.script_text.specs.Reading.{command_of}
use Rattle.script_text.specs.Tokens.{is_blank}
use Rattle.script_text.specs.declared.command.Command.{Command}
use Rattle.script_text.specs.declared.command.Command.TheVariants as command
use Rattle.conditions.specs.declared.condition.Condition.{Condition}
use Rattle.shell_names.specs.State.{State, present}
use Rattle.verdicts.specs.Sound.{UndecidedInVain, CountedInVain}
use Rattle.verdicts.specs.Verdicts.{equivalent_of, manifold_of, sphere_of}
use Rattle.script_shell.specs.Bench.{bench_script}
use Rattle.script_shell.specs.Commands.{failed}
use Rattle.script_shell.specs.Limits.{standard}
use Rattle.script_shell.specs.Output.{form_of}
use Rattle.script_shell.specs.Transcript.{Run, after_piece, cut_from, start}
use Rattle.script_shell.specs.declared.limits.Limits.{Limits}
use Rattle.script_shell.specs.declared.words.Form.{Form}
use Rattle.script_shell.specs.declared.words.Form.TheVariants as form

-- where the verdict that the command asks for is undecided, it belongs to walks in vain; of other commands nothing is said
abbrev pub VerdictInVain : State → Command → Type 0
VerdictInVain s (command.Show lists) = Unit {0}
VerdictInVain s (command.Make x m) = Unit {0}
VerdictInVain s (command.Ask x q) = Unit {0}
VerdictInVain s (command.Change x e) = Unit {0}
VerdictInVain s (command.Sphere x budget seed) = UndecidedInVain (present s x) budget seed (sphere_of (present s x) budget seed)
VerdictInVain s (command.Equivalent x y budget seed) =
    CountedInVain (present s x) (present s y) budget seed (equivalent_of (present s x) (present s y) budget seed)
VerdictInVain s (command.Manifold x budget seed) = UndecidedInVain (present s x) budget seed (manifold_of (present s x) budget seed)

-- the same of the reply to the command: a refusal is no verdict
abbrev pub ReplyInVain : Limits → State → Command → Type 0
ReplyInVain limits s k = by (failed limits s k)
  where
    by : Option Condition → Type 0
    by None = VerdictInVain s k
    by (Some c) = Unit {0}

abbrev pub InVainIn : State → Option Command → Type 0
InVainIn s None = Unit {0}
InVainIn s (Some k) = ReplyInVain standard s k

-- of the reply to a piece of a script; a blank one has none
abbrev pub PieceInVain : Run → List ℕ → Type 0
PieceInVain r p = by (is_blank p)
  where
    by : Bool → Type 0
    by true = Unit {0}
    by false = InVainIn r.state (command_of p)

-- of the replies to the pieces, from this run on
abbrev pub AreInVain : Run → List (List ℕ) → Type 0
AreInVain r [] = Unit {0}
AreInVain r (p ∷ ps) = PieceInVain r p × AreInVain (after_piece r p) ps

-- of all replies to a script
abbrev pub ScriptInVain : List ℕ → Type 0
ScriptInVain bytes = AreInVain start (cut_from false bytes).ended

-- of all replies in the output for these words
abbrev pub FormInVain : Form → List ℕ → Type 0
FormInVain form.Run bytes = ScriptInVain bytes
FormInVain form.Replay bytes = Unit {0}
FormInVain (form.Bench d n seed) bytes = ScriptInVain (bench_script d n seed)
FormInVain form.NoForm bytes = Unit {0}

abbrev pub OutputInVain : List (List ℕ) → List ℕ → Type 0
OutputInVain words bytes = FormInVain (form_of words) bytes
