-- A transcript replays: its certificates are those of the yes verdicts, in order, and each is valid.
use Rattle.std.specs.Prelude.{◌≡◌, ℕ, false, List, [], ◌∷◌, ◌++◌, map, Option, Some, None, if◌then◌else◌}
use Rattle.script_text.specs.Reading.{command_of}
use Rattle.script_text.specs.Tokens.{is_blank}
use Rattle.script_text.specs.declared.command.Command.{Command}
use Rattle.script_text.specs.declared.command.Command.TheVariants as command
use Rattle.conditions.specs.declared.condition.Condition.{Condition}
use Rattle.shell_names.specs.State.{State, present}
use Rattle.flip_certificate.specs.Lines.{lines_of, text_of}
use Rattle.flip_certificate.specs.declared.certificate.Certificate.{Certificate}
use Rattle.replay_report.specs.Report.{parts, refuses_part}
use Rattle.verdicts.specs.Sound.{IsSound}
use Rattle.verdicts.specs.Verdicts.{equivalent_of, manifold_of, sphere_of}
use Rattle.verdicts.specs.declared.verdict.Verdict.{Verdict}
use Rattle.verdicts.specs.declared.verdict.Verdict.TheVariants.{Yes, Undecided, UndecidedAt}
use Rattle.script_shell.specs.Bench.{bench_script}
use Rattle.script_shell.specs.Commands.{failed}
use Rattle.script_shell.specs.Limits.{standard}
use Rattle.script_shell.specs.Output.{form_of}
use Rattle.script_shell.specs.declared.words.Form.{Form}
use Rattle.script_shell.specs.declared.words.Form.TheVariants as form
use Rattle.script_shell.specs.Transcript.{Run, after_piece, cut_from, start, transcript}
use Rattle.script_shell.specs.declared.limits.Limits.{Limits}

-- each of the certificates is sound
abbrev pub AreSound : List Certificate → Type 0
AreSound [] = Unit {0}
AreSound (k ∷ ks) = IsSound k × AreSound ks

-- the certificate of a yes
abbrev pub certificate_of : Verdict → List Certificate
certificate_of (Yes k) = k ∷ []
certificate_of (Undecided spent) = []
certificate_of (UndecidedAt vertex spent) = []

-- the certificate of the verdict that a command asks for
abbrev pub certificate_for : State → Command → List Certificate
certificate_for s (command.Show lists) = []
certificate_for s (command.Make x m) = []
certificate_for s (command.Ask x q) = []
certificate_for s (command.Change x e) = []
certificate_for s (command.Sphere x budget seed) = certificate_of (sphere_of (present s x) budget seed)
certificate_for s (command.Equivalent x y budget seed) = certificate_of (equivalent_of (present s x) (present s y) budget seed)
certificate_for s (command.Manifold x budget seed) = certificate_of (manifold_of (present s x) budget seed)

-- the certificate with the reply to the command: none where a condition refuses it
abbrev pub certificate_to : Limits → State → Command → List Certificate
certificate_to limits s k = by (failed limits s k)
  where
    by : Option Condition → List Certificate
    by None = certificate_for s k
    by (Some c) = []

abbrev pub certificate_in : State → Option Command → List Certificate
certificate_in s None = []
certificate_in s (Some k) = certificate_to standard s k

-- the certificate with the reply to a piece of a script
abbrev pub piece_certificate : Run → List ℕ → List Certificate
piece_certificate r p = if is_blank p then [] else certificate_in r.state (command_of p)

-- the certificates with the replies to the pieces, from this run on
abbrev pub certificates_from : Run → List (List ℕ) → List Certificate
certificates_from r [] = []
certificates_from r (p ∷ ps) = piece_certificate r p ++ certificates_from (after_piece r p) ps

-- the certificates of the yes verdicts on a whole script, in order
unfoldable pub certificates : List ℕ → List Certificate
certificates bytes = certificates_from start (cut_from false bytes).ended

-- the transcript's parts are the texts of these certificates, each is valid, and the report on it refuses none
pub record Replays (bytes : List ℕ) : Type 0 where
  pub parts : parts (transcript bytes) ≡ map (λ k. text_of (lines_of k)) (certificates bytes)
  pub sound : AreSound (certificates bytes)
  pub accepted : refuses_part (transcript bytes) ≡ false

-- what these words have written replays, where it is a transcript; that of a bench is inside it
abbrev pub FormReplays : Form → List ℕ → Type 0
FormReplays form.Run bytes = Replays bytes
FormReplays form.Replay bytes = Unit {0}
FormReplays (form.Bench d n seed) bytes = Replays (bench_script d n seed)
FormReplays form.NoForm bytes = Unit {0}

abbrev pub OutputReplays : List (List ℕ) → List ℕ → Type 0
OutputReplays words bytes = FormReplays (form_of words) bytes
