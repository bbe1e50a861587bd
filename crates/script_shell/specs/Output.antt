-- The forms of the command line, and the whole output of the program.
use Rattle.std.specs.Prelude.{ℕ, Bool, true, false, List, [], ◌∷◌, Option, Some, None, if◌then◌else◌, codes}
use Rattle.plain_text.specs.Bytes.{is_text, number_of}
use Rattle.replay_report.specs.Report.{replay_text, refuses_part}
use Rattle.script_shell.specs.Bench.{bench_text, is_within}
use Rattle.script_shell.specs.Transcript.{transcript, is_refusing}
use Rattle.script_shell.specs.declared.words.Form.{Form}
use Rattle.script_shell.specs.declared.words.Form.TheVariants.{Run, Replay, Bench, NoForm}

-- the form of one word
abbrev pub word_form : List ℕ → Form
word_form w = if is_text w (codes "run") then Run else (if is_text w (codes "replay") then Replay else NoForm)

-- the form of `bench` with these numbers
abbrev pub bench_form : Option ℕ → Option ℕ → Option ℕ → Form
bench_form (Some d) (Some n) (Some seed) = if is_within d n then Bench d n seed else NoForm
bench_form d n seed = NoForm

-- the form of a word and three more
abbrev pub numbers_form : List ℕ → List ℕ → List ℕ → List ℕ → Form
numbers_form w d n seed = if is_text w (codes "bench") then bench_form (number_of d) (number_of n) (number_of seed) else NoForm

-- the form of the words after the program's name
abbrev pub form_of : List (List ℕ) → Form
form_of [] = NoForm
form_of (w ∷ []) = word_form w
form_of (w ∷ d ∷ []) = NoForm
form_of (w ∷ d ∷ n ∷ []) = NoForm
form_of (w ∷ d ∷ n ∷ seed ∷ []) = numbers_form w d n seed
form_of (w ∷ d ∷ n ∷ seed ∷ v ∷ ws) = NoForm

-- whether the words are of a form
abbrev pub is_form : Form → Bool
is_form Run = true
is_form Replay = true
is_form (Bench d n seed) = true
is_form NoForm = false

abbrev pub has_form : List (List ℕ) → Bool
has_form words = is_form (form_of words)

-- whether the words are `run`
abbrev pub is_run_form : Form → Bool
is_run_form Run = true
is_run_form Replay = false
is_run_form (Bench d n seed) = false
is_run_form NoForm = false

abbrev pub is_run : List (List ℕ) → Bool
is_run words = is_run_form (form_of words)

-- whether the words have the input read
abbrev pub form_reads : Form → Bool
form_reads Run = true
form_reads Replay = true
form_reads (Bench d n seed) = false
form_reads NoForm = false

abbrev pub reads_input : List (List ℕ) → Bool
reads_input words = form_reads (form_of words)

-- the line for words of no form
unfoldable pub usage_text : List ℕ
usage_text = codes "usage: simp run | simp replay | simp bench D N SEED\n"

-- the output for the words and the input
abbrev pub form_output : Form → List ℕ → List ℕ
form_output Run bytes = transcript bytes
form_output Replay bytes = replay_text bytes
form_output (Bench d n seed) bytes = bench_text d n seed
form_output NoForm bytes = usage_text

abbrev pub output : List (List ℕ) → List ℕ → List ℕ
output words bytes = form_output (form_of words) bytes

-- whether something in the output is a refusal
abbrev pub form_refuses : Form → List ℕ → Bool
form_refuses Run bytes = is_refusing bytes
form_refuses Replay bytes = refuses_part bytes
form_refuses (Bench d n seed) bytes = false
form_refuses NoForm bytes = false

abbrev pub refusing : List (List ℕ) → List ℕ → Bool
refusing words bytes = form_refuses (form_of words) bytes
