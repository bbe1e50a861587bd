-- Laws of whole scripts.
use Rattle.std.specs.Prelude.{◌≡◌, ℕ, false, List, ◌++◌}
use Rattle.script_shell.specs.Bench.{bench_script}
use Rattle.script_shell.specs.Output.{form_of}
use Rattle.script_shell.specs.Replays.{AreSound, Replays, certificates}
use Rattle.script_shell.specs.Transcript.{answered, is_refusing, transcript}
use Rattle.script_shell.specs.declared.words.Form.TheVariants.{Bench}

-- a transcript replays where the certificates of its yes verdicts are sound
abbrev pub SoundTranscriptsReplay : Type 0
SoundTranscriptsReplay = (bytes : List ℕ) → AreSound (certificates bytes) → Replays bytes

-- the numbers that words of the form `bench` name have a script in which nothing is refused
abbrev pub BenchRefusesNothing : Type 0
BenchRefusesNothing = (words : List (List ℕ)) (d n seed : ℕ) → form_of words ≡ Bench d n seed → is_refusing (bench_script d n seed) ≡ false

-- what is answered of some bytes stays so whatever bytes follow, and the transcript begins with it
pub record AnswersStay : Type 0 where
  pub more : (xs ys : List ℕ) → (text : List ℕ) × (answered (xs ++ ys) ≡ answered xs ++ text)
  pub whole : (bytes : List ℕ) → (text : List ℕ) × (transcript bytes ≡ answered bytes ++ text)
