use Rattle.script_shell.proofs.Replaying.{replays}
use Rattle.script_shell.proofs.laws.sound_transcripts_replay.Goals as goal

pub returns : goal.returns
returns c = replays
