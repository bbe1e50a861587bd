use Rattle.reply_texts.proofs.LineLaws.{all_lines}
use Rattle.reply_texts.proofs.laws.replies_are_lines.Goals as goal

pub returns : goal.returns
returns c = all_lines
