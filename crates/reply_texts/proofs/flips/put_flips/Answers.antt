use Rattle.plain_text.proofs.FrontLaws.{whole_text}
use Rattle.reply_texts.specs.Replies.{flip_text}
use Rattle.reply_texts.proofs.flips.put_flips.Goals as goal

pub returns : goal.returns
returns c =
    whole_text flip_text c.args.out.now c.put_flip.new.out c.loop-flip.out c.args.flips.now c.in-Some.first.now c.in-Some.rest.now c.loop-flip.flip-index
    c.in-Some.ensures.cases.0 c.in_ok-put_flip.ensures c.loop-flip.invariant c.loop-flip-test.false
