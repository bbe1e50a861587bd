use Rattle.std.proofs.Common.{arith}
use Rattle.shellings.proofs.PlaceLaws.{kept_all}
use Rattle.shellings.proofs.place_set.keep_words.Goals as goal

pub returns-clause-value : goal.returns-clause-value
returns-clause-value c = kept_all c.args.words.now c.args.kept.now c.loop-k.words c.loop-k.k (omega arith) (omega arith) c.loop-k.invariant
