use Rattle.std.proofs.Common.{◌≡◌, refl, ◌+◌, ◌≤◌, true, take, length}
use Rattle.ranked_set.specs.Blocks.{joined, are_short, excess, IsRanked, but}
use Rattle.ranked_set.proofs.BlockLaws.{IsTaken}
use Rattle.ranked_set.proofs.ChangeLaws.{taken_all}
use Rattle.ranked_set.proofs.blocks.take_from.Goals as goal

at_member : (c : goal.After-tidy) → IsTaken c.args.blocks.now.items c.deref.result.now c.args.blocks.now.items c.in-Some.at.block c.in-Some.at.inner (length (joined (take c.in-Some.at.block c.deref.result.now)) + c.in-Some.at.inner) c.index_mut.result.now
at_member c = record {
  now_is = refl;
  seen_is = c.deref.ensures.value;
  ranked = c.requires.ranked;
  within = c.in-Some.ensures.block;
  inner_within = c.in-Some.ensures.inner;
  sum = refl;
  block_is = c.index_mut.ensures.value;
}

after : (c : goal.After-tidy)
    → (joined c.tidy.new.blocks.items ≡ but c.args.s.now (joined c.args.blocks.now.items)) × IsRanked c.tidy.new.blocks.items × (are_short c.tidy.new.blocks.items ≡ true) × (excess c.tidy.new.blocks.items ≤ excess c.args.blocks.now.items)
after c =
    taken_all c.args.s.now c.args.blocks.now.items c.deref.result.now c.in-Some.at.block c.in-Some.at.inner c.index_mut.result.now c.take_out.new.self (at_member c)
    c.in-Some.ensures.there c.take_out.ensures c.requires.short c.tidy.new.blocks.items c.tidy.ensures.tidied

pub returns-clause-members : goal.returns-clause-members
returns-clause-members c = (after c).0

pub returns-clause-ranked : goal.returns-clause-ranked
returns-clause-ranked c = (after c).1

pub returns-clause-short : goal.returns-clause-short
returns-clause-short c = (after c).2

pub returns-clause-excess : goal.returns-clause-excess
returns-clause-excess c = (after c).3
