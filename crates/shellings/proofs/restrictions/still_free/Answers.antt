use Rattle.std.proofs.Common.{◌∙◌}
use Rattle.simplex.proofs.Filled.{rising_of}
use Rattle.shellings.proofs.MissingLaws.{left_nothing, left_one, left_more}
use Rattle.shellings.proofs.restrictions.still_free.Goals as goal

pub returns-in-Nothing : goal.returns-in-Nothing
returns-in-Nothing c = λ w. left_nothing c.args.f.now c.args.g.now c.args.free.now c.find_missing.result c.find_missing.ensures.value c.in-Nothing.is

pub returns-in-One : goal.returns-in-One
returns-in-One c =
    λ w. c.without.ensures.value ∙ left_one c.args.f.now c.args.g.now c.args.free.now c.find_missing.result c.in-One.label c.find_missing.ensures.value c.in-One.is w

pub returns-in-More : goal.returns-in-More
returns-in-More c =
    λ w. left_more c.args.f.now c.args.g.now c.args.free.now c.find_missing.result (rising_of c.args.f.now c.find_missing.ensures.simplex) c.find_missing.ensures.value c.in-More.is
