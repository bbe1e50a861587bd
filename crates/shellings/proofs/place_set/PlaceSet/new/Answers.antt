use Rattle.std.proofs.Common.{rules, ap, ◌∙◌}
use Rattle.shellings.specs.Places.{is_one}
use Rattle.shellings.proofs.PlaceLaws.{empty_place}
use Rattle.shellings.proofs.place_set.PlaceSet.new.Goals as goal

pub returns-clause-empty : goal.returns-clause-empty
returns-clause-empty c = λ k. ap (λ ws. is_one ws k) (c.in_ok-vec.ensures.items_if_clones_equal (search rules)) ∙ empty_place c.args.len k
