use Rattle.shell_names.proofs.StateLaws.{sums_of, weight_taken, weight_none}
use Rattle.shell_names.proofs.names.Names.weight_without.Goals as goal

pub overflow_sub-result : goal.overflow_sub-result
overflow_sub-result c =
    let sums = sums_of _ c.args.self.now c.self.inside.weight c.self.inside.journal c.self.view_is c.self.invariant in
    (weight_taken c.args.self.now c.args.name.now c.in-Some.entry.now c.present.result.now _ _ c.weight.result sums c.in-Some.ensures.1 c.present.ensures c.weight.ensures).0

pub returns-in-Some : goal.returns-in-Some
returns-in-Some c =
    let sums = sums_of _ c.args.self.now c.self.inside.weight c.self.inside.journal c.self.view_is c.self.invariant in
    (weight_taken c.args.self.now c.args.name.now c.in-Some.entry.now c.present.result.now _ _ c.weight.result sums c.in-Some.ensures.1 c.present.ensures c.weight.ensures).1

pub returns-in-None : goal.returns-in-None
returns-in-None c =
    let sums = sums_of _ c.args.self.now c.self.inside.weight c.self.inside.journal c.self.view_is c.self.invariant in
    weight_none c.args.self.now c.args.name.now _ _ sums c.in-None.ensures
