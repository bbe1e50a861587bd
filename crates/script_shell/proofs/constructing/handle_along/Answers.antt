use Rattle.std.proofs.Common.{[], ◌∷◌}
use Rattle.constructions.specs.Gluing.{handle_tests}
use Rattle.script_shell.specs.Commands.{make_tests, void_test}
use Rattle.script_shell.proofs.Refusals.{on_ok, if_err, passed_both, stops_right}
use Rattle.script_shell.proofs.constructing.handle_along.Goals as goal

pub returns-clause-passed : goal.returns-clause-passed
returns-clause-passed c =
    let ts = handle_tests c.args.x.now c.args.f.now c.args.g.now in
    on_ok c.constructed.result _ _ (λ h. passed_both (void_test c.args.x.now ∷ []) (make_tests ts) c.in_ok-not_void.ensures.passed h) (c.constructed.ensures.passed ts c.handle.ensures.passed)

pub returns-clause-refused : goal.returns-clause-refused
returns-clause-refused c =
    let ts = handle_tests c.args.x.now c.args.f.now c.args.g.now in
    if_err c.constructed.result _ _ (λ e h. stops_right e (void_test c.args.x.now ∷ []) (make_tests ts) c.in_ok-not_void.ensures.passed h) (c.constructed.ensures.refused ts c.handle.ensures.faults)
