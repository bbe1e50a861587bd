use Rattle.std.proofs.Common.{[], ◌∷◌, map}
use Rattle.constructions.specs.Gluing.{sum_tests}
use Rattle.script_shell.specs.Commands.{make_tests, void_test}
use Rattle.script_shell.proofs.Refusals.{on_ok, if_err, passed_both, stops_right}
use Rattle.script_shell.proofs.constructing.sum_along.Goals as goal

pub returns-clause-passed : goal.returns-clause-passed
returns-clause-passed c =
    let x = c.args.x.now in
    let y = c.args.y.now in
    let ts = sum_tests x c.args.f.now y c.args.g.now in
    let before = passed_both (void_test x ∷ []) (void_test y ∷ []) c.in_ok-not_void.ensures.passed c.in_ok-not_void-2.ensures.passed in
    on_ok c.constructed.result _ _ (λ h. passed_both (map void_test (x ∷ y ∷ [])) (make_tests ts) before h) (c.constructed.ensures.passed ts c.sum.ensures.passed)

pub returns-clause-refused : goal.returns-clause-refused
returns-clause-refused c =
    let x = c.args.x.now in
    let y = c.args.y.now in
    let ts = sum_tests x c.args.f.now y c.args.g.now in
    let before = passed_both (void_test x ∷ []) (void_test y ∷ []) c.in_ok-not_void.ensures.passed c.in_ok-not_void-2.ensures.passed in
    if_err c.constructed.result _ _ (λ e h. stops_right e (map void_test (x ∷ y ∷ [])) (make_tests ts) before h) (c.constructed.ensures.refused ts c.sum.ensures.faults)
