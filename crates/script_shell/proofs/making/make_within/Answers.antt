use Rattle.std.proofs.Common.{◌≡◌, refl, ap, ◌∙◌}
use Rattle.constructions.specs.Cyclic.{cyclic_tests}
use Rattle.constructions.specs.Joins.{join_tests}
use Rattle.constructions.specs.Stacked.{stacked_tests}
use Rattle.script_text.specs.declared.command.Maker.TheVariants as maker
use Rattle.shell_names.specs.State.{Complex, present}
use Rattle.script_shell.proofs.Makers.{within_passed, within_refused}
use Rattle.script_shell.proofs.making.make_within.Goals as goal

pub returns-in-Cyclic-clause-passed : goal.returns-in-Cyclic-clause-passed
returns-in-Cyclic-clause-passed c =
    let ts = cyclic_tests c.in-Cyclic.k c.in-Cyclic.n c.args.room in
    within_passed c.constructed.result c.args.names.now c.args.maker.now (maker.Cyclic c.in-Cyclic.k c.in-Cyclic.n) ts ts c.in-Cyclic.is refl c.args.room refl (c.constructed.ensures.passed ts c.cyclic.ensures.passed)

pub returns-in-Cyclic-clause-refused : goal.returns-in-Cyclic-clause-refused
returns-in-Cyclic-clause-refused c =
    let ts = cyclic_tests c.in-Cyclic.k c.in-Cyclic.n c.args.room in
    within_refused c.constructed.result c.args.names.now c.args.maker.now (maker.Cyclic c.in-Cyclic.k c.in-Cyclic.n) ts ts c.in-Cyclic.is refl c.args.room refl (c.constructed.ensures.refused ts c.cyclic.ensures.faults)

pub returns-in-Stacked-clause-passed : goal.returns-in-Stacked-clause-passed
returns-in-Stacked-clause-passed c =
    let ts = stacked_tests c.in-Stacked.d c.in-Stacked.n c.in-Stacked.seed c.args.room in
    within_passed c.constructed-in-Stacked.result c.args.names.now c.args.maker.now (maker.Stacked c.in-Stacked.d c.in-Stacked.n c.in-Stacked.seed) ts ts c.in-Stacked.is refl c.args.room refl (c.constructed-in-Stacked.ensures.passed ts c.stacked.ensures.passed)

pub returns-in-Stacked-clause-refused : goal.returns-in-Stacked-clause-refused
returns-in-Stacked-clause-refused c =
    let ts = stacked_tests c.in-Stacked.d c.in-Stacked.n c.in-Stacked.seed c.args.room in
    within_refused c.constructed-in-Stacked.result c.args.names.now c.args.maker.now (maker.Stacked c.in-Stacked.d c.in-Stacked.n c.in-Stacked.seed) ts ts c.in-Stacked.is refl c.args.room refl (c.constructed-in-Stacked.ensures.refused ts c.stacked.ensures.faults)

pub returns-in-Join-clause-passed : goal.returns-in-Join-clause-passed
returns-in-Join-clause-passed c =
    let ts = join_tests (present c.args.names.now c.in-Join.left) (present c.args.names.now c.in-Join.right) c.args.room in
    let us = join_tests c.present-x.result.now c.present-y.result.now c.args.room in
    let same : us ≡ ts = ap (λ (x : Complex). join_tests x c.present-y.result.now c.args.room) c.present-x.ensures
    ∙ ap (λ (y : Complex). join_tests (present c.args.names.now c.in-Join.left) y c.args.room) c.present-y.ensures in
    within_passed c.constructed-in-Join.result c.args.names.now c.args.maker.now (maker.Join c.in-Join.left c.in-Join.right) ts us c.in-Join.is same c.args.room refl (c.constructed-in-Join.ensures.passed us c.join.ensures.passed)

pub returns-in-Join-clause-refused : goal.returns-in-Join-clause-refused
returns-in-Join-clause-refused c =
    let ts = join_tests (present c.args.names.now c.in-Join.left) (present c.args.names.now c.in-Join.right) c.args.room in
    let us = join_tests c.present-x.result.now c.present-y.result.now c.args.room in
    let same : us ≡ ts = ap (λ (x : Complex). join_tests x c.present-y.result.now c.args.room) c.present-x.ensures
    ∙ ap (λ (y : Complex). join_tests (present c.args.names.now c.in-Join.left) y c.args.room) c.present-y.ensures in
    within_refused c.constructed-in-Join.result c.args.names.now c.args.maker.now (maker.Join c.in-Join.left c.in-Join.right) ts us c.in-Join.is same c.args.room refl (c.constructed-in-Join.ensures.refused us c.join.ensures.faults)
