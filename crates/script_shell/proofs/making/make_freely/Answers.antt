use Rattle.std.proofs.Common.{◌≡◌, refl, ap}
use Rattle.constructions.specs.Joins.{fit_tests, point, two_points}
use Rattle.constructions.specs.Spheres.{sphere_tests}
use Rattle.script_text.specs.declared.command.Maker.TheVariants as maker
use Rattle.shell_names.specs.State.{Complex, present}
use Rattle.script_shell.proofs.Makers.{freely_passed, freely_stops}
use Rattle.script_shell.proofs.making.make_freely.Goals as goal

pub returns-in-BdSimplex-clause-passed : goal.returns-in-BdSimplex-clause-passed
returns-in-BdSimplex-clause-passed c =
    let ts = sphere_tests c.in-BdSimplex.d in
    freely_passed c.constructed.result c.args.names.now c.args.maker.now (maker.BdSimplex c.in-BdSimplex.d) ts ts c.in-BdSimplex.is refl refl (c.constructed.ensures.passed ts c.bdsimplex.ensures.passed)

pub returns-in-BdSimplex-clause-refused : goal.returns-in-BdSimplex-clause-refused
returns-in-BdSimplex-clause-refused c =
    let ts = sphere_tests c.in-BdSimplex.d in
    freely_stops c.constructed.result c.args.names.now c.args.maker.now (maker.BdSimplex c.in-BdSimplex.d) ts ts c.in-BdSimplex.is refl refl (c.constructed.ensures.refused ts c.bdsimplex.ensures.faults)

pub returns-in-BdCross-clause-passed : goal.returns-in-BdCross-clause-passed
returns-in-BdCross-clause-passed c =
    let ts = sphere_tests c.in-BdCross.d in
    freely_passed c.constructed-in-BdCross.result c.args.names.now c.args.maker.now (maker.BdCross c.in-BdCross.d) ts ts c.in-BdCross.is refl refl (c.constructed-in-BdCross.ensures.passed ts c.bdcross.ensures.passed)

pub returns-in-BdCross-clause-refused : goal.returns-in-BdCross-clause-refused
returns-in-BdCross-clause-refused c =
    let ts = sphere_tests c.in-BdCross.d in
    freely_stops c.constructed-in-BdCross.result c.args.names.now c.args.maker.now (maker.BdCross c.in-BdCross.d) ts ts c.in-BdCross.is refl refl (c.constructed-in-BdCross.ensures.refused ts c.bdcross.ensures.faults)

pub returns-in-Cone-clause-passed : goal.returns-in-Cone-clause-passed
returns-in-Cone-clause-passed c =
    let ts = fit_tests (present c.args.names.now c.in-Cone.of) point in
    let us = fit_tests c.present-in-Cone.result.now point in
    let same : us ≡ ts = ap (λ (x : Complex). fit_tests x point) c.present-in-Cone.ensures in
    freely_passed c.constructed-in-Cone.result c.args.names.now c.args.maker.now (maker.Cone c.in-Cone.of) ts us c.in-Cone.is same refl (c.constructed-in-Cone.ensures.passed us c.cone.ensures.passed)

pub returns-in-Cone-clause-refused : goal.returns-in-Cone-clause-refused
returns-in-Cone-clause-refused c =
    let ts = fit_tests (present c.args.names.now c.in-Cone.of) point in
    let us = fit_tests c.present-in-Cone.result.now point in
    let same : us ≡ ts = ap (λ (x : Complex). fit_tests x point) c.present-in-Cone.ensures in
    freely_stops c.constructed-in-Cone.result c.args.names.now c.args.maker.now (maker.Cone c.in-Cone.of) ts us c.in-Cone.is same refl (c.constructed-in-Cone.ensures.refused us c.cone.ensures.faults)

pub returns-in-Suspension-clause-passed : goal.returns-in-Suspension-clause-passed
returns-in-Suspension-clause-passed c =
    let ts = fit_tests (present c.args.names.now c.in-Suspension.of) two_points in
    let us = fit_tests c.present-in-Suspension.result.now two_points in
    let same : us ≡ ts = ap (λ (x : Complex). fit_tests x two_points) c.present-in-Suspension.ensures in
    freely_passed c.constructed-in-Suspension.result c.args.names.now c.args.maker.now (maker.Suspension c.in-Suspension.of) ts us c.in-Suspension.is same refl (c.constructed-in-Suspension.ensures.passed us c.suspension.ensures.passed)

pub returns-in-Suspension-clause-refused : goal.returns-in-Suspension-clause-refused
returns-in-Suspension-clause-refused c =
    let ts = fit_tests (present c.args.names.now c.in-Suspension.of) two_points in
    let us = fit_tests c.present-in-Suspension.result.now two_points in
    let same : us ≡ ts = ap (λ (x : Complex). fit_tests x two_points) c.present-in-Suspension.ensures in
    freely_stops c.constructed-in-Suspension.result c.args.names.now c.args.maker.now (maker.Suspension c.in-Suspension.of) ts us c.in-Suspension.is same refl (c.constructed-in-Suspension.ensures.refused us c.suspension.ensures.faults)
