-- Why a command stops before its end.
use Rattle.std.specs.Prelude.{◌≡◌, Option, Some}
use Rattle.betti_tables.specs.declared.betti_fault.BettiFault.{BettiFault}
use Rattle.betti_tables.specs.declared.betti_fault.BettiFault.TheVariants as betti
use Rattle.constructions.specs.declared.make_fault.MakeFault.{MakeFault}
use Rattle.constructions.specs.declared.make_fault.MakeFault.TheVariants as make
use Rattle.local_parts.specs.declared.part_fault.PartFault.{PartFault}
use Rattle.local_parts.specs.declared.part_fault.PartFault.TheVariants as fault
use Rattle.conditions.specs.declared.condition.Condition.{Condition}
use Rattle.conditions.specs.declared.condition.Condition.TheVariants as condition
use Rattle.verdicts.specs.declared.verdict_fault.VerdictFault.{VerdictFault}
use Rattle.verdicts.specs.declared.verdict_fault.VerdictFault.TheVariants as unfit
use Rattle.script_shell.specs.declared.stop.Stop.{Stop}
use Rattle.script_shell.specs.declared.stop.Stop.TheVariants.{Refused, Memory}

-- it stops at the condition that was found to fail, or for want of memory
abbrev pub StopsAt : Stop → Option Condition → Type 0
StopsAt (Refused c) found = found ≡ Some c
StopsAt Memory found = Unit {0}

-- the stop at a part of a complex that is not answered
abbrev pub part_stop : PartFault → Stop
part_stop fault.NotFace = Refused condition.NotFace
part_stop fault.NotPure = Refused condition.NotPure
part_stop fault.Memory = Memory

-- the stop at a complex that is not made
abbrev pub make_stop : MakeFault → Stop
make_stop make.Range = Refused condition.Range
make_stop make.DimLimit = Refused condition.DimLimit
make_stop make.LabelRange = Refused condition.LabelRange
make_stop make.NotPure = Refused condition.NotPure
make_stop make.DimDiffers = Refused condition.DimDiffers
make_stop make.NotFacet = Refused condition.NotFacet
make_stop make.NotMap = Refused condition.NotMap
make_stop make.Overlap = Refused condition.Overlap
make_stop (make.Near v) = Refused condition.Near
make_stop make.Size = Refused condition.SizeLimit
make_stop make.Memory = Memory

-- the stop at Betti numbers that are not answered
abbrev pub betti_stop : BettiFault → Stop
betti_stop (betti.RankLimit k) = Refused condition.RankLimit
betti_stop betti.Memory = Memory

-- the stop at a verdict that is not given
abbrev pub verdict_stop : VerdictFault → Stop
verdict_stop unfit.Void = Refused condition.Void
verdict_stop unfit.NotPure = Refused condition.NotPure
verdict_stop unfit.DimRange = Refused condition.DimRange
verdict_stop unfit.DimDiffers = Refused condition.DimDiffers
verdict_stop unfit.Budget = Refused condition.Budget
verdict_stop unfit.Memory = Memory
