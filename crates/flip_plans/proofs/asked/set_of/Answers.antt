use Rattle.std.proofs.Common.{refl}
use Rattle.packed_keys.proofs.UnpackLaws.{same_simplex, sure}
use Rattle.flip_plans.proofs.asked.set_of.Goals as goal

pub unreachable-requires : goal.unreachable-requires
unreachable-requires c = sure c.args.labels.now _ _ _ c.requires refl c.of.ensures.exact c.in-Err.is

pub returns : goal.returns
returns c = same_simplex c.args.labels.now _ _ _ c.requires refl c.of.ensures.exact c.in-Ok.is
