use Rattle.std.proofs.Common.{refl, arith}
use Rattle.packed_keys.proofs.WordLaws.{seen, packed, unpacked_is}
use Rattle.packed_keys.proofs.PushLaws.{fits, fits_last, fits_one, pushed}
use Rattle.packed_keys.proofs.key.Key.push.Goals as goal

pub put_in-requires : goal.put_in-requires
put_in-requires c =
    let w = seen _ _ _ _ _ c.self.invariant c.self.view_is in
    fits _ _ _ _ _ c.args.label _ c.in_place-bits.result w c.requires refl c.in_place-bits.ensures 0 c.self.inside.a w.first

pub put_in-requires-2 : goal.put_in-requires-2
put_in-requires-2 c =
    let w = seen _ _ _ _ _ c.self.invariant c.self.view_is in
    fits _ _ _ _ _ c.args.label _ c.in_place-bits.result w c.requires refl c.in_place-bits.ensures 1 c.self.inside.b w.second

pub put_in-requires-3 : goal.put_in-requires-3
put_in-requires-3 c =
    let w = seen _ _ _ _ _ c.self.invariant c.self.view_is in
    fits _ _ _ _ _ c.args.label _ c.in_place-bits.result w c.requires refl c.in_place-bits.ensures 2 c.self.inside.c w.third

pub put_in-requires-4 : goal.put_in-requires-4
put_in-requires-4 c =
    let w = seen _ _ _ _ _ c.self.invariant c.self.view_is in
    fits_last _ _ _ _ _ c.args.label _ c.in_place-bits.result w c.requires refl c.in_place-bits.ensures

pub overflow_add-result : goal.overflow_add-result
overflow_add-result c =
    let w = seen _ _ _ _ _ c.self.invariant c.self.view_is in
    omega (arith, fits_one _ _ _ _ _ c.args.label _ c.in_place-bits.result w c.requires refl c.in_place-bits.ensures c.put_in-4.result c.put_in-4.ensures)

pub invariant_of-result : goal.invariant_of-result
invariant_of-result c =
    let w = seen _ _ _ _ _ c.self.invariant c.self.view_is in
    packed _ _ _ _ _ (pushed _ _ _ _ _ c.args.label _ c.in_place-bits.result w c.requires refl c.in_place-bits.ensures _ _ _ _ c.put_in.ensures c.put_in-2.ensures c.put_in-3.ensures c.put_in-4.ensures)

pub returns : goal.returns
returns c =
    let w = seen _ _ _ _ _ c.self.invariant c.self.view_is in
    unpacked_is _ _ _ _ _ (pushed _ _ _ _ _ c.args.label _ c.in_place-bits.result w c.requires refl c.in_place-bits.ensures _ _ _ _ c.put_in.ensures c.put_in-2.ensures c.put_in-3.ensures c.put_in-4.ensures)
