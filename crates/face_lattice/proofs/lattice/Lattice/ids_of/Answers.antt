use Rattle.std.proofs.Common.{◌≡◌, ◌+◌, ◌^◌, None, get_or, length, subst, ap, ◌∙◌, below_more, arith, ◌++◌, ◌∷◌, []}
use Rattle.std.proofs.lemmas.List.{get_or_append_left, get_or_push, length_push}
use Rattle.face_lattice.specs.Lattice.{AreIdsNeeded, id_of_part}
use Rattle.face_lattice.proofs.IdLaws.{ids_needed}
use Rattle.face_lattice.proofs.PartLaws.{parts_are}
use Rattle.face_lattice.proofs.lattice.Lattice.ids_of.Goals as goal

pub loop-mask-preserved : goal.loop-mask-preserved
loop-mask-preserved c =
    let m = c.loop-mask.mask in
    let old = c.loop-mask.ids.items in
    let new = c.push.new.self.items in
    let l = c.args.self.now in
    let s = c.args.outer.now in
    let id = c.id_of_part.result in
    let pushed : new ≡ old ++ id ∷ [] = c.in_ok-push.ensures.items in
    record {
      len = ap length pushed ∙ length_push old id ∙ ap (λ k. k + 1) c.loop-mask.invariant.len;
      at = below_more (λ k. get_or new k None ≡ id_of_part l s k) m
          (λ k h. ap (λ xs. get_or xs k None) pushed ∙ get_or_append_left old (id ∷ []) None k (omega (arith, h, c.loop-mask.invariant.len)) ∙ c.loop-mask.invariant.at k h)
          (ap (λ xs. get_or xs m None) pushed ∙ get_or_push old id None m c.loop-mask.invariant.len ∙ c.id_of_part.ensures);
    }

pub returns-clause-needed : goal.returns-clause-needed
returns-clause-needed c = subst AreIdsNeeded c.self.view_is (ids_needed c.self.inside.slab c.self.inside.counts c.self.inside.members.items _ c.self.inside.changes c.self.invariant)

pub returns-in_err-push-clause-needed : goal.returns-in_err-push-clause-needed
returns-in_err-push-clause-needed c = subst AreIdsNeeded c.self.view_is (ids_needed c.self.inside.slab c.self.inside.counts c.self.inside.members.items _ c.self.inside.changes c.self.invariant)

pub returns-clause-ids : goal.returns-clause-ids
returns-clause-ids c =
    let p = parts_are c.args.outer.now c.requires in
    let e : c.loop-mask.mask ≡ 2 ^ length c.args.outer.now = omega (arith, p, c.loop-mask-test.false, c.loop-mask.auto.mask-end) in
    record { len = c.loop-mask.invariant.len ∙ e; at = λ k h. c.loop-mask.invariant.at k (omega (arith, h, e)) }

pub id_of_part-requires-clause-number : goal.id_of_part-requires-clause-number
id_of_part-requires-clause-number c = let p = parts_are c.args.outer.now c.requires in omega (arith, p, c.loop-mask-test.true)
