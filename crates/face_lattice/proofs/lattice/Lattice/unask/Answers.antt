use Rattle.std.proofs.Common.{◌≡◌, true, cond, sym, ap, ◌∙◌}
use Rattle.simplex.specs.Simplex.{without}
use Rattle.face_lattice.specs.Cells.{same}
use Rattle.face_lattice.specs.Lattice.{askers_in, is_held}
use Rattle.face_lattice.proofs.HoldLaws.{held_same}
use Rattle.face_lattice.proofs.IdLaws.{held_more}
use Rattle.face_lattice.proofs.lattice.Lattice.unask.Goals as goal

pub returns-clause-asked : goal.returns-clause-asked
returns-clause-asked c =
    let old = c.args.self.now in
    let a = c.args.asker in
    λ s. c.dismiss.ensures.asked s ∙ ap (λ u. cond (same u s) (without (askers_in c.clear_room.new.self s) a) (askers_in c.clear_room.new.self s)) c.of.ensures.value
    ∙ ap (λ xs. cond (same c.args.b.now s) (without xs a) xs) (c.clear_room.ensures.holds.asked s)

pub returns-clause-ids : goal.returns-clause-ids
returns-clause-ids c =
    let old = c.args.self.now in
    let mid = c.clear_room.new.self in
    let new = c.dismiss.new.self in
    λ s h.
    let m : is_held mid s ≡ true = held_more mid new s (same c.of.result s) c.args.asker c.dismiss.ensures.facets (c.dismiss.ensures.asked s) h in
    let o : is_held old s ≡ true = sym (held_same old mid s c.clear_room.ensures.facets (c.clear_room.ensures.holds.asked s)) ∙ m in
    c.dismiss.ensures.ids s h ∙ c.clear_room.ensures.holds.ids s o m
