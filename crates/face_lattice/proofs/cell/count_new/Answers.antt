use Rattle.std.proofs.Common.{arith}
use Rattle.face_lattice.proofs.PutLaws.{union_none}
use Rattle.face_lattice.proofs.RoomLaws.{start_room, counted, uncounted}
use Rattle.face_lattice.proofs.cell.count_new.Goals.{then-is_new, else-is_new}
use Rattle.face_lattice.proofs.cell.count_new.Goals as goal

pub loop-label-init : goal.loop-label-init
loop-label-init c = record { room = start_room c.args.up.now c.args.s.now (union_none c.args.up.now c.args.s.now c.requires); few = omega arith }

pub loop-label-preserved : goal.loop-label-preserved
loop-label-preserved c =
    let up = c.args.up.now in
    let xs = c.args.labels.now in
    let s = c.args.s.now in
    let i = c.loop-label.label-index in
    let h = c.loop-label.invariant in
    elim c.if-is_new.branch [
      | then-is_new w ↦ record { room = omega (arith, counted up xs s i 0 c.loop-label.n c.loop-label-test.true h.room, w.n-is); few = omega (arith, h.few, w.n-is) }
      | else-is_new w ↦ record { room = omega (arith, uncounted up xs s i 0 c.loop-label.n c.loop-label-test.true (c.is_new.ensures w.if-is_new.false) h.room, w.n-is); few = omega (arith, h.few, w.n-is) }
    ]
