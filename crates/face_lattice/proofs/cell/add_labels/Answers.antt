use Rattle.std.proofs.Common.{◌≤◌, get_or, cond, length, refl, sym, ap, ◌∙◌, subst}
use Rattle.std.specs.Ordering.{nat_cmp}
use Rattle.simplex.specs.InOrder.{put}
use Rattle.simplex.specs.Simplex.{has, minus, union}
use Rattle.face_lattice.proofs.PutLaws.{union_none, union_step}
use Rattle.face_lattice.proofs.RoomLaws.{room_at}
use Rattle.face_lattice.proofs.cell.add_labels.Goals as goal

pub loop-label-init : goal.loop-label-init
loop-label-init c = record { labels = union_none c.args.up.now.items c.args.s.now c.requires.rising; rising = c.requires.rising; capacity = refl }

pub add_beside-requires-clause-room : goal.add_beside-requires-clause-room
add_beside-requires-clause-room c =
    let xs = c.labels-label-items.result.now in
    let up = c.args.up.now.items in
    let s = c.args.s.now in
    let all = subst (λ ys. length (union up (minus ys s)) ≤ c.args.up.now.capacity) (sym c.labels-label-items.ensures.value) c.requires.room in
    room_at up xs s c.loop-label.up.items c.loop-label.label-index 0 c.loop-label.up.capacity c.loop-label-test.true (subst (λ n. length (union up (minus xs s)) ≤ n) (sym c.loop-label.invariant.capacity) all) c.loop-label.invariant.labels

pub loop-label-preserved : goal.loop-label-preserved
loop-label-preserved c =
    let xs = c.labels-label-items.result.now in
    let i = c.loop-label.label-index in
    let x = get_or xs i 0 in
    record {
      labels = union_step c.args.up.now.items xs c.args.s.now _ i 0 c.loop-label-test.true
          (c.add_beside.ensures.labels ∙ ap (λ ys. cond (has c.args.s.now x) ys (put nat_cmp x ys)) c.loop-label.invariant.labels);
      rising = c.add_beside.ensures.rising;
      capacity = c.add_beside.ensures.capacity ∙ c.loop-label.invariant.capacity;
    }
