use Rattle.std.proofs.Common.{◌+◌, ◌<◌, ◌≤◌, List, ℕ, length, get_or, ap, sym, subst}
use Rattle.cert_replay.proofs.CornerLaws.{Corner}
use Rattle.cert_replay.proofs.TableLaws.{MoreTo, more_none, more_label, more_all}
use Rattle.cert_replay.proofs.corners.add.Goals as goal

pub loop-label-init : goal.loop-label-init
loop-label-init c = more_none c.args.facet.now c.args.corners.now.keys

pub loop-label-preserved : goal.loop-label-preserved
loop-label-preserved c =
    let s = c.args.facet.now in
    let items = c.labels-label-items.result.now in
    let i = c.loop-label.label-index in
    let e = c.labels-label-items.ensures.value in
    subst (λ (ks : List Corner). MoreTo s (i + 1) c.args.corners.now.keys ks) (sym c.in_ok-insert.ensures.keys)
    (more_label s c.args.corners.now.keys c.loop-label.corners.keys i (get_or items i 0) (subst (λ (l : List ℕ). i < length l) e c.loop-label-test.true) (ap (λ (l : List ℕ). get_or l i 0) e) c.loop-label.invariant)

pub returns : goal.returns
returns c =
    more_all c.args.facet.now c.args.corners.now.keys c.loop-label.corners.keys c.loop-label.label-index
    (subst (λ (l : List ℕ). length l ≤ c.loop-label.label-index) c.labels-label-items.ensures.value c.loop-label-test.false) c.loop-label.invariant
