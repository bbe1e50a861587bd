use Rattle.std.proofs.Common.{◌+◌, ◌<◌, ◌≤◌, List, ℕ, length, get_or, ap, sym, subst}
use Rattle.simplex.proofs.Members.{In}
use Rattle.cert_replay.proofs.CornerLaws.{Corner, out_of}
use Rattle.cert_replay.proofs.TableLaws.{LessTo, less_none, less_label, less_all}
use Rattle.cert_replay.proofs.corners.remove.Goals as goal

pub loop-label-init : goal.loop-label-init
loop-label-init c = less_none c.args.facet.now c.args.corners.now.keys

pub loop-label-preserved : goal.loop-label-preserved
loop-label-preserved c =
    let s = c.args.facet.now in
    let items = c.labels-label-items.result.now in
    let i = c.loop-label.label-index in
    let e = c.labels-label-items.ensures.value in
    let v : ℕ = get_or items i 0 in
    subst (λ (ks : List Corner). LessTo s (i + 1) c.args.corners.now.keys ks) (sym c.remove.ensures.keys)
    (less_label s c.args.corners.now.keys c.loop-label.corners.keys i v (subst (λ (l : List ℕ). i < length l) e c.loop-label-test.true) (ap (λ (l : List ℕ). get_or l i 0) e)
    (λ j. out_of (v, s) c.remove.new.self.keys c.remove.ensures.updates.1 (subst (λ (ks : List Corner). In (v, s) ks) (sym c.remove.ensures.keys) j)) c.loop-label.invariant)

pub returns : goal.returns
returns c =
    less_all c.args.facet.now c.args.corners.now.keys c.loop-label.corners.keys c.loop-label.label-index
    (subst (λ (l : List ℕ). length l ≤ c.loop-label.label-index) c.labels-label-items.ensures.value c.loop-label-test.false) c.loop-label.invariant
