use Rattle.std.proofs.Common.{◌≡◌, ◌≤◌, true, length, take, ap, ◌∙◌, arith}
use Rattle.std.proofs.lemmas.List.{take_all}
use Rattle.simplex.specs.Simplex.{is_within, minus}
use Rattle.shellings.specs.Candidates.{free_labels}
use Rattle.shellings.proofs.MissingLaws.{free_first, free_within, free_next, restriction_is}
use Rattle.shellings.proofs.restrictions.restriction.Goals as goal

pub loop-g-init : goal.loop-g-init
loop-g-init c = free_first c.args.f.now

pub loop-g-preserved : goal.loop-g-preserved
loop-g-preserved c =
    let within : is_within c.loop-g.free c.args.f.now ≡ true =
    ap (λ free. is_within free c.args.f.now) c.loop-g.invariant ∙ free_within (take c.loop-g.g-index c.args.earlier.now) c.args.f.now in
    free_next c.args.earlier.now c.loop-g.g-index c.args.f.now c.g-item.result c.loop-g.free c.still_free-free.result (omega arith) c.g-item.is c.loop-g.invariant (c.still_free-free.ensures within)

pub returns : goal.returns
returns c =
    let l = c.args.earlier.now in
    let end : length l ≤ c.loop-g.g-index = omega arith in
    c.minus.ensures.value ∙ ap (minus c.args.f.now) (c.loop-g.invariant ∙ ap (λ m. free_labels m c.args.f.now) (take_all c.loop-g.g-index l end)) ∙ restriction_is l c.args.f.now
