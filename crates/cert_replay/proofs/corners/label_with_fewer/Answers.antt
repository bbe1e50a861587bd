use Rattle.std.proofs.Common.{List, ℕ, get_or, subst}
use Rattle.simplex.proofs.Members.{In, contains_in}
use Rattle.std.proofs.lemmas.List.Elements.{Contains-get_or}
use Rattle.cert_replay.proofs.corners.label_with_fewer.Goals as goal

pub returns-then-has_fewer-clause-member : goal.returns-then-has_fewer-clause-member
returns-then-has_fewer-clause-member c =
    let items = c.labels-label-items.result.now in
    let i = c.loop-label.label-index in
    subst (λ (l : List ℕ). In (get_or items i 0) l) c.labels-label-items.ensures.value (contains_in items (get_or items i 0) (Contains-get_or items i 0 c.loop-label-test.true))
