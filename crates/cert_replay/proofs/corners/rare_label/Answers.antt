use Rattle.std.proofs.Common.{List, ℕ, length, ◌<◌, get_or, sym, subst}
use Rattle.simplex.proofs.Members.{In, contains_in}
use Rattle.std.proofs.lemmas.List.Elements.{Contains-get_or}
use Rattle.cert_replay.proofs.corners.rare_label.Goals as goal

pub returns-clause-member : goal.returns-clause-member
returns-clause-member c =
    let items = c.labels.result.now in
    subst (λ (l : List ℕ). In (get_or items 0 0) l) c.labels.ensures.value (contains_in items (get_or items 0 0) (Contains-get_or items 0 0 (subst (λ (l : List ℕ). 0 < length l) (sym c.labels.ensures.value) c.requires)))
