use Rattle.std.proofs.Common.{◌≡◌, ◌∙◌, ◌+◌, ◌&&◌, true, not, length, ap, sym}
use Rattle.std.specs.Prelude.{nat_lt, ◌==◌}
use Rattle.simplex.specs.Simplex.{is_disjoint}
use Rattle.facet_set.specs.Flips.{allowed}
use Rattle.cert_replay.specs.Corners.{facets_of}
use Rattle.cert_replay.proofs.TableLaws.{told}
use Rattle.cert_replay.proofs.table.Table.allows.Goals as goal

pub returns-then-star : goal.returns-then-star
returns-then-star c =
    let a = c.args.flip.now.a in
    let b = c.args.flip.now.b in
    let keys = c.self.inside.corners.keys in
    let sized : (nat_lt 0 (length a) && nat_lt 0 (length b) && (length a + length b == c.self.inside.size + 1)) ≡ true = sym c.has_flip_size.ensures ∙ c.if-not-has_flip_size.false in
    let apart : is_disjoint a b ≡ true = sym c.disjoint.ensures ∙ c.if-not-disjoint.false in
    ap (λ v. v && not c.in_ok-face.face) (sym c.if-star.true)
    ∙ told (facets_of keys) c.self.inside.size keys a b c.self.invariant sized apart c.inverse-back.ensures.a c.inverse-back.ensures.b c.in_ok-star.star c.in_ok-face.face c.in_ok-star.ensures c.in_ok-face.ensures
    ∙ ap (λ d. allowed d a b) c.self.view_is

pub returns-else-star : goal.returns-else-star
returns-else-star c =
    let a = c.args.flip.now.a in
    let b = c.args.flip.now.b in
    let keys = c.self.inside.corners.keys in
    let sized : (nat_lt 0 (length a) && nat_lt 0 (length b) && (length a + length b == c.self.inside.size + 1)) ≡ true = sym c.has_flip_size.ensures ∙ c.if-not-has_flip_size.false in
    let apart : is_disjoint a b ≡ true = sym c.disjoint.ensures ∙ c.if-not-disjoint.false in
    c.if-star.false ∙ sym (ap (λ v. v && not c.in_ok-face.face) c.if-star.false)
    ∙ told (facets_of keys) c.self.inside.size keys a b c.self.invariant sized apart c.inverse-back.ensures.a c.inverse-back.ensures.b c.in_ok-star.star c.in_ok-face.face c.in_ok-star.ensures c.in_ok-face.ensures
    ∙ ap (λ d. allowed d a b) c.self.view_is
