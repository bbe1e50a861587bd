use Rattle.std.proofs.Common.{◌≡◌, ◌∙◌, ◌++◌, map, length, ap, arith}
use Rattle.simplex.specs.declared.flip.Flip.{Flip}
use Rattle.simplex.specs.Simplex.{union, without}
use Rattle.facet_set.specs.Flips.{allowed, flip}
use Rattle.facet_set.proofs.BallLaws.{few_labels}
use Rattle.cert_replay.specs.Corners.{facets_of}
use Rattle.cert_replay.proofs.TableLaws.{flipped_table, table_made, facets_are}
use Rattle.cert_replay.proofs.table.Table.flipped.Goals as goal

pub push_ball-requires : goal.push_ball-requires
push_ball-requires c =
    let a = c.args.flip.now.a in
    let b = c.args.flip.now.b in
    let t = c.self.invariant in
    let few = few_labels (facets_of c.self.inside.corners.keys) a b t.simple t.complex c.inverse-back.ensures.a c.inverse-back.ensures.b (ap (λ d. allowed d a b) c.self.view_is ∙ c.requires) in
    let first : length c.inverse-back.result.a ≡ length b = ap (λ (m : Flip). length m.a) c.inverse-back.ensures.value in
    let second : length c.inverse-back.result.b ≡ length a = ap (λ (m : Flip). length m.b) c.inverse-back.ensures.value in
    omega arith

pub push_ball-requires-2 : goal.push_ball-requires-2
push_ball-requires-2 c =
    let a = c.args.flip.now.a in
    let b = c.args.flip.now.b in
    let t = c.self.invariant in
    few_labels (facets_of c.self.inside.corners.keys) a b t.simple t.complex c.inverse-back.ensures.a c.inverse-back.ensures.b (ap (λ d. allowed d a b) c.self.view_is ∙ c.requires)

pub invariant_of-result : goal.invariant_of-result
invariant_of-result c =
    let a = c.args.flip.now.a in
    let b = c.args.flip.now.b in
    let old = c.self.inside.corners.keys in
    let gone : c.deref.result.now ≡ map (λ x. union a (without b x)) b =
    c.deref.ensures.value ∙ c.in_ok-push_ball.ensures ∙ ap (λ l. l ++ map (λ x. union c.inverse-back.result.b (without c.inverse-back.result.a x)) c.inverse-back.result.a) c.new-gone.ensures.items ∙ ap (λ (m : Flip). map (λ x. union m.b (without m.a x)) m.a) c.inverse-back.ensures.value in
    let come : c.deref-2.result.now ≡ map (λ x. union b (without a x)) a =
    c.deref-2.ensures.value ∙ c.in_ok-push_ball-2.ensures ∙ ap (λ l. l ++ map (λ x. union b (without a x)) a) c.new-come.ensures.items in
    table_made (flip (facets_of old) a b) c.self.inside.size c.add_all.new.corners.keys
    (flipped_table (facets_of old) c.self.inside.size old c.remove_all.new.corners.keys c.add_all.new.corners.keys a b c.deref.result.now c.deref-2.result.now gone come c.remove_all.ensures c.in_ok-add_all.ensures
    c.inverse-back.ensures.a c.inverse-back.ensures.b c.self.invariant (ap (λ d. allowed d a b) c.self.view_is ∙ c.requires))

pub returns : goal.returns
returns c =
    let a = c.args.flip.now.a in
    let b = c.args.flip.now.b in
    let old = c.self.inside.corners.keys in
    let gone : c.deref.result.now ≡ map (λ x. union a (without b x)) b =
    c.deref.ensures.value ∙ c.in_ok-push_ball.ensures ∙ ap (λ l. l ++ map (λ x. union c.inverse-back.result.b (without c.inverse-back.result.a x)) c.inverse-back.result.a) c.new-gone.ensures.items ∙ ap (λ (m : Flip). map (λ x. union m.b (without m.a x)) m.a) c.inverse-back.ensures.value in
    let come : c.deref-2.result.now ≡ map (λ x. union b (without a x)) a =
    c.deref-2.ensures.value ∙ c.in_ok-push_ball-2.ensures ∙ ap (λ l. l ++ map (λ x. union b (without a x)) a) c.new-come.ensures.items in
    facets_are (flip (facets_of old) a b) c.self.inside.size c.add_all.new.corners.keys
    (flipped_table (facets_of old) c.self.inside.size old c.remove_all.new.corners.keys c.add_all.new.corners.keys a b c.deref.result.now c.deref-2.result.now gone come c.remove_all.ensures c.in_ok-add_all.ensures
    c.inverse-back.ensures.a c.inverse-back.ensures.b c.self.invariant (ap (λ d. allowed d a b) c.self.view_is ∙ c.requires)) ∙ ap (λ d. flip d a b) c.self.view_is
