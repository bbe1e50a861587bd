use Rattle.std.proofs.Common.{◌++◌, ◌-◌, length, sym, ap, ◌∙◌, subst, arith}
use Rattle.flip_plans.specs.Steps.{AreLabels, given_up, is_face_beside, is_open}
use Rattle.flip_plans.proofs.AddLaws.{after_found, before_found, count_is, few, had_is, has_is, join_labels, link_labels, near_and_far}
use Rattle.flip_plans.proofs.plan.Plan.add.Goals as goal

pub overflow_sub-facet_len : goal.overflow_sub-facet_len
overflow_sub-facet_len c = omega (arith, count_is c.args.l.now.facets c.args.flip.now c.requires.allowed c.args.labels.now c.requires.whole)

pub wanted_before-before-requires-clause-small : goal.wanted_before-before-requires-clause-small
wanted_before-before-requires-clause-small c = omega (arith, count_is c.args.l.now.facets c.args.flip.now c.requires.allowed c.args.labels.now c.requires.whole, few c.args.l.now.facets c.args.flip.now c.requires.allowed c.args.labels.now c.requires.whole)

pub wanted_before-before-requires-clause-labels : goal.wanted_before-before-requires-clause-labels
wanted_before-before-requires-clause-labels c = subst (λ l. AreLabels l) (sym (c.up_of-up.ensures c.args.s.now c.requires.id)) (link_labels c.args.l.now.facets c.args.s.now c.requires.allowed.simplices)

pub wanted_after-after-requires-clause-some : goal.wanted_after-after-requires-clause-some
wanted_after-after-requires-clause-some c = omega (arith, count_is c.args.l.now.facets c.args.flip.now c.requires.allowed c.args.labels.now c.requires.whole)

pub wanted_after-after-requires-clause-few : goal.wanted_after-after-requires-clause-few
wanted_after-after-requires-clause-few c = omega (arith, count_is c.args.l.now.facets c.args.flip.now c.requires.allowed c.args.labels.now c.requires.whole, few c.args.l.now.facets c.args.flip.now c.requires.allowed c.args.labels.now c.requires.whole)

pub wanted_after-after-requires-clause-join : goal.wanted_after-after-requires-clause-join
wanted_after-after-requires-clause-join c = join_labels c.args.l.now.facets c.args.flip.now c.requires.allowed c.args.labels.now c.requires.whole

pub wanted_after-after-requires-clause-labels : goal.wanted_after-after-requires-clause-labels
wanted_after-after-requires-clause-labels c = subst (λ l. AreLabels l) (sym (c.up_of-up.ensures c.args.s.now c.requires.id)) (link_labels c.args.l.now.facets c.args.s.now c.requires.allowed.simplices)

pub add_far-requires-clause-size : goal.add_far-requires-clause-size
add_far-requires-clause-size c = omega (arith, count_is c.args.l.now.facets c.args.flip.now c.requires.allowed c.args.labels.now c.requires.whole)

pub returns-clause-go : goal.returns-clause-go
returns-clause-go c =
    let before = before_found c.args.l.now.facets c.args.flip.now c.requires.allowed c.args.labels.now c.requires.whole c.args.s.now c.requires.inside c.wanted_before-before.result c.up_of-up.result.now c.degree_of-degree.result
    (c.up_of-up.ensures c.args.s.now c.requires.id) (c.degree_of-degree.ensures c.args.s.now c.requires.id) c.wanted_before-before.ensures in
    let after = after_found c.args.l.now.facets c.args.flip.now c.requires.allowed c.args.labels.now c.requires.whole c.args.s.now c.requires.inside c.wanted_after-after.result c.up_of-up.result.now c.degree_of-degree.result
    (c.up_of-up.ensures c.args.s.now c.requires.id) (c.degree_of-degree.ensures c.args.s.now c.requires.id) c.wanted_after-after.ensures in
    c.in_ok-give_up.ensures ∙ (λ i. c.args.self.now.asks_go.items ++ given_up c.args.id (before i) (after i))

pub returns-clause-come : goal.returns-clause-come
returns-clause-come c =
    let before = before_found c.args.l.now.facets c.args.flip.now c.requires.allowed c.args.labels.now c.requires.whole c.args.s.now c.requires.inside c.wanted_before-before.result c.up_of-up.result.now c.degree_of-degree.result
    (c.up_of-up.ensures c.args.s.now c.requires.id) (c.degree_of-degree.ensures c.args.s.now c.requires.id) c.wanted_before-before.ensures in
    let after = after_found c.args.l.now.facets c.args.flip.now c.requires.allowed c.args.labels.now c.requires.whole c.args.s.now c.requires.inside c.wanted_after-after.result c.up_of-up.result.now c.degree_of-degree.result
    (c.up_of-up.ensures c.args.s.now c.requires.id) (c.degree_of-degree.ensures c.args.s.now c.requires.id) c.wanted_after-after.ensures in
    c.in_ok-give_up-2.ensures ∙ (λ i. c.args.self.now.asks_come.items ++ given_up c.args.id (after i) (before i))

pub returns-clause-changes : goal.returns-clause-changes
returns-clause-changes c =
    let before = before_found c.args.l.now.facets c.args.flip.now c.requires.allowed c.args.labels.now c.requires.whole c.args.s.now c.requires.inside c.wanted_before-before.result c.up_of-up.result.now c.degree_of-degree.result
    (c.up_of-up.ensures c.args.s.now c.requires.id) (c.degree_of-degree.ensures c.args.s.now c.requires.id) c.wanted_before-before.ensures in
    let after = after_found c.args.l.now.facets c.args.flip.now c.requires.allowed c.args.labels.now c.requires.whole c.args.s.now c.requires.inside c.wanted_after-after.result c.up_of-up.result.now c.degree_of-degree.result
    (c.up_of-up.ensures c.args.s.now c.requires.id) (c.degree_of-degree.ensures c.args.s.now c.requires.id) c.wanted_after-after.ensures in
    near_and_far c.args.l.now.facets c.args.flip.now c.args.s.now (length c.args.labels.now - 1) c.is_open-had.result c.is_open-has.result
    c.args.self.now.changes.items c.add_near.new.changes.items c.add_far.new.changes.items c.requires.inside
    (omega (arith, count_is c.args.l.now.facets c.args.flip.now c.requires.allowed c.args.labels.now c.requires.whole))
    (c.is_open-had.ensures ∙ ap (λ o. is_open o (is_face_beside c.args.l.now.facets c.args.flip.now c.args.flip.now.b)) before ∙ had_is c.args.l.now.facets c.args.flip.now c.requires.allowed c.args.labels.now c.requires.whole c.args.s.now)
    (c.is_open-has.ensures ∙ ap (λ o. is_open o (is_face_beside c.args.l.now.facets c.args.flip.now c.args.flip.now.a)) after ∙ has_is c.args.l.now.facets c.args.flip.now c.requires.allowed c.args.labels.now c.requires.whole c.args.s.now)
    c.in_ok-add_near.ensures c.in_ok-add_far.ensures
