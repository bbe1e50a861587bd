use Rattle.std.proofs.Common.{subst}
use Rattle.facet_set.specs.Facets.{IsFacets}
use Rattle.morse_lists.proofs.StepLaws.{high_stands, low_stands, after_collapse, after_critical}
use Rattle.morse_lists.proofs.face_table.FaceTable.take.Goals as goal

pub drop_facet-requires : goal.drop_facet-requires
drop_facet-requires c = high_stands c.args.self.now c.args.step.now (subst IsFacets c.self.view_is c.self.invariant.facets) c.len.ensures.simplex c.requires

pub drop_facet-requires-then-not-is_critical : goal.drop_facet-requires-then-not-is_critical
drop_facet-requires-then-not-is_critical c =
    low_stands c.args.self.now c.drop_facet.new.self c.args.step.now (subst IsFacets c.self.view_is c.self.invariant.facets) c.len.ensures.simplex c.requires
    c.if-not-is_critical.ensures c.drop_facet.ensures

pub returns-then-not-is_critical-clause-value : goal.returns-then-not-is_critical-clause-value
returns-then-not-is_critical-clause-value c =
    after_collapse c.args.self.now c.drop_facet.new.self c.drop_facet-then-not-is_critical.new.self c.args.step.now (subst IsFacets c.self.view_is c.self.invariant.facets) c.len.ensures.simplex c.requires
    c.if-not-is_critical.ensures c.drop_facet.ensures c.drop_facet-then-not-is_critical.ensures

pub returns-else-not-is_critical-clause-value : goal.returns-else-not-is_critical-clause-value
returns-else-not-is_critical-clause-value c = after_critical c.args.self.now c.drop_facet.new.self c.args.step.now c.if-not-is_critical.ensures c.drop_facet.ensures
