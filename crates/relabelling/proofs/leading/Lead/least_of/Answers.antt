use Rattle.std.proofs.Common.{◌≡◌, ◌∙◌, ap, map, take, length, sym, inl, inr}
use Rattle.std.specs.List.{list_all}
use Rattle.simplex.specs.Members.{In}
use Rattle.simplex.specs.Simplex.{is_label}
use Rattle.simplex.proofs.Members.{none}
use Rattle.facet_set.proofs.GeneratedLaws.{taken_in}
use Rattle.facet_set.specs.Maps.{image_of}
use Rattle.facet_set.proofs.SetLaws.{in_item}
use Rattle.relabelling.specs.Bijections.{extension}
use Rattle.relabelling.proofs.LeastLaws.{improves_by, improves_itself, improves_on}
use Rattle.relabelling.proofs.leading.Lead.least_of.Goals as goal

pub loop-order-init : goal.loop-order-init
loop-order-init c = improves_itself c.args.self.now.ways.now.c.now c.args.self.now.ways.now.d.now c.args.best _ (λ m i. none _ i)

pub extended-requires-clause-vertices : goal.extended-requires-clause-vertices
extended-requires-clause-vertices c = c.requires.ready.vertices

pub extended-requires-clause-images : goal.extended-requires-clause-images
extended-requires-clause-images c =
    ap length c.as_slice.ensures ∙ (c.requires.orders c.order-item.result (in_item c.args.orders.now c.loop-order.order-index c.order-item.result c.loop-order-test.true c.order-item.is)).0

pub extended-requires-clause-labels : goal.extended-requires-clause-labels
extended-requires-clause-labels c =
    ap (list_all is_label) c.as_slice.ensures ∙ (c.requires.orders c.order-item.result (in_item c.args.orders.now c.loop-order.order-index c.order-item.result c.loop-order-test.true c.order-item.is)).1

pub loop-order-preserved : goal.loop-order-preserved
loop-order-preserved c =
    improves_on c.args.self.now.ways.now.c.now c.args.self.now.ways.now.d.now c.args.best c.loop-order.least c.in_ok-least.least
    (λ m. In (map (image_of m) c.args.self.now.start.now) (take c.loop-order.order-index c.args.orders.now)) (λ m. map (image_of m) c.args.self.now.start.now ≡ c.order-item.result) _ c.loop-order.invariant
    (improves_by c.args.self.now.ways.now.c.now c.args.self.now.ways.now.d.now c.args.self.now.start.now c.order-item.result c.loop-order.least c.in_ok-map.map c.in_ok-least.least c.requires.ways.simplices c.requires.ways.complex c.requires.ways.closed c.requires.ready.strong c.requires.ready.facet
    (c.in_ok-map.ensures ∙ ap (extension c.args.self.now.ways.now.c.now c.args.self.now.ways.now.d.now c.args.self.now.start.now) c.as_slice.ensures) c.in_ok-least.ensures)
    (λ m i. elim (taken_in c.args.orders.now c.loop-order.order-index c.order-item.result (map (image_of m) c.args.self.now.start.now) c.loop-order-test.true i) [ inl j ↦ inl j | inr e ↦ inr (e ∙ sym c.order-item.is) ])
