use Rattle.std.proofs.Common.{◌≡◌, ℕ, List, length, IfSome, sym, subst}
use Rattle.std.specs.Prelude.{slice_index_or}
use Rattle.simplex.specs.Members.{In}
use Rattle.facet_set.specs.Maps.{relabelled}
use Rattle.relabelling.specs.Colours.{colour}
use Rattle.relabelling.specs.Flags.{AreOrders, Fits}
use Rattle.relabelling.proofs.FlagLaws.{order_found}
use Rattle.relabelling.proofs.LeastLaws.{improves_as, improves_beaten}
use Rattle.relabelling.proofs.leading.Lead.least_at.Goals as goal

pub returns-then-is_beaten : goal.returns-then-is_beaten
returns-then-is_beaten c =
    improves_beaten c.args.self.now.ways.now.c.now c.args.self.now.ways.now.d.now c.args.self.now.vertices.now c.args.self.now.start.now c.args.best c.args.label (λ m. relabelled m c.args.self.now.start.now ≡ c.args.facet.now) c.requires.ready.vertices c.requires.ready.room c.requires.ready.first
    (c.is_beaten.ensures c.if-is_beaten.true)

pub orders-requires-clause-some : goal.orders-requires-clause-some
orders-requires-clause-some c = c.requires.ready.some

pub least_of-requires-clause-orders : goal.least_of-requires-clause-orders
least_of-requires-clause-orders c = λ o i. subst (λ x. IfSome x (λ v. AreOrders (length c.args.self.now.start.now) v.items)) c.in-Some.is c.in_ok-orders.ensures.orders o (subst (λ l. In o l) c.deref.ensures.value i)

pub returns-in_ok-least-in-Some : goal.returns-in_ok-least-in-Some
returns-in_ok-least-in-Some c =
    improves_as c.args.self.now.ways.now.c.now c.args.self.now.ways.now.d.now c.args.best c.in_ok-least-in-Some.least _ _ c.in_ok-least-in-Some.ensures (λ m g p.
    order_found (colour c.args.self.now.colours.now.of_c) (colour c.args.self.now.colours.now.of_d) c.args.self.now.ways.now.c.now c.args.self.now.ways.now.d.now m c.args.self.now.start.now c.args.facet.now c.args.label c.deref.result.now c.requires.ways.simplices c.requires.ready.facet
    c.requires.ready.some (c.requires.ready.kept m g) g
    (λ o h e. subst (λ l. In o l) (sym c.deref.ensures.value)
    (subst (λ x. IfSome x (λ v. (g : List ℕ) → Fits (colour c.args.self.now.colours.now.of_c) (colour c.args.self.now.colours.now.of_d) c.args.self.now.start.now c.args.facet.now g → slice_index_or g 0 0 ≡ c.args.label → In g v.items)) c.in-Some.is c.in_ok-orders.ensures.all o h e)) p)
