use Rattle.std.proofs.Common.{◌∙◌, ◌++◌, ◌∷◌, [], take_all, ap, subst, arith}
use Rattle.std.specs.List.{flat_map}
use Rattle.simplex.specs.Members.{In}
use Rattle.relabelling.specs.Colours.{colour}
use Rattle.relabelling.specs.Flags.{longer}
use Rattle.relabelling.proofs.FlagLaws.{begun_all, begun_orders, follows, longer_orders}
use Rattle.relabelling.proofs.flags.Flag.orders.Goals as goal

pub loop-place-init : goal.loop-place-init
loop-place-init c = record {
  within = let s = c.requires.some in omega arith;
  orders = begun_orders c.push.new.self.items c.in_ok-with_one_more.field-0 c.args.first (c.in_ok-push.ensures.items ∙ ap (λ l. l ++ c.in_ok-with_one_more.field-0 ∷ []) c.new-orders.ensures.items) c.in_ok-with_one_more.ensures c.requires.label;
  all = λ g h e. begun_all c.push.new.self.items c.in_ok-with_one_more.field-0 g c.args.first (c.in_ok-push.ensures.items ∙ ap (λ l. l ++ c.in_ok-with_one_more.field-0 ∷ []) c.new-orders.ensures.items) c.in_ok-with_one_more.ensures
      (let s = c.requires.some in let n = h.long in omega arith) e;
}

pub longer_orders-requires-clause-orders : goal.longer_orders-requires-clause-orders
longer_orders-requires-clause-orders c = λ o i. c.loop-place.invariant.orders o (subst (λ l. In o l) c.deref.ensures.value i)

pub loop-place-preserved : goal.loop-place-preserved
loop-place-preserved c =
    let next = c.in_ok-orders.ensures ∙ ap (flat_map (longer (colour c.args.self.now.colours.now.of_c) (colour c.args.self.now.colours.now.of_d) c.args.self.now.start.now c.args.self.now.facet.now)) c.deref.ensures.value in
    let less = c.loop-place-test.true in
    let size = c.len-place-end.ensures.value in
    record {
      within = omega (arith, less, size);
      orders = longer_orders (colour c.args.self.now.colours.now.of_c) (colour c.args.self.now.colours.now.of_d) c.args.self.now.start.now c.args.self.now.facet.now c.loop-place.place c.loop-place.orders.items c.in_ok-orders.orders.items c.loop-place.invariant.orders
          c.requires.facet next;
      all = λ g h e. follows (colour c.args.self.now.colours.now.of_c) (colour c.args.self.now.colours.now.of_d) c.args.self.now.start.now c.args.self.now.facet.now g c.loop-place.orders.items c.in_ok-orders.orders.items c.loop-place.place h (let n = h.long in omega (arith, less, size)) (c.loop-place.invariant.all g h e) next;
    }

pub returns-clause-orders : goal.returns-clause-orders
returns-clause-orders c = λ o i.
    let h = c.loop-place.invariant.orders o i in
    let w = c.loop-place.invariant.within in
    let over = c.loop-place-test.false in
    let size = c.len-place-end.ensures.value in
    let long = h.0 in
    (omega (arith, w, over, size, long), h.1)

pub returns-clause-all : goal.returns-clause-all
returns-clause-all c = λ g h e.
    let over = c.loop-place-test.false in
    let size = c.len-place-end.ensures.value in
    let long = h.long in
    subst (λ z. In z c.loop-place.orders.items) (take_all c.loop-place.place g (omega (arith, over, size, long))) (c.loop-place.invariant.all g h e)
