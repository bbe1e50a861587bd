use Rattle.std.proofs.Common.{◌∙◌, ◌++◌, ◌∷◌, [], true, not, ap, sym, refl, length, nat_eq}
use Rattle.std.specs.HashSet.{contains}
use Rattle.std.specs.List.{list_any}
use Rattle.std.specs.Cmp.Lexicographic.{pointwise}
use Rattle.relabelling.specs.Walks.{unseen_count}
use Rattle.relabelling.specs.declared.extending.Walk.{Walk}
use Rattle.relabelling.proofs.WalkLaws.{all_known, extends_itself, extends_on, first_on_way, last_in, next_on_way, no_length, none_before, none_later, now_seen, shorter}
use Rattle.relabelling.proofs.extending.images_from.Goals as goal

pub loop-facet-init : goal.loop-facet-init
loop-facet-init c =
    let b : Walk = record { images = c.args.given; seen = c.new-seen.result; waiting = c.push.new.self; fits = true } in
    let w : Walk = record { images = c.args.given; seen = c.insert.new.self; waiting = c.push.new.self; fits = true } in
    record {
      extends = extends_itself c.args.ways.now.c.now c.args.ways.now.d.now c.args.given;
      on_way = first_on_way c.args.ways.now.c.now c.args.start.now w (λ t. not (contains (pointwise nat_eq) c.new-seen.result t)) c.requires.start c.requires.known (λ t i. ap (λ ks. not (list_any (pointwise nat_eq t) ks)) c.new-seen.ensures.empty) (now_seen b w c.args.start.now c.in_ok-insert.ensures.updates.0)
          (c.in_ok-push.ensures.items ∙ ap (λ l. l ++ c.args.start.now ∷ []) c.new-waiting.ensures.items);
      apart = λ e. cc;
    }

pub spread-requires-clause-facet : goal.spread-requires-clause-facet
spread-requires-clause-facet c = (c.loop-facet.invariant.on_way.waiting c.in-Some.facet (last_in c.loop-facet.walk.waiting.items c.pop.new.self.items c.in-Some.facet c.in-Some.ensures.items)).0

pub spread-requires-clause-seen : goal.spread-requires-clause-seen
spread-requires-clause-seen c = (c.loop-facet.invariant.on_way.waiting c.in-Some.facet (last_in c.loop-facet.walk.waiting.items c.pop.new.self.items c.in-Some.facet c.in-Some.ensures.items)).1

pub spread-requires-clause-known : goal.spread-requires-clause-known
spread-requires-clause-known c =
    let q = c.loop-facet.invariant.on_way.waiting c.in-Some.facet (last_in c.loop-facet.walk.waiting.items c.pop.new.self.items c.in-Some.facet c.in-Some.ensures.items) in
    c.loop-facet.invariant.on_way.known c.in-Some.facet q.0 q.1

pub spread-requires-clause-labels : goal.spread-requires-clause-labels
spread-requires-clause-labels c = c.loop-facet.invariant.extends.labels c.requires.labels

pub loop-facet-preserved : goal.loop-facet-preserved
loop-facet-preserved c =
    let p : Walk = record { images = c.loop-facet.walk.images; seen = c.loop-facet.walk.seen; waiting = c.pop.new.self; fits = c.loop-facet.walk.fits } in
    record {
      extends = extends_on c.args.ways.now.c.now c.args.ways.now.d.now c.args.given c.loop-facet.walk.images c.spread.new.self.images c.loop-facet.invariant.extends c.in_ok-spread.ensures.goes_on.images;
      on_way = next_on_way c.args.ways.now.c.now c.args.ways.now.d.now c.args.start.now c.in-Some.facet c.loop-facet.walk p c.spread.new.self refl (λ t. refl) c.in-Some.ensures.items c.loop-facet.invariant.on_way c.in_ok-spread.ensures.goes_on c.in_ok-spread.ensures.reaches;
      apart = λ e. none_later c.args.ways.now.c.now c.args.ways.now.d.now c.loop-facet.walk.images c.spread.new.self.images c.in_ok-spread.ensures.goes_on.images (c.in_ok-spread.ensures.goes_on.apart c.loop-facet.invariant.apart e);
    }

pub loop-facet-smaller : goal.loop-facet-smaller
loop-facet-smaller c =
    shorter c.loop-facet.walk.waiting.items c.pop.new.self.items c.in-Some.facet (length c.spread.new.self.waiting.items) (unseen_count c.args.ways.now.c.now c.spread.new.self) (unseen_count c.args.ways.now.c.now c.loop-facet.walk) c.in-Some.ensures.items c.in_ok-spread.ensures.goes_on.work

pub returns-then-not-walk-clause-apart : goal.returns-then-not-walk-clause-apart
returns-then-not-walk-clause-apart c =
    none_before c.args.ways.now.c.now c.args.ways.now.d.now c.args.given c.loop-facet.walk.images c.loop-facet.invariant.extends (c.in_ok-spread.ensures.goes_on.apart c.loop-facet.invariant.apart c.if-not-walk.true)

pub returns-clause-known : goal.returns-clause-known
returns-clause-known c =
    all_known c.args.ways.now.c.now c.args.start.now c.loop-facet.walk c.requires.ways.simplices c.requires.strong c.requires.start c.loop-facet.invariant.on_way (no_length c.loop-facet.walk.waiting.items (sym c.loop-facet.walk.waiting.ok.0 ∙ c.in_default.ensures.cases.0))
