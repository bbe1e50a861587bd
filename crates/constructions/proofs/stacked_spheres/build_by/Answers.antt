use Rattle.std.proofs.Common.{◌≡◌, ◌+◌, ◌*◌, ◌∙◌, sym, arith}
use Rattle.facet_set.specs.Complex.{generated}
use Rattle.facet_set.proofs.GeneratedLaws.{if_ok}
use Rattle.constructions.specs.Stacked.{stacked}
use Rattle.constructions.proofs.StackedLaws.{IsTurn, build_start, build_stack, all_below, turn_value, turn_stack, turn_length, build_end}
use Rattle.constructions.proofs.stacked_spheres.build_by.Goals as goal

pub loop-k-init : goal.loop-k-init
loop-k-init g c =
    let s = build_stack c.args.d c.in_ok-facets.facets.members c.requires.dim.0 c.in_ok-facets.ensures.value in
    record {
      value = build_start c.args.d c.args.n c.args.seed c.in_ok-facets.facets.members c.new-words.result c.in_ok-facets.ensures.value c.new-words.ensures;
      stack = s.0;
      count = s.1;
      rising = c.in_ok-facets.ensures.rising;
    }

pub stack-requires-clause-labels : goal.stack-requires-clause-labels
stack-requires-clause-labels g c = all_below c.args.d c.loop-k.k c.loop-k.facets.members c.loop-k.invariant.stack

pub loop-k-preserved : goal.loop-k-preserved
loop-k-preserved g c =
    let turn : IsTurn c.args.d c.args.n c.loop-k.k c.loop-k.facets.members c.stack.new.facets.members c.loop-k.words c.next.new.self c.next.result (c.args.d + 2 + c.args.d * c.loop-k.k) (c.args.d + 3 + c.loop-k.k) (stacked c.args.d c.args.n c.args.seed) = record {
      dim = c.requires.dim.0;
      more = c.loop-k-test.true;
      fits = c.requires.labels;
      stack = c.loop-k.invariant.stack;
      length_is = c.loop-k.invariant.count;
      count_is = sym c.loop-k.invariant.count;
      label_is = omega arith;
      word_is = c.next.ensures.value;
      after_is = c.next.ensures.after;
      next_is = c.in_ok-stack.ensures.value;
      value = c.loop-k.invariant.value;
    } in
    record {
      value = turn_value c.args.d c.args.n c.loop-k.k c.loop-k.facets.members c.stack.new.facets.members c.loop-k.words c.next.new.self c.next.result (c.args.d + 2 + c.args.d * c.loop-k.k) (c.args.d + 3 + c.loop-k.k) (stacked c.args.d c.args.n c.args.seed) turn;
      stack = turn_stack c.args.d c.args.n c.loop-k.k c.loop-k.facets.members c.stack.new.facets.members c.loop-k.words c.next.new.self c.next.result (c.args.d + 2 + c.args.d * c.loop-k.k) (c.args.d + 3 + c.loop-k.k) (stacked c.args.d c.args.n c.args.seed) turn;
      count = turn_length c.args.d c.args.n c.loop-k.k c.loop-k.facets.members c.stack.new.facets.members c.loop-k.words c.next.new.self c.next.result (c.args.d + 2 + c.args.d * c.loop-k.k) (c.args.d + 3 + c.loop-k.k) (stacked c.args.d c.args.n c.args.seed) turn;
      rising = c.in_ok-stack.ensures.rising;
    }

pub returns : goal.returns
returns g c =
    if_ok (λ f. f ≡ generated c.deref.result.now) (λ f. f ≡ stacked c.args.d c.args.n c.args.seed) c.generated.result
    (λ f e. e ∙ build_end c.args.d c.args.n c.loop-k.k c.loop-k.facets.members _ c.deref.result.now (stacked c.args.d c.args.n c.args.seed) c.loop-k.words c.loop-k-test.false c.loop-k.invariant.stack c.loop-k.invariant.value c.in_ok-to_vec.ensures c.deref.ensures.value)
    c.generated.ensures
