use Rattle.std.proofs.Common.{◌≡◌, ◌≤◌, ◌+◌, ◌-◌, ◌++◌, false, map, ℕ, sym, subst, arith}
use Rattle.constructions.specs.Runs.{runs}
use Rattle.constructions.proofs.CyclicLaws.{IsFront, front_push, front_next, front_pair, run_end, run_last, run_start, run_more, run_done}
use Rattle.constructions.proofs.cyclic_spheres.+add_runs.Goals as goal

pub returns-then-k-eq0 : goal.returns-then-k-eq0
returns-then-k-eq0 t c =
    subst (λ (k : ℕ). c.push.new.self.items ≡ c.args.list.now.items ++ map (λ s. c.args.front.now ++ s) (runs false c.args.first c.args.count k)) (sym c.if-k-eq0.true)
    (run_end c.args.front.now c.args.list.now.items c.push.new.self.items c.args.first c.args.count c.in_ok-push.ensures.items)

pub with_last-requires : goal.with_last-requires
with_last-requires t c =
    let p : IsFront c.args.front.now c.args.first c.args.count c.args.k = record { short = c.requires.short; simplex = c.requires.simplex; below = c.requires.below; label = c.requires.label; limit = c.requires.limit } in
    let e : c.args.k ≡ 1 = c.if-k-eq1.true in
    let l : c.args.k ≤ c.args.count = c.requires.more in
    front_push c.args.front.now c.args.first c.args.count c.args.k _ p (omega arith) (omega arith) (omega (arith, c.requires.label))

pub returns-then-k-eq1 : goal.returns-then-k-eq1
returns-then-k-eq1 t c =
    let e : c.args.k ≡ 1 = c.if-k-eq1.true in
    let l : c.args.k ≤ c.args.count = c.requires.more in
    subst (λ (k : ℕ). c.push-then-k-eq1.new.self.items ≡ c.args.list.now.items ++ map (λ s. c.args.front.now ++ s) (runs false c.args.first c.args.count k)) (sym e)
    (run_last c.args.front.now c.with_last.result c.args.list.now.items c.push-then-k-eq1.new.self.items c.args.first c.args.count (c.args.first + c.args.count - 1) (omega arith) (omega arith) c.with_last.ensures c.in_ok-push-2.ensures.items)

pub loop-i-init : goal.loop-i-init
loop-i-init t c = run_start c.args.front.now c.args.list.now.items c.args.first c.args.count c.args.k

pub with_last-requires-in-loop-i : goal.with_last-requires-in-loop-i
with_last-requires-in-loop-i t c =
    let p : IsFront c.args.front.now c.args.first c.args.count c.args.k = record { short = c.requires.short; simplex = c.requires.simplex; below = c.requires.below; label = c.requires.label; limit = c.requires.limit } in
    let l : c.args.k ≤ c.args.count = c.requires.more in
    let h = c.loop-i-test.true in
    front_push c.args.front.now c.args.first c.args.count c.args.k _ p (omega (arith, c.if-k-eq0.false, c.if-k-eq1.false)) (omega arith) (omega (arith, c.if-k-eq0.false, c.if-k-eq1.false))

pub with_last-pair-requires : goal.with_last-pair-requires
with_last-pair-requires t c =
    let p : IsFront c.args.front.now c.args.first c.args.count c.args.k = record { short = c.requires.short; simplex = c.requires.simplex; below = c.requires.below; label = c.requires.label; limit = c.requires.limit } in
    let l : c.args.k ≤ c.args.count = c.requires.more in
    let h = c.loop-i-test.true in
    let two : 2 ≤ c.args.k = omega (arith, c.if-k-eq0.false, c.if-k-eq1.false) in
    let q = front_next c.args.front.now c.with_last-in-loop-i.result c.args.first c.args.count c.args.k (c.args.first + c.loop-i.i) p (omega arith) (omega arith) (omega arith) c.with_last-in-loop-i.ensures in
    front_push c.with_last-in-loop-i.result (c.args.first + c.loop-i.i + 1) (c.args.first + c.args.count - (c.args.first + c.loop-i.i) - 1) (c.args.k - 1) _ q (omega arith) (omega arith) (omega arith)

pub add_runs-requires : goal.add_runs-requires
add_runs-requires t c =
    let p : IsFront c.args.front.now c.args.first c.args.count c.args.k = record { short = c.requires.short; simplex = c.requires.simplex; below = c.requires.below; label = c.requires.label; limit = c.requires.limit } in
    let l : c.args.k ≤ c.args.count = c.requires.more in
    let h = c.loop-i-test.true in
    let two : 2 ≤ c.args.k = omega (arith, c.if-k-eq0.false, c.if-k-eq1.false) in
    let q = front_pair c.args.front.now c.with_last-in-loop-i.result c.with_last-pair.result c.args.first c.args.count c.args.k c.loop-i.i p two l h c.with_last-in-loop-i.ensures c.with_last-pair.ensures in
    (omega (arith, c.decreases), (omega arith, (q.short, (q.simplex, (q.below, (q.label, q.limit))))))

pub loop-i-preserved : goal.loop-i-preserved
loop-i-preserved t c =
    let two : 2 ≤ c.args.k = omega (arith, c.if-k-eq0.false, c.if-k-eq1.false) in
    run_more c.args.front.now c.with_last-in-loop-i.result c.with_last-pair.result c.loop-i.list.items c.add_runs.new.list.items (c.args.list.now.items ++ map (λ s. c.args.front.now ++ s) (runs false c.args.first c.args.count c.args.k)) c.args.first c.args.count c.loop-i.i c.args.k two c.requires.more c.loop-i-test.true
    c.with_last-in-loop-i.ensures c.with_last-pair.ensures c.in_ok-add_runs.ensures c.loop-i.invariant

pub returns : goal.returns
returns t c =
    let two : 2 ≤ c.args.k = omega (arith, c.if-k-eq0.false, c.if-k-eq1.false) in
    run_done c.args.front.now c.loop-i.list.items (c.args.list.now.items ++ map (λ s. c.args.front.now ++ s) (runs false c.args.first c.args.count c.args.k)) c.args.first c.args.count c.loop-i.i c.args.k c.loop-i-test.false c.requires.more two c.loop-i.invariant
