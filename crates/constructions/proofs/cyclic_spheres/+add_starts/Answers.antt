use Rattle.std.proofs.Common.{◌≡◌, ◌≤◌, ◌<◌, ◌+◌, ◌++◌, map, ℕ, sym, subst, arith}
use Rattle.constructions.specs.Runs.{starts}
use Rattle.ranked_set.proofs.BlockLaws.{on_ok}
use Rattle.constructions.proofs.CyclicLaws.{IsFront, front_push, front_one_more, below_more, start_end, start_more}
use Rattle.constructions.proofs.cyclic_spheres.+add_starts.Goals as goal

pub returns-then-k-eq0 : goal.returns-then-k-eq0
returns-then-k-eq0 t c =
    subst (λ (k : ℕ). c.push.new.self.items ≡ c.args.list.now.items ++ map (λ s. c.args.front.now ++ s) (starts c.args.first c.args.count k)) (sym c.if-k-eq0.true)
    (start_end c.args.front.now c.args.list.now.items c.push.new.self.items c.args.first c.args.count c.in_ok-push.ensures.items)

pub with_last-requires : goal.with_last-requires
with_last-requires t c =
    let p : IsFront c.args.front.now c.args.first c.args.count c.args.k = record { short = c.requires.short; simplex = c.requires.simplex; below = c.requires.below; label = c.requires.label; limit = c.requires.limit } in
    let l : c.args.k < c.args.count = c.requires.more in
    front_push c.args.front.now c.args.first c.args.count c.args.k c.args.first p (omega (arith, c.if-k-eq0.false)) (omega arith) (omega arith)

pub add_starts-requires : goal.add_starts-requires
add_starts-requires t c =
    let p : IsFront c.args.front.now c.args.first c.args.count c.args.k = record { short = c.requires.short; simplex = c.requires.simplex; below = c.requires.below; label = c.requires.label; limit = c.requires.limit } in
    let l : c.args.k < c.args.count = c.requires.more in
    let one : 1 ≤ c.args.k = omega (arith, c.if-k-eq0.false) in
    let q = front_one_more c.args.front.now c.with_last.result c.args.first c.args.count c.args.k p one l c.with_last.ensures in
    (omega (arith, c.decreases), (omega arith, (q.short, (q.simplex, (q.below, (q.label, q.limit))))))

pub add_runs-requires-clause-below : goal.add_runs-requires-clause-below
add_runs-requires-clause-below t c = below_more c.args.front.now c.args.first (c.args.first + 1) c.requires.below (omega arith)

pub returns : goal.returns
returns t c =
    let one : 1 ≤ c.args.k = omega (arith, c.if-k-eq0.false) in
    on_ok _ _ c.add_runs.result
    (λ e. start_more c.args.front.now c.with_last.result c.args.list.now.items c.add_starts.new.list.items c.add_runs.new.list.items c.args.first c.args.count c.args.k one c.requires.more c.with_last.ensures c.in_ok-add_starts.ensures e)
    c.add_runs.ensures
