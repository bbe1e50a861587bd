use Rattle.std.proofs.Common.{◌≤◌, sym, subst, ◌^◌, ℕ, arith}
use Rattle.constructions.proofs.CountLaws.{choose_next, choose_fits, choose_small}
use Rattle.constructions.proofs.cyclic_spheres.choose.Goals as goal

pub overflow_mul-count : goal.overflow_mul-count
overflow_mul-count c = let h = choose_fits c.args.n c.loop-i.i c.loop-i.count (omega (arith, c.requires.within)) c.requires.limit (omega (arith, c.requires.few)) c.loop-i.invariant in omega (arith, h)

pub loop-i-preserved : goal.loop-i-preserved
loop-i-preserved c = choose_next c.args.n c.loop-i.i c.loop-i.count (omega (arith, c.requires.within)) c.loop-i.invariant

pub returns-clause-bound : goal.returns-clause-bound
returns-clause-bound c =
    let e = c.loop-i.auto in
    subst (λ (n : ℕ). n ≤ 10 ^ 36) (sym c.loop-i.invariant) (choose_small c.args.n c.loop-i.i (omega (arith, c.requires.within)) c.requires.limit (omega (arith, c.requires.few)))
