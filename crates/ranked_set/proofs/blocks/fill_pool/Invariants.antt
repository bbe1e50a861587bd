use Rattle.std.proofs.Common.{◌+◌, ◌-◌, ◌≤◌, vec_len}
use Rattle.ranked_set.proofs.blocks.fill_pool.Given as goal

abbrev pub invariant-loop-alloc : goal.invariant-loop-alloc
invariant-loop-alloc l = (vec_len l.fn.pool ≤ vec_len l.pool) × (vec_len l.pool ≤ vec_len l.fn.pool + (l.count - vec_len l.fn.pool))

abbrev pub decreases-loop-alloc : goal.decreases-loop-alloc
decreases-loop-alloc l = l.count - vec_len l.pool
