use Rattle.std.proofs.Common.{sym, ◌∙◌, ◌<◌, ◌≤◌, ◌+◌, arith}
use Rattle.facet_set.specs.Numbers.{face_count}
use Rattle.gf2_rank.specs.Matrix.{side_limit}
use Rattle.betti_tables.proofs.LimitLaws.{fault_all, fault_here, fault_next, fault_none}
use Rattle.betti_tables.proofs.rank_table.limit_fault.Goals as goal

pub loop-k-init : goal.loop-k-init
loop-k-init c = fault_all c.args.l.now.facets c.size-k-end.result c.size-k-end.ensures.value

pub returns-then-face_count-gt-SIDE_LIMIT : goal.returns-then-face_count-gt-SIDE_LIMIT
returns-then-face_count-gt-SIDE_LIMIT c = sym (fault_here c.args.l.now.facets c.loop-k.k c.size-k-end.result c.loop-k-test.true above) ∙ c.loop-k.invariant
  where
    above : side_limit < face_count c.args.l.now.facets (c.loop-k.k + 1)
    above = omega (arith, c.face_count.ensures, c.if-face_count-gt-SIDE_LIMIT.true)

pub loop-k-preserved : goal.loop-k-preserved
loop-k-preserved c = sym (fault_next c.args.l.now.facets c.loop-k.k c.size-k-end.result c.loop-k-test.true within) ∙ c.loop-k.invariant
  where
    within : face_count c.args.l.now.facets (c.loop-k.k + 1) ≤ side_limit
    within = omega (arith, c.face_count.ensures, c.if-face_count-gt-SIDE_LIMIT.false)

pub returns : goal.returns
returns c = sym (fault_none c.args.l.now.facets c.loop-k.k c.size-k-end.result c.loop-k-test.false) ∙ c.loop-k.invariant
