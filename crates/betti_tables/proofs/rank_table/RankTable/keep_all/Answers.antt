use Rattle.std.proofs.Common.{◌≡◌, ◌+◌, ◌-◌, ◌≤◌, subst, arith}
use Rattle.facet_set.specs.Numbers.{face_count}
use Rattle.gf2_rank.specs.Matrix.{side_limit}
use Rattle.betti_tables.proofs.LimitLaws.{within_limit}
use Rattle.betti_tables.proofs.TableLaws.{kept_more}
use Rattle.betti_tables.proofs.rank_table.RankTable.keep_all.Goals as goal

pub keep-requires-clause-rows : goal.keep-requires-clause-rows
keep-requires-clause-rows g c =
    let l = c.args.l.now.facets in
    let k = c.loop-k.k in
    let same : k - 1 + 1 ≡ k = omega (arith, c.loop-k.auto.k) in
    subst (λ n. face_count l n ≤ side_limit) same (within_limit l (k - 1) c.requires.limit)

pub keep-requires-clause-columns : goal.keep-requires-clause-columns
keep-requires-clause-columns g c = within_limit c.args.l.now.facets c.loop-k.k c.requires.limit

pub loop-k-preserved : goal.loop-k-preserved
loop-k-preserved g c =
    record {
      filled = kept_more c.args.l.now.facets c.args.self.now c.loop-k.self c.keep.new.self c.args.steps.now c.loop-k.steps c.keep.new.steps c.loop-k.k c.loop-k.auto.k c.loop-k.invariant.filled
          c.in_ok-keep.ensures.kept c.in_ok-keep.ensures.steps c.in_ok-keep.ensures.counted;
      end = omega (arith, c.loop-k-test.true);
    }
