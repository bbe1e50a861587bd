use Rattle.std.proofs.Common.{List, ℕ, subst}
use Rattle.cert_replay.specs.Corners.{HasAll}
use Rattle.cert_replay.proofs.TableLaws.{table_first, table_made, facets_are}
use Rattle.cert_replay.proofs.table.Table.of.Goals as goal

pub invariant_of-result : goal.invariant_of-result
invariant_of-result c =
    table_made c.args.c.now c.size.result c.add_all.new.corners.keys
    (table_first c.args.c.now c.size.result c.new-corners.result.keys c.add_all.new.corners.keys c.as_slice.ensures.simplices c.as_slice.ensures.complex c.requires c.size.ensures.value c.new-corners.ensures.empty
    (subst (λ (l : List (List ℕ)). HasAll l c.new-corners.result.keys c.add_all.new.corners.keys) c.as_slice.ensures.value c.in_ok-add_all.ensures))

pub returns : goal.returns
returns c =
    facets_are c.args.c.now c.size.result c.add_all.new.corners.keys
    (table_first c.args.c.now c.size.result c.new-corners.result.keys c.add_all.new.corners.keys c.as_slice.ensures.simplices c.as_slice.ensures.complex c.requires c.size.ensures.value c.new-corners.ensures.empty
    (subst (λ (l : List (List ℕ)). HasAll l c.new-corners.result.keys c.add_all.new.corners.keys) c.as_slice.ensures.value c.in_ok-add_all.ensures))
