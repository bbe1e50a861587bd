use Rattle.std.proofs.Common.{◌∙◌, ap, sym, length, arith}
use Rattle.std.specs.List.{range_with_len}
use Rattle.std.proofs.lemmas.List.FromFn.{length-range_with_len}
use Rattle.local_parts.proofs.ForestLaws.{counted_is, take_front}
use Rattle.local_parts.proofs.forest.class_count.Goals as goal

pub unite_all-requires-clause-alone : goal.unite_all-requires-clause-alone
unite_all-requires-clause-alone c =
    let e = c.deref_mut.ensures.value ∙ c.in_ok-parents.ensures in
    e ∙ ap (range_with_len 0) (sym (ap length e ∙ length-range_with_len 0 c.args.count))

pub unite_all-requires-clause-below : goal.unite_all-requires-clause-below
unite_all-requires-clause-below c = λ q i.
    let e = ap length (c.deref_mut.ensures.value ∙ c.in_ok-parents.ensures) ∙ length-range_with_len 0 c.args.count in
    let r = c.requires q i in
    (omega (arith, r.0, e), omega (arith, r.1, e))

pub returns : goal.returns
returns c = λ joined hc.
    counted_is _ c.args.count c.root_count.result c.args.pairs.now c.unite_all.new.parents c.deref.result.now c.unite_all.ensures
    (ap length (c.deref_mut.ensures.value ∙ c.in_ok-parents.ensures) ∙ length-range_with_len 0 c.args.count) (c.deref.ensures.value ∙ take_front _ c.unite_all.new.parents _ (c.unite_all.auto.parents ∙ c.deref_mut.ensures.len)) c.root_count.ensures joined hc
