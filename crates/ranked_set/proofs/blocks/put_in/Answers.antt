use Rattle.std.proofs.Common.{◌≡◌, ◌∙◌, refl, sym, length}
use Rattle.ranked_set.proofs.BlockLaws.{IsPut, put_within_now, put_rising, put_is, put_ranked, length_again}
use Rattle.ranked_set.proofs.ChangeLaws.{put_short, put_spare, cut_members, cut_spare}
use Rattle.ranked_set.proofs.blocks.put_in.Goals as goal

at_block : (c : goal.After-index_mut) → IsPut c.args.s c.args.blocks.now.items c.deref.result.now c.args.blocks.now.items c.block_for-k.result c.index_mut.result.now
at_block c = record {
  now_is = refl;
  seen_is = c.deref.ensures.value;
  ranked = c.requires.ranked;
  within = c.block_for-k.ensures.within;
  before = c.block_for-k.ensures.before;
  here = c.block_for-k.ensures.here;
  block_is = c.index_mut.ensures.value;
}

pub put-requires-clause-rising : goal.put-requires-clause-rising
put-requires-clause-rising c = put_rising c.args.s c.args.blocks.now.items c.deref.result.now c.args.blocks.now.items c.block_for-k.result c.index_mut.result.now (at_block c)

at_cut : (c : goal.After-cut) → IsPut c.args.s c.args.blocks.now.items c.deref.result.now c.args.blocks.now.items c.block_for-k.result c.index_mut.result.now
at_cut c = record {
  now_is = refl;
  seen_is = c.deref.ensures.value;
  ranked = c.requires.ranked;
  within = c.block_for-k.ensures.within;
  before = c.block_for-k.ensures.before;
  here = c.block_for-k.ensures.here;
  block_is = c.index_mut.ensures.value;
}

at_end : (c : goal.Else-len-eq-BLOCK_LIMIT) → IsPut c.args.s c.args.blocks.now.items c.deref.result.now c.args.blocks.now.items c.block_for-k.result c.index_mut.result.now
at_end c = record {
  now_is = refl;
  seen_is = c.deref.ensures.value;
  ranked = c.requires.ranked;
  within = c.block_for-k.ensures.within;
  before = c.block_for-k.ensures.before;
  here = c.block_for-k.ensures.here;
  block_is = c.index_mut.ensures.value;
}

full : (c : goal.After-cut) → length c.put.new.self ≡ 128
full c =
    sym (length_again c.args.blocks.now.items c.block_for-k.result c.put.new.self c.index.result.now c.len.result
    (put_within_now c.args.s c.args.blocks.now.items c.deref.result.now c.args.blocks.now.items c.block_for-k.result c.index_mut.result.now (at_cut c)) c.index.ensures c.len.ensures) ∙ c.if-len-eq-BLOCK_LIMIT.true

not_full : (c : goal.Else-len-eq-BLOCK_LIMIT) → length c.put.new.self ≡ 128 → ⊥
not_full c e = c.if-len-eq-BLOCK_LIMIT.false (
    length_again c.args.blocks.now.items c.block_for-k.result c.put.new.self c.index.result.now c.len.result
    (put_within_now c.args.s c.args.blocks.now.items c.deref.result.now c.args.blocks.now.items c.block_for-k.result c.index_mut.result.now (at_end c)) c.index.ensures c.len.ensures ∙ e)

pub returns-then-len-eq-BLOCK_LIMIT-clause-members : goal.returns-then-len-eq-BLOCK_LIMIT-clause-members
returns-then-len-eq-BLOCK_LIMIT-clause-members c =
    (cut_members c.args.s c.args.blocks.now.items c.deref.result.now c.block_for-k.result c.index_mut.result.now c.put.new.self (at_cut c) c.put.ensures c.requires.short c.cut.new.blocks.items (full c) c.cut.ensures.items).0

pub returns-then-len-eq-BLOCK_LIMIT-clause-ranked : goal.returns-then-len-eq-BLOCK_LIMIT-clause-ranked
returns-then-len-eq-BLOCK_LIMIT-clause-ranked c =
    (cut_members c.args.s c.args.blocks.now.items c.deref.result.now c.block_for-k.result c.index_mut.result.now c.put.new.self (at_cut c) c.put.ensures c.requires.short c.cut.new.blocks.items (full c) c.cut.ensures.items).1

pub returns-then-len-eq-BLOCK_LIMIT-clause-short : goal.returns-then-len-eq-BLOCK_LIMIT-clause-short
returns-then-len-eq-BLOCK_LIMIT-clause-short c =
    (cut_members c.args.s c.args.blocks.now.items c.deref.result.now c.block_for-k.result c.index_mut.result.now c.put.new.self (at_cut c) c.put.ensures c.requires.short c.cut.new.blocks.items (full c) c.cut.ensures.items).2

pub returns-then-len-eq-BLOCK_LIMIT-clause-spare : goal.returns-then-len-eq-BLOCK_LIMIT-clause-spare
returns-then-len-eq-BLOCK_LIMIT-clause-spare c =
    cut_spare c.args.blocks.now.items c.cut.new.blocks.items _ _
    (cut_members c.args.s c.args.blocks.now.items c.deref.result.now c.block_for-k.result c.index_mut.result.now c.put.new.self (at_cut c) c.put.ensures c.requires.short c.cut.new.blocks.items (full c) c.cut.ensures.items).3
    c.cut.ensures.pool

pub returns-else-len-eq-BLOCK_LIMIT-clause-members : goal.returns-else-len-eq-BLOCK_LIMIT-clause-members
returns-else-len-eq-BLOCK_LIMIT-clause-members c = put_is c.args.s c.args.blocks.now.items c.deref.result.now c.args.blocks.now.items c.block_for-k.result c.index_mut.result.now (at_end c) c.put.new.self c.put.ensures

pub returns-else-len-eq-BLOCK_LIMIT-clause-ranked : goal.returns-else-len-eq-BLOCK_LIMIT-clause-ranked
returns-else-len-eq-BLOCK_LIMIT-clause-ranked c = put_ranked c.args.s c.args.blocks.now.items c.deref.result.now c.args.blocks.now.items c.block_for-k.result c.index_mut.result.now (at_end c) c.put.new.self c.put.ensures

pub returns-else-len-eq-BLOCK_LIMIT-clause-short : goal.returns-else-len-eq-BLOCK_LIMIT-clause-short
returns-else-len-eq-BLOCK_LIMIT-clause-short c = put_short c.args.s c.args.blocks.now.items c.deref.result.now c.block_for-k.result c.index_mut.result.now c.put.new.self (at_end c) c.put.ensures c.requires.short (not_full c)

pub returns-else-len-eq-BLOCK_LIMIT-clause-spare : goal.returns-else-len-eq-BLOCK_LIMIT-clause-spare
returns-else-len-eq-BLOCK_LIMIT-clause-spare c = put_spare c.args.s c.args.blocks.now.items c.deref.result.now c.block_for-k.result c.index_mut.result.now c.put.new.self (at_end c) c.put.ensures c.requires.short _
