use Rattle.std.proofs.Common.{◌+◌, ◌++◌, ◌∷◌, [], get_or, map, sym, ap, ◌∙◌, arith}
use Rattle.std.specs.List.{range_with_len}
use Rattle.std.proofs.lemmas.List.FromFn.{map-range_with_len_more}
use Rattle.morse_lists.specs.Morse.{critical_count}
use Rattle.morse_lists.proofs.tally.Tally.of.Goals as goal

pub loop-k-preserved : goal.loop-k-preserved
loop-k-preserved c =
    let k = c.loop-k.k in
    let f = critical_count c.args.steps.now in
    record {
      value =
          c.push.ensures.value
          ∙ ap (λ xs. xs ++ get_or c.counts_of-counts.result k 0 ∷ []) c.loop-k.invariant.value
          ∙ ap (λ n. map f (range_with_len 0 k) ++ n ∷ []) (c.counts_of-counts.ensures.value k (omega arith))
          ∙ sym (map-range_with_len_more f 0 k k (omega arith));
      len = c.push.ensures.len ∙ ap (λ n. n + 1) c.loop-k.invariant.len;
    }
