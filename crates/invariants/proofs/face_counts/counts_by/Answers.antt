use Rattle.std.proofs.Common.{◌≡◌, ℕ, ◌+◌, List, [], ◌∷◌, ◌++◌, map, take, sym, ap, ◌∙◌, subst, arith}
use Rattle.std.specs.List.{All, range_with_len}
use Rattle.std.specs.Prelude.{◌≤◌}
use Rattle.std.proofs.Math.ListN.{length-set}
use Rattle.std.proofs.lemmas.List.{take_more_set}
use Rattle.std.proofs.lemmas.List.FromFn.{map-range_with_len_more}
use Rattle.facet_set.specs.Numbers.{face_count, f_vector}
use Rattle.face_vectors.specs.declared.counts.TheConstants.{COUNT_LIMIT}
use Rattle.invariants.proofs.face_counts.counts_by.Goals as goal

pub loop-k-preserved : goal.loop-k-preserved
loop-k-preserved c =
    let k = c.loop-k.k in
    let facets = c.args.c.now in
    let next : c.face_count.result ≡ face_count facets (k + 1) = c.face_count.ensures ∙ ap (λ (d : List (List ℕ)). face_count d (k + 1)) c.requires.same in
    record {
      value = take_more_set c.loop-k.at k c.face_count.result (omega arith)
          ∙ ap (λ (ns : List ℕ). ns ++ c.face_count.result ∷ []) c.loop-k.invariant.value
          ∙ ap (λ n. map (face_count facets) (range_with_len 1 k) ++ n ∷ []) next
          ∙ sym (map-range_with_len_more (face_count facets) 1 k (k + 1) (omega arith));
      whole = length-set c.loop-k.at k c.face_count.result ∙ c.loop-k.invariant.whole;
    }

pub returns-clause-limits : goal.returns-clause-limits
returns-clause-limits c =
    let facets = c.args.c.now in
    let end : c.loop-k.k ≡ c.size-size.result = omega arith in
    let numbers : take c.size-size.result c.loop-k.at ≡ f_vector facets =
    ap (λ n. take n c.loop-k.at) (sym end) ∙ c.loop-k.invariant.value ∙ ap (λ n. map (face_count facets) (range_with_len 1 n)) (end ∙ c.size-size.ensures.value) in
    record {
      size = omega arith;
      counts = subst (All (λ n. n ≤ COUNT_LIMIT)) (sym numbers) c.requires.few;
    }
