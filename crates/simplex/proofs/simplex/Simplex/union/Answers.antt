use Rattle.std.proofs.Common.{◌≡◌, ◌<◌, ◌+◌, ◌++◌, ◌∷◌, [], drop, length, length-append, List, ℕ, Option, Some, ap, sym, ◌∙◌, arith, append_assoc, refl}
use mathlib.Core.Bool.{true≢false}
use Rattle.std.specs.List.{slice_get}
use Rattle.simplex.specs.Simplex.{union}
use Rattle.simplex.specs.Merge.{least, passed}
use Rattle.simplex.proofs.UnionLaws.{merged_at, merge_next, merge_full, passed_within, passed_some, merge_end, union_simplex}
use Rattle.simplex.proofs.simplex.Simplex.union.Goals as goal

-- the least label next in either list, by what the calls answered
next : (s t : List ℕ) (i j : ℕ) (a b r y : Option ℕ) → a ≡ slice_get s i → b ≡ slice_get t j → r ≡ least a b → r ≡ y → least (slice_get s i) (slice_get t j) ≡ y
next s t i j a b r y p q m e = ap (λ x. least x (slice_get t j)) (sym p) ∙ ap (least a) (sym q) ∙ sym m ∙ e

none_next : (s t : List ℕ) (i j : ℕ) (a b r : Option ℕ) → a ≡ slice_get s i → b ≡ slice_get t j → r ≡ least a b → ((l : ℕ) → r ≡ Some l → ⊥) → (l : ℕ) → least (slice_get s i) (slice_get t j) ≡ Some l → ⊥
none_next s t i j a b r p q m f l e = f l (m ∙ ap (λ x. least x b) p ∙ ap (least (slice_get s i)) q ∙ e)

-- what is made so far, with the next label and the rest
split : (s t out : List ℕ) (i j l : ℕ) → out ++ union (drop i s) (drop j t) ≡ union s t
    → union (drop i s) (drop j t) ≡ l ∷ union (drop (i + passed (slice_get s i) l) s) (drop (j + passed (slice_get t j) l) t)
    → out ++ l ∷ union (drop (i + passed (slice_get s i) l) s) (drop (j + passed (slice_get t j) l) t) ≡ union s t
split s t out i j l e f = ap (λ x. out ++ x) (sym f) ∙ e

pub returns-then-len-eq-LEN_LIMIT-clause-fits : goal.returns-then-len-eq-LEN_LIMIT-clause-fits
returns-then-len-eq-LEN_LIMIT-clause-fits c =
    let s = c.args.self.now in
    let t = c.args.other.now in
    let e = next s t c.loop-label.left c.loop-label.right _ _ _ (Some c.in-Some.label) c.at.ensures.value c.at-in-loop-label.ensures.value c.least.ensures c.in-Some.is in
    let m = merged_at s t c.loop-label.left c.loop-label.right c.in-Some.label c.at.ensures.simplex c.at-in-loop-label.ensures.simplex e in
    let full : length c.loop-label.union ≡ 12 = sym c.len.ensures.value ∙ c.if-len-eq-LEN_LIMIT.true in
    let over = merge_full s t c.loop-label.union _ c.in-Some.label full (split s t c.loop-label.union c.loop-label.left c.loop-label.right c.in-Some.label c.loop-label.invariant.merged m) in
    (λ f. absurd (true≢false (sym f)), λ h. absurd (omega (arith, over, h)))

pub push-requires : goal.push-requires
push-requires c =
    let s = c.args.self.now in
    let t = c.args.other.now in
    let e = next s t c.loop-label.left c.loop-label.right _ _ _ (Some c.in-Some.label) c.at.ensures.value c.at-in-loop-label.ensures.value c.least.ensures c.in-Some.is in
    let m = merged_at s t c.loop-label.left c.loop-label.right c.in-Some.label c.at.ensures.simplex c.at-in-loop-label.ensures.simplex e in
    let short : length c.loop-label.union < 12 = omega (arith, c.len.ensures.value, c.if-len-eq-LEN_LIMIT.false, c.loop-label.invariant.short) in
    merge_next s t c.loop-label.union _ c.in-Some.label c.at.ensures.simplex c.at-in-loop-label.ensures.simplex short
    (split s t c.loop-label.union c.loop-label.left c.loop-label.right c.in-Some.label c.loop-label.invariant.merged m)

pub loop-label-smaller : goal.loop-label-smaller
loop-label-smaller c =
    let s = c.args.self.now in
    let t = c.args.other.now in
    let i = c.loop-label.left in
    let j = c.loop-label.right in
    let l = c.in-Some.label in
    let e = next s t i j _ _ _ (Some l) c.at.ensures.value c.at-in-loop-label.ensures.value c.least.ensures c.in-Some.is in
    let p : c.passed-left.result ≡ passed (slice_get s i) l = c.passed-left.ensures ∙ ap (λ x. passed x l) c.at-in-Some.ensures.value in
    let q : c.passed-right.result ≡ passed (slice_get t j) l = c.passed-right.ensures ∙ ap (λ x. passed x l) c.at-in-Some-2.ensures.value in
    omega (arith, p, q, passed_some (slice_get s i) (slice_get t j) l e, passed_within s i l c.loop-label.invariant.left, passed_within t j l c.loop-label.invariant.right)

pub loop-label-preserved : goal.loop-label-preserved
loop-label-preserved c =
    let s = c.args.self.now in
    let t = c.args.other.now in
    let i = c.loop-label.left in
    let j = c.loop-label.right in
    let l = c.in-Some.label in
    let e = next s t i j _ _ _ (Some l) c.at.ensures.value c.at-in-loop-label.ensures.value c.least.ensures c.in-Some.is in
    let m = merged_at s t i j l c.at.ensures.simplex c.at-in-loop-label.ensures.simplex e in
    let p : c.passed-left.result ≡ passed (slice_get s i) l = c.passed-left.ensures ∙ ap (λ x. passed x l) c.at-in-Some.ensures.value in
    let q : c.passed-right.result ≡ passed (slice_get t j) l = c.passed-right.ensures ∙ ap (λ x. passed x l) c.at-in-Some-2.ensures.value in
    record {
      merged =
          ap (λ x. x ++ union (drop (i + c.passed-left.result) s) (drop (j + c.passed-right.result) t)) c.push.ensures
          ∙ ap (λ n. (c.loop-label.union ++ l ∷ []) ++ union (drop (i + n) s) (drop (j + c.passed-right.result) t)) p
          ∙ ap (λ n. (c.loop-label.union ++ l ∷ []) ++ union (drop (i + passed (slice_get s i) l) s) (drop (j + n) t)) q
          ∙ append_assoc c.loop-label.union (l ∷ []) (union (drop (i + passed (slice_get s i) l) s) (drop (j + passed (slice_get t j) l) t))
          ∙ split s t c.loop-label.union i j l c.loop-label.invariant.merged m;
      short = omega (arith, ap length c.push.ensures, length-append c.loop-label.union (l ∷ []), c.len.ensures.value, c.if-len-eq-LEN_LIMIT.false, c.loop-label.invariant.short);
      left = omega (arith, p, passed_within s i l c.loop-label.invariant.left);
      right = omega (arith, q, passed_within t j l c.loop-label.invariant.right);
    }

pub returns-clause-fits : goal.returns-clause-fits
returns-clause-fits c =
    let s = c.args.self.now in
    let t = c.args.other.now in
    let none = none_next s t c.loop-label.left c.loop-label.right _ _ _ c.at.ensures.value c.at-in-loop-label.ensures.value c.least.ensures c.in_default.not-Some in
    let whole = merge_end s t c.loop-label.union c.loop-label.left c.loop-label.right none c.loop-label.invariant.merged in
    (λ _. omega (arith, ap length whole, c.loop-label.invariant.short), λ _. refl)

pub returns-clause-value : goal.returns-clause-value
returns-clause-value c =
    let s = c.args.self.now in
    let t = c.args.other.now in
    let none = none_next s t c.loop-label.left c.loop-label.right _ _ _ c.at.ensures.value c.at-in-loop-label.ensures.value c.least.ensures c.in_default.not-Some in
    merge_end s t c.loop-label.union c.loop-label.left c.loop-label.right none c.loop-label.invariant.merged

pub returns-clause-simplex : goal.returns-clause-simplex
returns-clause-simplex c =
    let s = c.args.self.now in
    let t = c.args.other.now in
    let none = none_next s t c.loop-label.left c.loop-label.right _ _ _ c.at.ensures.value c.at-in-loop-label.ensures.value c.least.ensures c.in_default.not-Some in
    union_simplex s t c.loop-label.union c.at.ensures.simplex c.at-in-loop-label.ensures.simplex c.loop-label.invariant.short
    (merge_end s t c.loop-label.union c.loop-label.left c.loop-label.right none c.loop-label.invariant.merged)
