-- The steps of the loops over the words of a column, and over columns.
use Rattle.std.proofs.Common.{◌≡◌, ◌≢◌, ℕ, ◌+◌, ◌<◌, ◌≤◌, true, false, ltb, List, [], ◌∷◌, ◌++◌, length, get_or, set, map, bit_xor, Some, refl, sym, ap, ◌∙◌, arith}
use Rattle.std.specs.Prelude.{nat_eq, All, take, drop, replicate}
use Rattle.std.specs.Ordering.{nat_cmp}
use Rattle.std.specs.FinMap.{nat_cmp-IsAntisymmetric}
use Rattle.std.proofs.lemmas.Cmp.{nat_cmp_total}
use Rattle.std.proofs.lemmas.Bool.Decides.{nat_tests}
use Rattle.std.proofs.lemmas.List.{get_or_past, get_or-set_same, get_or-set_other, get_or_read, length-set, map_push, replicate_more, drop_all, take_all, map-set, append-nil, get_or-map, length-map, length-append}
use Rattle.std.proofs.lemmas.List.Edits.{map_over_more}
use Rattle.std.proofs.lemmas.List.Elements.{All-push, All-set, All-pop}
use Rattle.simplex.specs.InOrder.{is_member, put}
use Rattle.gf2_rank.specs.declared.column.Column.{Column}
use Rattle.gf2_rank.specs.Added.{IsAdded}
use Rattle.gf2_rank.specs.Columns.{sets}
use Rattle.gf2_rank.specs.Elimination.{cleared}
use Rattle.gf2_rank.specs.Matrix.{Matrix, with_one}
use Rattle.gf2_rank.specs.Ones.{ones}
use Rattle.gf2_rank.specs.Span.{rank}
use Rattle.gf2_rank.proofs.SpanLaws.{rank-pivot, rank-empty}

pub added_none : (a b : List ℕ) → IsAdded a b a 0
added_none a b = record { done = λ k h. absurd (omega arith); left = λ k h. refl; len = refl }

pub added_more : (a b c : List ℕ) (n x y : ℕ) → n < length c → n < length b → x ≡ get_or c n x → y ≡ get_or b n y → IsAdded a b c n → IsAdded a b (set c n (bit_xor x y)) (n + 1)
added_more a b c n x y inside inside_b read read_b h =
    record {
      done = λ k below.
          elim (nat_eq k n) as (λ v. nat_eq k n ≡ v → get_or (set c n (bit_xor x y)) k 0 ≡ bit_xor (get_or a k 0) (get_or b k 0)) [
            | true ↦ λ e.
                let same : k ≡ n = grind (arith, nat_tests) in
                ap (λ i. get_or (set c n (bit_xor x y)) i 0) same ∙ get_or-set_same c n (bit_xor x y) 0 inside
                ∙ ap (λ z. bit_xor z y) (get_or_read c n x inside read 0 ∙ h.left n (omega arith)) ∙ ap (λ z. bit_xor (get_or a n 0) z) (get_or_read b n y inside_b read_b 0)
                ∙ ap (λ i. bit_xor (get_or a i 0) (get_or b i 0)) (sym same)
            | false ↦ λ e. let other : k ≢ n = grind (arith, nat_tests) in get_or-set_other c n k (bit_xor x y) 0 other ∙ h.done k (omega arith)
          ] refl;
      left = λ k above. let other : k ≢ n = λ e. omega arith in get_or-set_other c n k (bit_xor x y) 0 other ∙ h.left k (omega arith);
      len = length-set c n (bit_xor x y) ∙ h.len;
    }

pub added_all : (a b c : List ℕ) (n : ℕ) → length a ≤ n → length a ≡ length b → IsAdded a b c n → (k : ℕ) → get_or c k 0 ≡ bit_xor (get_or a k 0) (get_or b k 0)
added_all a b c n all same h k =
    elim (ltb k n) as (λ v. ltb k n ≡ v → get_or c k 0 ≡ bit_xor (get_or a k 0) (get_or b k 0)) [
      | true ↦ λ e. h.done k (grind (arith, nat_tests))
      | false ↦ λ e.
          let past : n ≤ k = grind (arith, nat_tests) in
          get_or_past c k 0 (omega (arith, h.len)) ∙ ap (λ z. bit_xor z 0) (sym (get_or_past a k 0 (omega arith))) ∙ ap (λ z. bit_xor (get_or a k 0) z) (sym (get_or_past b k 0 (omega arith)))
    ] refl

-- words that are 0 as far as the list goes
pub zero_all : (ws : List ℕ) (n : ℕ) → length ws ≤ n → ((k : ℕ) → k < n → get_or ws k 0 ≡ 0) → (k : ℕ) → get_or ws k 0 ≡ 0
zero_all ws n all f k =
    elim (ltb k n) as (λ v. ltb k n ≡ v → get_or ws k 0 ≡ 0) [
      | true ↦ λ e. f k (grind (arith, nat_tests))
      | false ↦ λ e. let past : n ≤ k = grind (arith, nat_tests) in get_or_past ws k 0 (omega arith)
    ] refl

-- one column less
last_set : (before after : List Column) (last : Column) → before ≡ after ++ last ∷ [] → sets before ≡ sets after ++ ones last.words.items ∷ []
last_set before after last e = ap sets e ∙ map_push (λ (c : Column). ones c.words.items) after last

pub pivot_step : (before after cleared_ones : List Column) (last : Column) (row n : ℕ) → before ≡ after ++ last ∷ [] → is_member nat_cmp row (ones last.words.items) ≡ true
    → sets cleared_ones ≡ map (cleared nat_cmp row (ones last.words.items)) (sets after) → n + 1 + rank nat_cmp (sets cleared_ones) ≡ n + rank nat_cmp (sets before)
pivot_step before after cleared_ones last row n e member c =
    let whole : rank nat_cmp (sets before) ≡ rank nat_cmp (map (cleared nat_cmp row (ones last.words.items)) (sets after)) + 1 =
    ap (rank nat_cmp) (last_set before after last e) ∙ rank-pivot nat_cmp_total nat_cmp-IsAntisymmetric row (ones last.words.items) member (sets after) in
    let part : rank nat_cmp (sets cleared_ones) ≡ rank nat_cmp (map (cleared nat_cmp row (ones last.words.items)) (sets after)) = ap (rank nat_cmp) c in
    omega arith

pub empty_step : (before after : List Column) (last : Column) → before ≡ after ++ last ∷ [] → ones last.words.items ≡ [] → rank nat_cmp (sets after) ≡ rank nat_cmp (sets before)
empty_step before after last e none =
    sym (rank-empty nat_cmp_total nat_cmp-IsAntisymmetric (sets after)) ∙ ap (λ s. rank nat_cmp (sets after ++ s ∷ [])) (sym none) ∙ ap (rank nat_cmp) (sym (last_set before after last e))

-- columns of len words, the first n of them cleared
pub record IsCleared (row len : ℕ) (u : List ℕ) (old now : List Column) (n : ℕ) : Type 0 where
  pub value : sets now ≡ map (cleared nat_cmp row u) (take n (sets old)) ++ drop n (sets old)
  pub whole : All (λ c. length c.words.items ≡ len) now

pub cleared_all : (row len : ℕ) (u : List ℕ) (old now : List Column) (n : ℕ) → length (sets old) ≤ n → IsCleared row len u old now n → sets now ≡ map (cleared nat_cmp row u) (sets old)
cleared_all row len u old now n all h =
    h.value ∙ ap (λ ss. map (cleared nat_cmp row u) ss ++ drop n (sets old)) (take_all n (sets old) all) ∙ ap (λ ss. map (cleared nat_cmp row u) (sets old) ++ ss) (drop_all n (sets old) all)
    ∙ append-nil (map (cleared nat_cmp row u) (sets old))

-- so many columns of zeros
pub record IsZeros (len n : ℕ) (columns : List Column) : Type 0 where
  pub value : sets columns ≡ replicate n []
  pub whole : All (λ c. length c.words.items ≡ len) columns

pub zeros_more : (len n : ℕ) (columns : List Column) (c : Column) → ones c.words.items ≡ [] → length c.words.items ≡ len → IsZeros len n columns → IsZeros len (n + 1) (columns ++ c ∷ [])
zeros_more len n columns c empty whole h =
    record {
      value = map_push (λ (d : Column). ones d.words.items) columns c ∙ ap (λ ss. ss ++ ones c.words.items ∷ []) h.value ∙ ap (λ s. replicate n [] ++ s ∷ []) empty ∙ replicate_more n [];
      whole = All-push (λ d. length d.words.items ≡ len) columns c h.whole whole;
    }

-- columns that are left with so much of the rank found
pub record IsReduced (len : ℕ) (old now : List Column) (found : ℕ) : Type 0 where
  pub same : found + rank nat_cmp (sets now) ≡ rank nat_cmp (sets old)
  pub short : found + length now ≤ length old
  pub whole : All (λ c. length c.words.items ≡ len) now

pub pivot_reduced : (len : ℕ) (old before after new : List Column) (last : Column) (row found : ℕ) → before ≡ after ++ last ∷ [] → is_member nat_cmp row (ones last.words.items) ≡ true
    → sets new ≡ map (cleared nat_cmp row (ones last.words.items)) (sets after) → All (λ c. length c.words.items ≡ length last.words.items) new → IsReduced len old before found → IsReduced len old new (found + 1)
pivot_reduced len old before after new last row found e member value whole h =
    let count : length new ≡ length after =
    sym (length-map new (λ (c : Column). ones c.words.items)) ∙ ap length value ∙ length-map (sets after) (cleared nat_cmp row (ones last.words.items)) ∙ length-map after (λ (c : Column). ones c.words.items) in
    let total : length before ≡ length after + 1 = ap length e ∙ length-append after (last ∷ []) in
    let parts = All-pop (λ c. length c.words.items ≡ len) before after (Some last) e h.whole in
    record {
      same = pivot_step before after new last row found e member value ∙ h.same;
      short = omega (arith, h.short);
      whole = λ k d inside. whole k d inside ∙ parts.1;
    }

pub empty_reduced : (len : ℕ) (old before after : List Column) (last : Column) (found : ℕ) → before ≡ after ++ last ∷ [] → ones last.words.items ≡ [] → IsReduced len old before found → IsReduced len old after found
empty_reduced len old before after last found e none h =
    let total : length before ≡ length after + 1 = ap length e ∙ length-append after (last ∷ []) in
    let parts = All-pop (λ c. length c.words.items ≡ len) before after (Some last) e h.whole in
    record {
      same = ap (λ n. found + n) (empty_step before after last e none) ∙ h.same;
      short = omega (arith, h.short);
      whole = parts.0;
    }

pub cleared_more : (row len : ℕ) (u : List ℕ) (old now : List Column) (n : ℕ) (c d : Column) → n < length now → length now ≡ length old
    → ones d.words.items ≡ cleared nat_cmp row u (ones (get_or now n c).words.items) → length d.words.items ≡ length (get_or now n c).words.items → IsCleared row len u old now n
    → IsCleared row len u old (set now n d) (n + 1)
cleared_more row len u old now n c d inside count value same h =
    let f : Column → List ℕ = λ e. ones e.words.items in
    let x : List ℕ = f (get_or now n c) in
    record {
      value = map-set f now n d ∙ ap (set (sets now) n) value
          ∙ map_over_more (cleared nat_cmp row u) (sets old) (sets now) n x (omega (arith, length-map old f)) h.value (sym (get_or-map f now n c x inside));
      whole = All-set (λ e. length e.words.items ≡ len) now n d (same ∙ h.whole n c inside) h.whole;
    }

-- one more 1 in a column
pub set_column : (rows row i : ℕ) (columns : List Column) (c d : Column) → i < length columns → c ≡ get_or columns i c → ones d.words.items ≡ put nat_cmp row (ones c.words.items)
    → ◌≡◌ {A = Matrix} (record { rows = rows; columns = sets (set columns i d) }) (with_one (record { rows = rows; columns = sets columns }) row i)
set_column rows row i columns c d inside read value =
    let f : Column → List ℕ = λ e. ones e.words.items in
    let at : List (List ℕ) → Matrix = λ ss. record { rows = rows; columns = ss } in
    ap at (map-set f columns i d ∙ ap (set (sets columns) i) (value ∙ ap (put nat_cmp row) (ap f read ∙ sym (get_or-map f columns i c [] inside))))
