-- How bytes are cut into lines, and lines into parts.
use Rattle.std.proofs.Common.{◌≡◌, ℕ, zero, suc, ◌+◌, ◌<◌, ◌≤◌, Bool, true, false, not, cond, List, [], ◌∷◌, ◌++◌, length, take, drop, get_or, Some, None, refl, sym, ap, ◌∙◌, arith, eqb, ltb, add-one, append_assoc}
use Rattle.std.specs.List.{onto_first, position, position_or_len}
use Rattle.std.proofs.Math.Seq.{take-add}
use Rattle.std.proofs.lemmas.List.{drop-drop, take_all, drop_all}
use Rattle.std.proofs.lemmas.List.Quantifiers.{position-Some}
use Rattle.std.proofs.lemmas.Bool.{eqb-true}
use Rattle.std.proofs.lemmas.Bool.Decides.{nat_tests}
use Rattle.replay_report.specs.Report.{lines_of, begins_part, ends_part, split_parts, parts, first_line}

-- ---- the first line

abbrev pub is_feed : ℕ → Bool
is_feed c = eqb c 10

line_to : (bytes : List ℕ) (i : ℕ) → i < length bytes → is_feed (get_or bytes i 0) ≡ true → ((k : ℕ) → k < i → is_feed (get_or bytes k 0) ≡ false)
    → lines_of bytes ≡ take (suc i) bytes ∷ lines_of (drop (suc i) bytes)
line_to [] i h e before = absurd (omega arith)
line_to (x ∷ xs) zero h e before =
    ap (λ v. cond v ((10 ∷ []) ∷ lines_of xs) (onto_first x (lines_of xs))) e ∙ ap (λ y. (y ∷ []) ∷ lines_of xs) (sym (eqb-true x 10 e))
line_to (x ∷ xs) (suc i) h e before =
    ap (λ v. cond v ((10 ∷ []) ∷ lines_of xs) (onto_first x (lines_of xs))) (before 0 (omega arith))
    ∙ ap (onto_first x) (line_to xs i (omega arith) e (λ k l. before (suc k) (omega arith)))

-- the line ends at the first line feed
pub line_at : (bytes : List ℕ) (i : ℕ) → position is_feed bytes ≡ Some i → lines_of bytes ≡ take (i + 1) bytes ∷ lines_of (drop (i + 1) bytes)
line_at bytes i e =
    let h = position-Some is_feed bytes i 0 e in
    rw add-one (line_to bytes i h.0 h.1 h.2)

not_feed : (x n m : ℕ) → suc n ≤ cond (not (is_feed x)) (1 + m) 0 → (is_feed x ≡ false) × (n ≤ m)
not_feed x n m = elim (is_feed x) as (λ v. suc n ≤ cond (not v) (1 + m) 0 → (v ≡ false) × (n ≤ m)) [
  | true ↦ λ h. absurd (omega arith)
  | false ↦ λ h. (refl, omega arith)
]

one_line : (bytes : List ℕ) → 0 < length bytes → length bytes ≤ position_or_len is_feed bytes → lines_of bytes ≡ bytes ∷ []
one_line [] h e = absurd (omega arith)
one_line (x ∷ []) h e = ap (λ v. cond v ((10 ∷ []) ∷ []) ((x ∷ []) ∷ [])) (not_feed x 0 0 e).0
one_line (x ∷ y ∷ xs) h e =
    let r = not_feed x (length (y ∷ xs)) (position_or_len is_feed (y ∷ xs)) e in
    ap (λ v. cond v ((10 ∷ []) ∷ lines_of (y ∷ xs)) (onto_first x (lines_of (y ∷ xs)))) r.0 ∙ ap (onto_first x) (one_line (y ∷ xs) (omega arith) r.1)

none_whole : (bytes : List ℕ) → position is_feed bytes ≡ None → length bytes ≤ position_or_len is_feed bytes
none_whole bytes e = by (position_or_len is_feed bytes) (length bytes) e
  where
    by : (n m : ℕ) → cond (ltb n m) (Some n) None ≡ None → m ≤ n
    by n m = elim (ltb n m) as (λ v. (v ≡ ltb n m) → cond v (Some n) None ≡ None → m ≤ n) [
      | true ↦ λ is h. cc
      | false ↦ λ is h. grind (arith, nat_tests)
    ] refl

-- no line feed: all is one line
pub line_whole : (bytes : List ℕ) → 0 < length bytes → position is_feed bytes ≡ None → lines_of bytes ≡ take (length bytes) bytes ∷ lines_of (drop (length bytes) bytes)
line_whole bytes h e =
    one_line bytes h (none_whole bytes e)
    ∙ ap (λ l. l ∷ []) (sym (take_all (length bytes) bytes (omega arith)))
    ∙ ap (λ xs. take (length bytes) bytes ∷ lines_of xs) (sym (drop_all (length bytes) bytes (omega arith)))

-- ---- one line more

module _ (bytes l rest : List ℕ) (e : lines_of bytes ≡ l ∷ lines_of rest) where
  abbrev pub more : List ℕ
  more = (split_parts (lines_of rest)).0

  abbrev pub Split : Type 0
  Split = List ℕ × List (List ℕ)

  abbrev pub by_tests : Bool → Bool → Split
  by_tests b d = cond b ([], (l ++ more) ∷ parts rest) (cond d (l, parts rest) (l ++ more, parts rest))

  split_is : (b d : Bool) → begins_part l ≡ b → ends_part l ≡ d → split_parts (lines_of bytes) ≡ by_tests b d
  split_is b d h k = ap split_parts e ∙ ap (λ v. by_tests v (ends_part l)) h ∙ ap (by_tests b) k

  pub first_is : first_line bytes ≡ l
  first_is = ap (λ ls. get_or ls 0 []) e

  -- a line that begins no part is passed over
  pub passed : begins_part l ≡ false → parts bytes ≡ parts rest
  passed h = ap (λ (p : Split). p.1) (split_is false (ends_part l) h refl) ∙ by (ends_part l)
    where
      by : (b : Bool) → (by_tests false b).1 ≡ parts rest
      by true = refl
      by false = refl

  -- a line that begins one is its first
  pub begun : (tail : List ℕ) (others : List (List ℕ)) → begins_part l ≡ true → split_parts (lines_of rest) ≡ (tail, others) → parts bytes ≡ (l ++ tail) ∷ others
  begun tail others h k = ap (λ (p : Split). p.1) (split_is true (ends_part l) h refl) ∙ ap (λ (p : Split). (l ++ p.0) ∷ p.1) k

  -- what belongs to a part that began before
  pub ended : begins_part l ≡ false → ends_part l ≡ true → split_parts (lines_of bytes) ≡ (l, parts rest)
  ended h k = split_is false true h k

  pub longer : begins_part l ≡ false → ends_part l ≡ false → split_parts (lines_of bytes) ≡ (l ++ more, parts rest)
  longer h k = split_is false false h k

-- ---- where the parts are

-- the tail of a part that began before the bytes goes at least to the place
abbrev pub ReachesTo : List ℕ → ℕ → Type 0
ReachesTo bytes at = split_parts (lines_of bytes) ≡ (take at bytes ++ (split_parts (lines_of (drop at bytes))).0, parts (drop at bytes))

module _ (bytes rest : List ℕ) (at n : ℕ) (r : rest ≡ drop at bytes) (e : lines_of rest ≡ take n rest ∷ lines_of (drop n rest)) where
  next : drop n rest ≡ drop (at + n) bytes
  next = ap (drop n) r ∙ drop-drop n at bytes

  front : take at bytes ++ take n rest ≡ take (at + n) bytes
  front = ap (λ xs. take at bytes ++ take n xs) r ∙ sym (take-add at n bytes)

  abbrev behind : List ℕ × List (List ℕ) → List ℕ × List (List ℕ)
  behind p = (take at bytes ++ p.0, p.1)

  reached : ReachesTo bytes at → split_parts (lines_of bytes) ≡ behind (split_parts (lines_of rest))
  reached was = was ∙ ap (λ xs. behind (split_parts (lines_of xs))) (sym r)

  pub ended_at : begins_part (take n rest) ≡ false → ends_part (take n rest) ≡ true → ReachesTo bytes at
      → split_parts (lines_of bytes) ≡ (take (at + n) bytes, parts (drop (at + n) bytes))
  ended_at h k was =
      reached was ∙ ap behind (ended rest (take n rest) (drop n rest) e h k)
      ∙ (λ i. (front i, parts (next i)))

  pub longer_at : begins_part (take n rest) ≡ false → ends_part (take n rest) ≡ false → ReachesTo bytes at → ReachesTo bytes (at + n)
  longer_at h k was =
      reached was ∙ ap behind (longer rest (take n rest) (drop n rest) e h k)
      ∙ ap (λ xs. let q : List ℕ × List (List ℕ) = (xs, parts (drop n rest)) in q) (sym (append_assoc (take at bytes) (take n rest) (split_parts (lines_of (drop n rest))).0))
      ∙ (λ i. (front i ++ (split_parts (lines_of (next i))).0, parts (next i)))

-- a part from its first line on
pub whole_part : (bytes : List ℕ) (n k : ℕ) → lines_of bytes ≡ take n bytes ∷ lines_of (drop n bytes) → begins_part (first_line bytes) ≡ true
    → split_parts (lines_of (drop n bytes)) ≡ (take k (drop n bytes), parts (drop k (drop n bytes))) → parts bytes ≡ take (n + k) bytes ∷ parts (drop (n + k) bytes)
whole_part bytes n k e h t =
    begun bytes (take n bytes) (drop n bytes) e _ _ (ap begins_part (sym (first_is bytes (take n bytes) (drop n bytes) e)) ∙ h) t
    ∙ ap (λ xs. xs ∷ parts (drop k (drop n bytes))) (sym (take-add n k bytes))
    ∙ ap (λ xs. take (n + k) bytes ∷ parts xs) (drop-drop k n bytes)
