-- Tests one after another.
use Rattle.std.proofs.Common.{◌≡◌, ℕ, zero, suc, ◌+◌, ◌≤◌, ◌<◌, Bool, true, false, cond, List, [], ◌∷◌, ◌++◌, length, get_or, drop, add-one, refl, sym, ap, ◌∙◌, arith, Some, None}
use Rattle.std.proofs.Math.Seq.{drop-cons}
use Rattle.std.specs.Prelude.{◌==◌}
use Rattle.simplex.specs.FirstFailing.{first_failing}
use Rattle.facet_set.specs.Flips.{goes, after, is_simplex_boundary, same_facets}
use Rattle.facet_set.proofs.FacetLaws.{lists_at, lists_itself}
use Rattle.facet_set.proofs.FlipLaws.{same_list}
use Rattle.facet_set.proofs.GeneratedLaws.{same}
use Rattle.std.specs.Cmp.Lexicographic.{pointwise}
use Rattle.std.proofs.lemmas.Cmp.{nat_list_cmp_total, lists_total}
use Rattle.simplex.proofs.InOrderLaws.{itself, and_left, and_right, and_both}
use Rattle.std.specs.List.{list_all}
use Rattle.simplex.specs.Simplex.{is_label}
use Rattle.simplex.proofs.Decided.{agree, false_from, equal_at}
use Rattle.flip_certificate.specs.Count.{stopped}
use Rattle.flip_certificate.specs.Lines.{is_pair}
use Rattle.flip_certificate.specs.declared.block.Block.{Block}
use Rattle.flip_certificate.specs.Valid.{Faults, block_tests, sphere_tests, vertex_link, flips_that_go, first_difference}

split_at : (bs : List Block) (i : ℕ) (b d : Block) → i < length bs → b ≡ get_or bs i d → drop i bs ≡ b ∷ drop (i + 1) bs
split_at bs i b d h e = drop-cons bs i d h ∙ ap (λ n. get_or bs i d ∷ drop n bs) (sym (add-one i)) ∙ ap (λ x. x ∷ drop (i + 1) bs) (sym e)

module _ {F : Type 0} where
  pub passes : (p : Bool) (f : F) (ts : List (Bool × F)) → p ≡ true → first_failing ((p, f) ∷ ts) ≡ first_failing ts
  passes p f ts h = ap (λ v. cond v (first_failing ts) (Some f)) h

  pub fails : (p : Bool) (f : F) (ts : List (Bool × F)) → p ≡ false → first_failing ((p, f) ∷ ts) ≡ Some f
  fails p f ts h = ap (λ v. cond v (first_failing ts) (Some f)) h

  pub passes_on : (ts us : List (Bool × F)) → first_failing ts ≡ None → first_failing (ts ++ us) ≡ first_failing us
  passes_on [] us h = refl
  passes_on (t ∷ ts) us h =
      elim (t.0) as (λ v. cond v (first_failing ts) (Some t.1) ≡ None → cond v (first_failing (ts ++ us)) (Some t.1) ≡ first_failing us) [
        | true ↦ λ k. passes_on ts us k
        | false ↦ λ k. cc
      ] h

  pub fails_on : (ts us : List (Bool × F)) (f : F) → first_failing ts ≡ Some f → first_failing (ts ++ us) ≡ Some f
  fails_on [] us f h = cc
  fails_on (t ∷ ts) us f h =
      elim (t.0) as (λ v. cond v (first_failing ts) (Some t.1) ≡ Some f → cond v (first_failing (ts ++ us)) (Some t.1) ≡ Some f) [
        | true ↦ λ k. fails_on ts us f k
        | false ↦ λ k. k
      ] h

  -- a number of flips before that is stopped serves as the number itself
  pub same_blocks : (faults : Faults F) (m n : ℕ) (c : List (List ℕ)) (bs : List Block) → stopped m ≡ stopped n → block_tests faults m c bs ≡ block_tests faults n c bs
  same_blocks faults m n c [] h = refl
  same_blocks faults m n c (b ∷ bs) h =
      let link : List (List ℕ) = vertex_link c b.vertex in
      let k : ℕ = flips_that_go link b.flips in
      let stuck : stopped (m + k + 1) ≡ stopped (n + k + 1) = omega arith in
      let more : stopped (m + length b.flips) ≡ stopped (n + length b.flips) = omega arith in
      ap (λ s. (goes link b.flips, faults.at_flip s) ∷ (is_simplex_boundary (after link b.flips), faults.at_end b.vertex) ∷ block_tests faults (m + length b.flips) c bs) stuck
      ∙ ap (λ r. sphere_tests faults n b.vertex link b.flips ++ r) (same_blocks faults (m + length b.flips) (n + length b.flips) c bs more)

  -- the blocks from the next on, where the tests of one have passed
  pub next_blocks : (faults : Faults F) (c : List (List ℕ)) (bs : List Block) (i before more : ℕ) (b d : Block) → i < length bs → b ≡ get_or bs i d
      → first_failing (sphere_tests faults before b.vertex (vertex_link c b.vertex) b.flips) ≡ None → more ≡ stopped (before + length b.flips)
      → first_failing (block_tests faults before c (drop i bs)) ≡ first_failing (block_tests faults more c (drop (i + 1) bs))
  next_blocks faults c bs i before more b d h e ok s =
      let same : stopped (before + length b.flips) ≡ stopped more = omega arith in
      ap (λ l. first_failing (block_tests faults before c l)) (split_at bs i b d h e)
      ∙ passes_on (sphere_tests faults before b.vertex (vertex_link c b.vertex) b.flips) (block_tests faults (before + length b.flips) c (drop (i + 1) bs)) ok
      ∙ ap (λ l. first_failing l) (same_blocks faults (before + length b.flips) more c (drop (i + 1) bs) same)

  pub stuck_block : (faults : Faults F) (c : List (List ℕ)) (bs : List Block) (i before : ℕ) (b d : Block) (f : F) → i < length bs → b ≡ get_or bs i d
      → first_failing (sphere_tests faults before b.vertex (vertex_link c b.vertex) b.flips) ≡ Some f → first_failing (block_tests faults before c (drop i bs)) ≡ Some f
  stuck_block faults c bs i before b d f h e out =
      ap (λ l. first_failing (block_tests faults before c l)) (split_at bs i b d h e)
      ∙ fails_on (sphere_tests faults before b.vertex (vertex_link c b.vertex) b.flips) (block_tests faults (before + length b.flips) c (drop (i + 1) bs)) f out

-- ---- the first place at which two lists differ
step_of : (xs ys : List ℕ) (i : ℕ) → i < length xs → i < length ys
    → first_difference (drop i xs) (drop i ys) ≡ cond (get_or xs i 0 == get_or ys i 0) (1 + first_difference (drop (i + 1) xs) (drop (i + 1) ys)) 1
step_of xs ys i h k = λ j. first_difference (drop_at xs h j) (drop_at ys k j)
  where
    drop_at : (zs : List ℕ) → i < length zs → drop i zs ≡ get_or zs i 0 ∷ drop (i + 1) zs
    drop_at zs l = drop-cons zs i 0 l ∙ ap (λ n. get_or zs i 0 ∷ drop n zs) (sym (add-one i))

pub differ_here : (xs ys : List ℕ) (i : ℕ) → i < length xs → i < length ys → (get_or xs i 0 ≡ get_or ys i 0 → ⊥) → first_difference (drop i xs) (drop i ys) ≡ 1
differ_here xs ys i h k f = step_of xs ys i h k ∙ ap (λ v. cond v (1 + first_difference (drop (i + 1) xs) (drop (i + 1) ys)) 1) (false_from (get_or xs i 0 == get_or ys i 0) (λ e. f (equal_at _ _ e)))

past : (xs : List ℕ) (n : ℕ) → length xs ≤ n → drop n xs ≡ []
past [] zero h = refl
past [] (suc n) h = refl
past (x ∷ xs) zero h = absurd (omega arith)
past (x ∷ xs) (suc n) h = past xs n (omega arith)

no_more : (xs : List ℕ) → first_difference xs [] ≡ 1
no_more [] = refl
no_more (x ∷ xs) = refl

pub first_ends : (xs ys : List ℕ) (i : ℕ) → length xs ≤ i → first_difference (drop i xs) (drop i ys) ≡ 1
first_ends xs ys i h = ap (λ l. first_difference l (drop i ys)) (past xs i h)

pub second_ends : (xs ys : List ℕ) (i : ℕ) → length ys ≤ i → first_difference (drop i xs) (drop i ys) ≡ 1
second_ends xs ys i h = ap (first_difference (drop i xs)) (past ys i h) ∙ no_more (drop i xs)

pub found_at : (n k whole : ℕ) → whole ≡ n + k → k ≡ 1 → n + 1 ≡ whole
found_at n k whole h e = omega arith

-- lists of facets that are equal
pub same_is_same : (c d : List (List ℕ)) → pointwise same c d ≡ same_facets c d
same_is_same c d = agree (pointwise same c d) (same_facets c d)
    (λ h. ap (λ x. same_facets x d) (lists_at c d h) ∙ itself (lists_total nat_list_cmp_total) d)
    (λ h. ap (λ x. pointwise same x d) (same_list c d h) ∙ lists_itself d)

-- the second numbers of pairs of labels
pub second_labels : (m : List (ℕ × ℕ)) → list_all is_pair m ≡ true → list_all (λ (p : ℕ × ℕ). is_label p.1) m ≡ true
second_labels [] h = refl
second_labels (p ∷ m) h = and_both _ _ (and_right (is_label p.0) _ (and_left _ _ h)) (second_labels m (and_right (is_pair p) _ h))
