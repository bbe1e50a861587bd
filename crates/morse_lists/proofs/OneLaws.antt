-- A complex has one greedy list.
use Rattle.std.proofs.Common.{◌≡◌, ℕ, Bool, true, List, [], ◌∷◌, length, refl, sym, ap, ◌∙◌, subst, inl, inr, arith}
use mathlib.Core.Bool.{true≢false}
use Rattle.std.specs.Prelude.{◌==◌, ◌⊎◌, Some, not}
use Rattle.std.specs.Bool.{IsTrue}
use Rattle.std.specs.List.{list_all}
use Rattle.std.proofs.lemmas.Cmp.{nat_list_cmp_total}
use Rattle.simplex.specs.Simplex.{is_simplex}
use Rattle.simplex.proofs.InOrderLaws.{and_left, and_right}
use Rattle.simplex.proofs.Members.{is_member_at, all_at}
use Rattle.simplex.proofs.Decided.{equal_at}
use Rattle.facet_set.specs.Complex.{stands_in}
use Rattle.facet_set.specs.Facets.{IsFacets}
use Rattle.facet_set.proofs.ComplexLaws.{exact, in_faces, sets_of}
use Rattle.simplex.proofs.Filled.{rising_of}
use Rattle.collapse_moves.specs.Collapses.{partner, is_free}
use Rattle.collapse_moves.proofs.CollapseLaws.{free_face}
use Rattle.morse_lists.specs.declared.morse_step.MorseStep.{MorseStep}
use Rattle.morse_lists.specs.Greedy.{IsFirst, IsGreedyCollapse, IsGreedyDrop, IsGreedyList, GreedyIsOne}
use Rattle.morse_lists.specs.Morse.{is_bare, is_top, after_step}
use Rattle.morse_lists.proofs.MorseLaws.{bare_face}
use Rattle.morse_lists.proofs.QueueLaws.{unordered}
use Rattle.morse_lists.proofs.StepLaws.{step_facets}

-- one simplex alone is the first
one_first : (test : List ℕ → Bool) (s t : List ℕ) → IsTrue (is_simplex s) → IsTrue (is_simplex t) → IsFirst test s → IsFirst test t → s ≡ t
one_first test s t u w f g =
    let low = f.longest t w g.passes in
    let high = g.longest s u f.passes in
    let same : length s ≡ length t = omega (arith, low, high) in
    unordered s t (g.least s u f.passes same) (f.least t w g.passes (sym same))

step_same : (a b c d : List ℕ) → a ≡ c → b ≡ d → (let x : MorseStep = record { low = a; high = b } in x) ≡ (let y : MorseStep = record { low = c; high = d } in y)
step_same a b c d e f = λ i. record { low = e i; high = f i }

-- one step alone is greedy
one_step : (c : List (List ℕ)) (m n : MorseStep) → IsTrue (is_simplex m.low) → IsTrue (is_simplex n.low) → IsGreedyCollapse c m ⊎ IsGreedyDrop c m → IsGreedyCollapse c n ⊎ IsGreedyDrop c n → m ≡ n
one_step c m n u w g h = elim g [
  | inl a ↦ elim h [
    | inl b ↦
        let one = one_first (is_free c) m.low n.low u w a.free b.free in
        let high : Some m.high ≡ Some n.high = sym a.partner ∙ ap (partner c) one ∙ b.partner in
        step_same m.low m.high n.low n.high one (value m.high n.high high)
    | inr b ↦ absurd (true≢false (sym a.free.passes ∙ b.none m.low u))
  ]
  | inr a ↦ elim h [
    | inl b ↦ absurd (true≢false (sym b.free.passes ∙ a.none n.low w))
    | inr b ↦ let one = one_first (is_top c) m.low n.low u w a.top b.top in step_same m.low m.high n.low n.high one (a.one ∙ one ∙ sym b.one)
  ]
]
  where
    value : (s t : List ℕ) → Some s ≡ Some t → s ≡ t
    value s t e = cc

-- no step is greedy where no nonempty face is left
no_step : (c : List (List ℕ)) (m : MorseStep) → IsFacets c → IsTrue (is_simplex m.low) → is_bare c ≡ true → IsGreedyCollapse c m ⊎ IsGreedyDrop c m → ⊥
no_step c m h u b g = elim g [
  | inl a ↦
      let i = in_faces c m.low (sets_of c h.simplices) (rising_of m.low u) (free_face c m.low h a.free.passes) in
      empty m.low (bare_face c m.low h b i) (and_left (not (length m.low == 0)) _ a.free.passes)
  | inr a ↦
      let stands : stands_in c m.low ≡ true = and_right (not (length m.low == 0)) _ a.top.passes in
      empty m.low (equal_at (length m.low) 0 (all_at (λ s. length s == 0) m.low c b (is_member_at nat_list_cmp_total exact m.low c stands))) (and_left (not (length m.low == 0)) _ a.top.passes)
]
  where
    empty : (s : List ℕ) → length s ≡ 0 → not (length s == 0) ≡ true → ⊥
    empty s e f = true≢false (sym f ∙ ap (λ n. not (n == 0)) e)

one_list : (ms ns : List MorseStep) (c : List (List ℕ)) → IsFacets c → list_all (λ m. is_simplex m.low) ms ≡ true → list_all (λ m. is_simplex m.low) ns ≡ true → IsGreedyList c ms → IsGreedyList c ns → ms ≡ ns
one_list [] [] c h u w g k = refl
one_list [] (n ∷ ns) c h u w g k = absurd (no_step c n h (and_left _ _ w) g k.0)
one_list (m ∷ ms) [] c h u w g k = absurd (no_step c m h (and_left _ _ u) k g.0)
one_list (m ∷ ms) (n ∷ ns) c h u w g k =
    let one : m ≡ n = one_step c m n (and_left _ _ u) (and_left _ _ w) g.0 k.0 in
    ap (λ x. x ∷ ms) one
    ∙ ap (λ l. n ∷ l) (one_list ms ns (after_step c n) (step_facets c n h) (and_right (is_simplex m.low) _ u) (and_right (is_simplex n.low) _ w) (subst (λ x. IsGreedyList (after_step c x) ms) one g.1) k.1)

pub one_lem : GreedyIsOne
one_lem c ms ns h x u w g k = one_list ms ns c (record { simplices = h; complex = x }) u w g k
