-- Boundaries of simplices and of cross-polytopes.
use Rattle.std.proofs.Common.{◌≡◌, ℕ, zero, suc, ◌+◌, ◌*◌, ◌≤◌, ◌<◌, true, not, List, [], ◌∷◌, ◌++◌, map, length, length-append, refl, sym, ap, ◌∙◌, subst, inl, inr, arith, add-one}
use Rattle.std.specs.Bool.{IsTrue}
use Rattle.std.specs.Prelude.{◌==◌}
use Rattle.std.specs.Ordering.{nat_cmp}
use Rattle.std.specs.List.{range_with_len}
use Rattle.std.proofs.lemmas.List.FromFn.{length-range_with_len}
use Rattle.simplex.specs.Simplex.{is_label, is_simplex, without}
use Rattle.simplex.proofs.Filled.{simplex_from}
use Rattle.simplex.proofs.Members.{In, first, later, cases, none, all_from, from_map, from_flat_map, in_either}
use Rattle.simplex.proofs.SimplexLaws.{is_increasing-filter, above_at, rest_increasing, front_increasing, from_without}
use Rattle.simplex.proofs.Ranges.{from_range, range_rising}
use Rattle.facet_set.specs.Complex.{generated}
use Rattle.facet_set.proofs.ComplexLaws.{is_set}
use Rattle.facet_set.proofs.FlipLaws.{length-without}
use Rattle.facet_set.proofs.MapLaws.{one_length}
use Rattle.constructions.specs.Spheres.{bdsimplex, bdcross, one_of_each}
use Rattle.constructions.proofs.NumberLaws.{is_labelled}

-- ---- ranges
pub range_more : (a n : ℕ) → range_with_len a n ++ (a + n) ∷ [] ≡ range_with_len a (n + 1)
range_more a n = grow a n ∙ ap (range_with_len a) (sym (add-one n))
  where
    grow : (a n : ℕ) → range_with_len a n ++ (a + n) ∷ [] ≡ range_with_len a (suc n)
    grow a zero = let e : a + 0 ≡ a = omega arith in λ i. e i ∷ []
    grow a (suc n) = let e : a + suc n ≡ (a + 1) + n = omega arith in ap (λ l. a ∷ l) (ap (λ b. range_with_len (a + 1) n ++ b ∷ []) e ∙ grow (a + 1) n)

-- ---- the boundary of a simplex
without_length : (d a : ℕ) → In a (range_with_len 1 (d + 1)) → length (without (range_with_len 1 (d + 1)) a) ≡ d
without_length d a i =
    let less = length-without a (range_with_len 1 (d + 1)) (range_rising 1 (d + 1)) i in
    let whole = length-range_with_len 1 (d + 1) in
    omega arith

without_set : (d a : ℕ) → is_set (without (range_with_len 1 (d + 1)) a) ≡ true
without_set d a = is_increasing-filter nat_cmp (λ b. not (a == b)) (range_with_len 1 (d + 1)) (range_rising 1 (d + 1))

pub without_simplex : (d a : ℕ) → d ≤ 12 → In a (range_with_len 1 (d + 1)) → IsTrue (is_simplex (without (range_with_len 1 (d + 1)) a))
without_simplex d a h i =
    let size = without_length d a i in
    simplex_from (without (range_with_len 1 (d + 1)) a) (omega arith)
    (all_from is_label (without (range_with_len 1 (d + 1)) a) (λ b j. let q = from_range 1 (d + 1) b (from_without (range_with_len 1 (d + 1)) a b j).0 in is_labelled b (omega (arith, q.0)) (omega (arith, q.1))))
    (without_set d a)

pub generated_bdsimplex : (d : ℕ) → generated (map (without (range_with_len 1 (d + 1))) (range_with_len 1 (d + 1))) ≡ bdsimplex d
generated_bdsimplex d =
    one_length (map (without all) all) d
    (all_from is_set (map (without all) all) (λ s i. let r = from_map (without all) s all i in ap is_set r.2 ∙ without_set d r.0))
    (λ s i. let r = from_map (without all) s all i in ap length r.2 ∙ without_length d r.0 r.1)
  where
    all : List ℕ
    all = range_with_len 1 (d + 1)

-- ---- the boundary of a cross-polytope
pub record IsLevel (d : ℕ) (s : List ℕ) : Type 0 where
  pub long : length s ≡ d
  pub up : is_set s ≡ true
  pub labels : (a : ℕ) → In a s → (1 ≤ a) × (a ≤ 2 * d)

up_end : (s : List ℕ) (b : ℕ) → is_set s ≡ true → ((a : ℕ) → In a s → a < b) → is_set (s ++ b ∷ []) ≡ true
up_end [] b h f = refl
up_end (x ∷ s) b h f =
    front_increasing x (s ++ b ∷ []) (λ c i. elim (in_either c s (b ∷ []) i) [
      | inl j ↦ above_at x s c h j
      | inr j ↦ elim (cases j) [ inl e ↦ (let l = f x first in omega (arith, l, e)) | inr k ↦ absurd (none c k) ]
    ]) (up_end s b (rest_increasing x s h) (λ a i. f a (later i)))

pub next_level : (d : ℕ) (s : List ℕ) (b : ℕ) → IsLevel d s → 2 * d + 1 ≤ b → b ≤ 2 * d + 2 → IsLevel (suc d) (s ++ b ∷ [])
next_level d s b h l u = record {
  long = let whole = length-append s (b ∷ []) in omega (arith, h.long);
  up = up_end s b h.up (λ a i. let q = h.labels a i in omega (arith, q.1));
  labels = λ a i. elim (in_either a s (b ∷ []) i) [
    | inl j ↦ let q = h.labels a j in (q.0, omega (arith, q.1))
    | inr j ↦ elim (cases j) [ inl e ↦ (omega arith, omega arith) | inr k ↦ absurd (none a k) ]
  ];
}

pub level : (d : ℕ) (s : List ℕ) → In s (one_of_each d) → IsLevel d s
level zero s i = elim (cases i) [
  | inl e ↦ subst (λ t. IsLevel 0 t) (sym e) (record { long = refl; up = refl; labels = λ a j. absurd (none a j) })
  | inr j ↦ absurd (none s j)
]
level (suc d) s i =
    let r = from_flat_map (λ s. (s ++ (2 * d + 1) ∷ []) ∷ (s ++ (2 * d + 2) ∷ []) ∷ []) s (one_of_each d) i in
    elim (cases r.2) [
      | inl e ↦ subst (λ t. IsLevel (suc d) t) (sym e) (next_level d r.0 (2 * d + 1) (level d r.0 r.1) (omega arith) (omega arith))
      | inr j ↦ elim (cases j) [
        | inl e ↦ subst (λ t. IsLevel (suc d) t) (sym e) (next_level d r.0 (2 * d + 2) (level d r.0 r.1) (omega arith) (omega arith))
        | inr k ↦ absurd (none s k)
      ]
    ]

pub level_simplex : (d : ℕ) (s : List ℕ) → d ≤ 12 → IsLevel d s → IsTrue (is_simplex s)
level_simplex d s h l = simplex_from s (omega (arith, l.long)) (all_from is_label s (λ a i. let q = l.labels a i in is_labelled a q.0 (omega (arith, q.1)))) l.up

pub both_follow : (d i : ℕ) (s : List ℕ) → d ≤ 12 → i < d → In s (one_of_each i) → IsTrue (is_simplex (s ++ (2 * i + 1) ∷ [])) × IsTrue (is_simplex (s ++ (2 * i + 1 + 1) ∷ []))
both_follow d i s h l j = (
  level_simplex (suc i) (s ++ (2 * i + 1) ∷ []) (omega arith) (next_level i s (2 * i + 1) (level i s j) (omega arith) (omega arith)),
  level_simplex (suc i) (s ++ (2 * i + 1 + 1) ∷ []) (omega arith) (next_level i s (2 * i + 1 + 1) (level i s j) (omega arith) (omega arith)),
)

pub generated_bdcross : (d : ℕ) → generated (one_of_each d) ≡ bdcross d
generated_bdcross d = one_length (one_of_each d) d (all_from is_set (one_of_each d) (λ s i. (level d s i).up)) (λ s i. (level d s i).long)
