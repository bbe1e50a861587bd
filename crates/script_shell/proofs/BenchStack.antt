-- The stacked sphere of a bench meets each condition of its assignment and of the walk from it.
use Rattle.std.proofs.Common.{◌≡◌, ℕ, ◌<◌, ◌≤◌, ◌+◌, ◌-◌, ◌*◌, ◌^◌, true, ◌&&◌, List, [], ◌∷◌, length, sym, ap, ◌∙◌, subst, arith, mul-le-mul}
use Rattle.std.specs.Prelude.{nat_le, nat_lt}
use Rattle.std.specs.List.{flat_map, range_with_len}
use Rattle.std.specs.FinMap.{nat_cmp-IsAntisymmetric}
use Rattle.std.proofs.lemmas.Bool.{ltb-true, leb-true, le-leb, lt-ltb}
use Rattle.std.proofs.lemmas.Cmp.{nat_cmp_total}
use Rattle.std.proofs.lemmas.List.FromFn.{length-range_with_len}
use Rattle.simplex.specs.Simplex.{label_limit, len_limit}
use Rattle.simplex.proofs.InOrderLaws.{and_left, and_right, and_both, is_increasing-in_order}
use Rattle.simplex.proofs.Members.{In, none, same_sets}
use Rattle.simplex.proofs.Ranges.{in_range, from_range, range_rising}
use Rattle.facet_set.specs.Complex.{verts}
use Rattle.facet_set.specs.Numbers.{is_pure, size, weight, weight_limit}
use Rattle.facet_set.proofs.FlipLaws.{pure_from}
use Rattle.facet_set.proofs.OptionLaws.{in_verts, from_verts}
use Rattle.annealer.specs.Budget.{is_in_budget, most_facets as most_on_walk}
use Rattle.constructions.specs.Stacked.{stacked}
use Rattle.constructions.proofs.LevelLaws.{level_size, level_weight}
use Rattle.constructions.proofs.StackedLaws.{IsStack, stacked_stack, stacked_weight}
use Rattle.script_shell.specs.Bench.{bench_limit, is_within, most_facets}

-- ---- the bounds of a bench
pub record IsBench (d n : ℕ) : Type 0 where
  pub low : 1 ≤ d
  pub high : d < 12
  pub flips : n ≤ 100000
  pub weight : most_facets d n * 2 ^ (d + 1) ≤ weight_limit

pub bench_is : (d n : ℕ) → is_within d n ≡ true → IsBench d n
bench_is d n h =
    let fits = nat_le (most_facets d n * 2 ^ (d + 1)) weight_limit in
    let first = and_left (nat_le 1 d && nat_lt d len_limit && nat_le n bench_limit) fits h in
    let dims = and_left (nat_le 1 d && nat_lt d len_limit) (nat_le n bench_limit) first in
    record {
      low = leb-true 1 d (and_left (nat_le 1 d) (nat_lt d len_limit) dims);
      high = ltb-true d 12 (and_right (nat_le 1 d) (nat_lt d len_limit) dims);
      flips = leb-true n 100000 (and_right (nat_le 1 d && nat_lt d len_limit) (nat_le n bench_limit) first);
      weight = leb-true (most_facets d n * 2 ^ (d + 1)) weight_limit (and_right (nat_le 1 d && nat_lt d len_limit && nat_le n bench_limit) fits h);
    }

-- ---- a stacked sphere
verts_are : (d m : ℕ) (c : List (List ℕ)) → IsStack d m c → verts c ≡ range_with_len 1 m
verts_are d m c p =
    same_sets nat_cmp_total nat_cmp-IsAntisymmetric (verts c) (range_with_len 1 m) (is_increasing-in_order nat_cmp_total (flat_map (λ s. s) c)) (range_rising 1 m)
    (λ x i. let r = from_verts c x i in let b = p.labels r.0 x r.1 r.2 in in_range 1 m x b.0 (omega (arith, b.1)))
    (λ x i. let b = from_range 1 m x i in let r = p.covers x b.0 (omega (arith, b.1)) in in_verts c r.0 x r.1 r.2)

-- its numbers
pub record IsSphere (d n : ℕ) (c : List (List ℕ)) : Type 0 where
  pub some : 0 < length c
  pub weight : length c * 2 ^ (d + 1) ≡ (d + 2 + d * n) * 2 ^ (d + 1)
  pub pure : is_pure c ≡ true
  pub size : size c ≡ d + 1
  pub vertices : length (verts c) ≡ d + 2 + n

some_of : (s : List ℕ) (c : List (List ℕ)) → In s c → 0 < length c
some_of s [] i = absurd (none s i)
some_of s (t ∷ c) i = omega arith

pub sphere_is : (d n seed : ℕ) → 1 ≤ d → d + 2 + n ≤ label_limit → IsSphere d n (stacked d n seed)
sphere_is d n seed dim fits =
    let c = stacked d n seed in
    let p = stacked_stack d n seed dim fits in
    let some = p.covers 1 (omega arith) (omega arith) in
    record {
      some = some_of some.0 c some.1;
      weight = sym (level_weight (d + 1) c p.level) ∙ stacked_weight d n seed dim fits;
      pure = pure_from c (d + 1) some.0 some.1 p.level.lengths;
      size = level_size (d + 1) c some.0 some.1 p.level;
      vertices = ap length (verts_are d (d + 2 + n) c p) ∙ length-range_with_len 1 (d + 2 + n);
    }

-- ---- the conditions
module _ (d n seed : ℕ) (b : IsBench d n) where
  fits : d + 2 + n ≤ 1000000
  fits = let h = b.high in let k = b.flips in omega arith

  sphere : IsSphere d n (stacked d n seed)
  sphere = sphere_is d n seed b.low fits

  pub dim_passes : nat_le 1 d ≡ true
  dim_passes = le-leb 1 d b.low

  pub len_passes : nat_le (d + 1) len_limit ≡ true
  len_passes = let h = b.high in le-leb (d + 1) 12 (omega arith)

  pub labels_pass : nat_le (d + 2 + n) label_limit ≡ true
  labels_pass = le-leb (d + 2 + n) 1000000 fits

  pub weight_within : weight (stacked d n seed) ≤ weight_limit
  weight_within =
      let w = stacked_weight d n seed b.low fits in
      let more : d + 2 + d * n ≤ most_facets d n = omega arith in
      let same : 2 ^ (d + 1) ≤ 2 ^ (d + 1) = omega arith in
      let k = mul-le-mul {n₂ = most_facets d n} {m₂ = 2 ^ (d + 1)} more same in
      let h = b.weight in
      omega (arith, w, k, h)

  pub some_facet : nat_lt 0 (length (stacked d n seed)) ≡ true
  some_facet = lt-ltb 0 (length (stacked d n seed)) sphere.some

  pub pure_sphere : is_pure (stacked d n seed) ≡ true
  pure_sphere = sphere.pure

  pub size_passes : nat_le 1 (size (stacked d n seed)) ≡ true
  size_passes = let e = sphere.size in le-leb 1 (size (stacked d n seed)) (omega (arith, e))

  walk_within : most_on_walk (stacked d n seed) n * 2 ^ size (stacked d n seed) ≤ weight_limit
  walk_within =
      let c = stacked d n seed in
      subst (λ k. (length c + (k - 1) * n) * 2 ^ k ≤ weight_limit) (sym sphere.size)
      (subst (λ k. (length c + k * n) * 2 ^ (d + 1) ≤ weight_limit) (less d) (together d n (length c) (2 ^ (d + 1)) weight_limit sphere.weight b.weight))
    where
      less : (d : ℕ) → d ≡ d + 1 - 1
      less d = omega arith

      together : (d n a p l : ℕ) → a * p ≡ (d + 2 + d * n) * p → (d + 2 + 2 * d * n) * p ≤ l → (a + d * n) * p ≤ l
      together d n a p l e h = omega arith

  pub budget_passes : is_in_budget (stacked d n seed) n ≡ true
  budget_passes =
      let v = sphere.vertices in
      let h = b.high in
      let k = b.flips in
      and_both _ _ (le-leb (most_on_walk (stacked d n seed) n * 2 ^ size (stacked d n seed)) weight_limit walk_within)
      (le-leb (length (verts (stacked d n seed)) + n) 1000000 (omega (arith, v)))
