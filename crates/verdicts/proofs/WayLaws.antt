-- Flips of simplices that go from a complex of simplices, one after another, and those of a walk among them.
use Rattle.std.proofs.Common.{◌≡◌, ℕ, zero, suc, ◌+◌, ◌≤◌, Bool, true, false, not, cond, List, [], ◌∷◌, ◌++◌, length, take, refl, ap, ◌∙◌, subst, inl, inr, arith, Option, Some, None}
use Rattle.std.specs.Prelude.{◌==◌}
use Rattle.std.specs.Ordering.{nat_cmp}
use Rattle.std.specs.List.{list_all}
use Rattle.simplex.specs.declared.flip.Flip.{Flip}
use Rattle.simplex.specs.Flip.{inverse}
use Rattle.simplex.specs.Simplex.{is_label, is_simplex, is_disjoint, union, without}
use Rattle.simplex.proofs.Filled.{simplex_from, labels_of, rising_of}
use Rattle.simplex.proofs.InOrderLaws.{and_left, and_right, and_both}
use Rattle.simplex.proofs.Members.{In, all_at, all_from}
use Rattle.simplex.proofs.SimplexLaws.{from_union, from_without, disjoint_at, disjoint_from, is_increasing-filter, is_increasing-union}
use Rattle.facet_set.specs.Complex.{is_complex, verts}
use Rattle.facet_set.specs.Flips.{allowed, flip, is_simplex_boundary, after, goes, undoing}
use Rattle.facet_set.specs.Numbers.{size, is_pure}
use Rattle.facet_set.proofs.ComplexLaws.{is_set}
use Rattle.facet_set.proofs.FlipLaws.{Parts, parts_of, from_ball, from_flip, length-union, length-without, complex_after, small, undoing_lem, flips_back_lem}
use Rattle.flip_certificate.specs.Lines.{is_flip, is_start}
use Rattle.annealer.specs.Walk.{pick, flips_by, walk, has_met, to_goal, goal, facet_counts, place_of_least}
use Rattle.annealer.proofs.PickExists.{verts_after}
use Rattle.annealer.proofs.WalkLaws.{goal_goes}
use Rattle.seeded_words.specs.Words.{words}
use Rattle.verdicts.proofs.PickedFlips.{pick_goes, pick_flip}

-- ---- one flip

module _ (c : List (List ℕ)) (m : Flip) (simple : list_all is_simplex c ≡ true) (cx : is_complex c ≡ true) (fs : is_flip m ≡ true) (ok : allowed c m.a m.b ≡ true) where
  simple_a : is_simplex m.a ≡ true
  simple_a = and_left _ _ fs

  simple_b : is_simplex m.b ≡ true
  simple_b = and_right (is_simplex m.a) _ fs

  parts : Parts c m.a m.b
  parts = parts_of c m.a m.b ok

  come_simplex : (x : ℕ) → In x m.a → (t : List ℕ) → t ≡ union m.b (without m.a x) → is_simplex t ≡ true
  come_simplex x i t e = simplex_from t short labels (ap is_set e ∙ is_increasing-union m.b (without m.a x))
    where
      apart : is_disjoint m.b (without m.a x) ≡ true
      apart = disjoint_from m.b (without m.a x) (λ y k l. disjoint_at m.a m.b y parts.apart (from_without m.a x y l).0 k)

      short : length t ≤ 12
      short =
          let n = ap length e ∙ length-union m.b (without m.a x) (rising_of m.b simple_b) (is_increasing-filter nat_cmp (λ y. not (x == y)) m.a (rising_of m.a simple_a)) apart in
          let l = length-without x m.a (rising_of m.a simple_a) i in
          let s = parts.sizes.2 in
          let f = small c m.a m.b simple cx simple_a simple_b parts in
          bound n l s f
        where
          bound : length t ≡ length m.b + length (without m.a x) → length (without m.a x) + 1 ≡ length m.a → length m.a + length m.b ≡ size c + 1 → size c ≤ 12 → length t ≤ 12
          bound n l s f = omega (arith, n, l, s, f)

      labels : list_all is_label t ≡ true
      labels = all_from is_label t (λ y k. elim (from_union m.b (without m.a x) y (subst (λ u. In y u) e k)) [
        | inl l ↦ all_at is_label y m.b (labels_of m.b simple_b) l
        | inr l ↦ all_at is_label y m.a (labels_of m.a simple_a) (from_without m.a x y l).0
      ])

  pub simple_next : list_all is_simplex (flip c m.a m.b) ≡ true
  simple_next = all_from is_simplex (flip c m.a m.b) (λ t i. elim (from_flip c m.a m.b t i) [
    | inl j ↦ all_at is_simplex t c simple j.0
    | inr j ↦ let r = from_ball m.b m.a t j in come_simplex r.0 r.1 t r.2
  ])

  pub complex_next : is_complex (flip c m.a m.b) ≡ true
  complex_next = complex_after c m.a m.b simple cx simple_a simple_b parts

  -- what the inverse takes out and puts in
  parts_back : Parts (flip c m.a m.b) m.b m.a
  parts_back = parts_of (flip c m.a m.b) m.b m.a (flips_back_lem c m.a m.b simple cx simple_a simple_b ok).0

  pub pure_next : is_pure (flip c m.a m.b) ≡ true
  pure_next = parts_back.pure

  pub size_next : size (flip c m.a m.b) ≡ size c
  size_next = let p = parts_back.sizes.2 in let q = parts.sizes.2 in same p q
    where
      same : length m.b + length m.a ≡ size (flip c m.a m.b) + 1 → length m.a + length m.b ≡ size c + 1 → size (flip c m.a m.b) ≡ size c
      same p q = omega (arith, p, q)

  pub verts_next : length (verts (flip c m.a m.b)) ≤ length (verts c) + 1
  verts_next = verts_after c m.a m.b parts

-- ---- flips one after another

pub simple_way : (c : List (List ℕ)) (ms : List Flip) → list_all is_simplex c ≡ true → is_complex c ≡ true → list_all is_flip ms ≡ true → goes c ms ≡ true → list_all is_simplex (after c ms) ≡ true
simple_way c [] simple cx fs h = simple
simple_way c (m ∷ ms) simple cx fs h =
    let f : is_flip m ≡ true = and_left _ _ fs in
    let ok : allowed c m.a m.b ≡ true = and_left _ _ h in
    simple_way (flip c m.a m.b) ms (simple_next c m simple cx f ok) (complex_next c m simple cx f ok) (and_right (is_flip m) _ fs) (and_right (allowed c m.a m.b) _ h)

complex_way : (c : List (List ℕ)) (ms : List Flip) → list_all is_simplex c ≡ true → is_complex c ≡ true → list_all is_flip ms ≡ true → goes c ms ≡ true → is_complex (after c ms) ≡ true
complex_way c [] simple cx fs h = cx
complex_way c (m ∷ ms) simple cx fs h =
    let f : is_flip m ≡ true = and_left _ _ fs in
    let ok : allowed c m.a m.b ≡ true = and_left _ _ h in
    complex_way (flip c m.a m.b) ms (simple_next c m simple cx f ok) (complex_next c m simple cx f ok) (and_right (is_flip m) _ fs) (and_right (allowed c m.a m.b) _ h)

size_way : (c : List (List ℕ)) (ms : List Flip) → list_all is_simplex c ≡ true → is_complex c ≡ true → list_all is_flip ms ≡ true → goes c ms ≡ true → size (after c ms) ≡ size c
size_way c [] simple cx fs h = refl
size_way c (m ∷ ms) simple cx fs h =
    let f : is_flip m ≡ true = and_left _ _ fs in
    let ok : allowed c m.a m.b ≡ true = and_left _ _ h in
    size_way (flip c m.a m.b) ms (simple_next c m simple cx f ok) (complex_next c m simple cx f ok) (and_right (is_flip m) _ fs) (and_right (allowed c m.a m.b) _ h)
    ∙ size_next c m simple cx f ok

all_append : (l ms : List Flip) → list_all is_flip l ≡ true → list_all is_flip ms ≡ true → list_all is_flip (l ++ ms) ≡ true
all_append [] ms h k = k
all_append (m ∷ l) ms h k = and_both _ _ (and_left _ _ h) (all_append l ms (and_right (is_flip m) _ h) k)

-- the inverses are flips of simplices too
pub undoing_flips : (ms : List Flip) → list_all is_flip ms ≡ true → list_all is_flip (undoing ms) ≡ true
undoing_flips [] h = refl
undoing_flips (m ∷ ms) h =
    let f : is_flip m ≡ true = and_left _ _ h in
    all_append (undoing ms) (inverse m ∷ []) (undoing_flips ms (and_right (is_flip m) _ h)) (and_both _ _ (and_both _ _ (and_right (is_simplex m.a) _ f) (and_left _ _ f)) refl)

take_flips : (n : ℕ) (ms : List Flip) → list_all is_flip ms ≡ true → list_all is_flip (take n ms) ≡ true
take_flips zero ms h = refl
take_flips (suc n) [] h = refl
take_flips (suc n) (m ∷ ms) h = and_both _ _ (and_left _ _ h) (take_flips n ms (and_right (is_flip m) _ h))

-- ---- the flips of a walk

module _ (c : List (List ℕ)) (heat w : ℕ) (ws : List ℕ) (P : List Flip → Type 0) (stop : P []) (next : (p : Flip × ℕ) → pick c heat w ≡ Some p → P (p.0 ∷ flips_by (flip c p.0.a p.0.b) p.1 ws)) where
  -- what holds of no flip and of each that is picked with those after it holds of the flips of the walk
  by_step : P (flips_by c heat (w ∷ ws))
  by_step = by (is_simplex_boundary c)
    where
      picked : (o : Option (Flip × ℕ)) → pick c heat w ≡ o → P (elim o as (λ o. List Flip) [ None ↦ [] | Some p ↦ p.0 ∷ flips_by (flip c p.0.a p.0.b) p.1 ws ])
      picked None e = stop
      picked (Some p) e = next p e

      by : (v : Bool) → P (elim v as (λ t. List Flip) [ true ↦ [] | false ↦ elim (pick c heat w) as (λ o. List Flip) [ None ↦ [] | Some p ↦ p.0 ∷ flips_by (flip c p.0.a p.0.b) p.1 ws ] ])
      by true = stop
      by false = picked (pick c heat w) refl

way_goes : (c : List (List ℕ)) (heat : ℕ) (ws : List ℕ) → goes c (flips_by c heat ws) ≡ true
way_goes c heat [] = refl
way_goes c heat (w ∷ ws) = by_step c heat w ws (λ ms. goes c ms ≡ true) refl (λ p e. and_both _ _ (pick_goes c heat w p e) (way_goes (flip c p.0.a p.0.b) p.1 ws))

way_flips : (c : List (List ℕ)) (heat : ℕ) (ws : List ℕ) → list_all is_simplex c ≡ true → is_complex c ≡ true → list_all is_flip (flips_by c heat ws) ≡ true
way_flips c heat [] simple cx = refl
way_flips c heat (w ∷ ws) simple cx = by_step c heat w ws (λ ms. list_all is_flip ms ≡ true) refl (λ p e.
    let f = pick_flip c heat w p simple e in
    let ok = pick_goes c heat w p e in
    and_both _ _ f (way_flips (flip c p.0.a p.0.b) p.1 ws (simple_next c p.0 simple cx f ok) (complex_next c p.0 simple cx f ok)))

-- ---- the flips to the goal

module _ (c : List (List ℕ)) (budget seed : ℕ) where
  abbrev pub way : List Flip
  way = to_goal c (walk c seed budget)

  pub goal_way : goes c way ≡ true
  goal_way = goal_goes c (walk c seed budget) (way_goes c 0 (words budget seed))

  pub goal_met : has_met c (walk c seed budget) ≡ true → is_simplex_boundary (after c way) ≡ true
  goal_met h = ap (λ v. is_simplex_boundary (after c (cond v (walk c seed budget) (take (place_of_least (facet_counts c (walk c seed budget))) (walk c seed budget))))) h ∙ h

  module _ (start : is_start c ≡ true) where
    simple : list_all is_simplex c ≡ true
    simple = and_left _ _ start

    cx : is_complex c ≡ true
    cx = and_right (list_all is_simplex c) _ start

    pub goal_flips : list_all is_flip way ≡ true
    goal_flips = by (has_met c (walk c seed budget))
      where
        whole : list_all is_flip (walk c seed budget) ≡ true
        whole = way_flips c 0 (words budget seed) simple cx

        by : (v : Bool) → list_all is_flip (cond v (walk c seed budget) (take (place_of_least (facet_counts c (walk c seed budget))) (walk c seed budget))) ≡ true
        by true = whole
        by false = take_flips (place_of_least (facet_counts c (walk c seed budget))) (walk c seed budget) whole

    pub goal_simple : list_all is_simplex (goal c (walk c seed budget)) ≡ true
    goal_simple = simple_way c way simple cx goal_flips goal_way

    pub goal_complex : is_complex (goal c (walk c seed budget)) ≡ true
    goal_complex = complex_way c way simple cx goal_flips goal_way

    pub goal_size : size (goal c (walk c seed budget)) ≡ size c
    goal_size = size_way c way simple cx goal_flips goal_way

    -- the inverses, last first, lead back from the goal
    pub goal_back : (goes (after c way) (undoing way) ≡ true) × (after (after c way) (undoing way) ≡ c)
    goal_back = undoing_lem c way simple cx goal_flips goal_way
