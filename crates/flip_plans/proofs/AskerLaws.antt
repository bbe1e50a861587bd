-- Which faces ask, and what a flip does to them.
use Rattle.std.proofs.Common.{◌≡◌, ℕ, zero, suc, ◌+◌, ◌-◌, ◌<◌, Bool, true, false, not, cond, ltb, ◌&&◌, List, [], ◌∷◌, map, length, Option, Some, None, refl, sym, ap, ◌∙◌, subst, ◌⊎◌, inl, inr, arith}
use mathlib.Core.Bool.{true≢false}
use Rattle.std.specs.Prelude.{◌==◌, is_some}
use Rattle.std.specs.Ordering.{nat_cmp}
use Rattle.std.specs.List.{list_all, filter, filter_map, cons_option}
use Rattle.std.specs.FinMap.{nat_cmp-IsAntisymmetric}
use Rattle.std.proofs.lemmas.Bool.Decides.{nat_tests}
use Rattle.std.proofs.lemmas.Cmp.{nat_cmp_total}
use Rattle.simplex.specs.declared.flip.Flip.{Flip}
use Rattle.simplex.specs.Flip.{inverse}
use Rattle.simplex.specs.Simplex.{has, is_simplex, is_within, is_disjoint, minus, union, without}
use Rattle.simplex.proofs.Decided.{agree, equal_at, false_from, not_true, not_from}
use Rattle.simplex.proofs.Filled.{rising_of}
use Rattle.simplex.proofs.InOrderLaws.{and_left, and_right, and_both}
use Rattle.simplex.proofs.Members.{In, first, later, cases, none, in_filter, from_filter, same_sets}
use Rattle.simplex.proofs.SimplexLaws.{has_at, has_from, within_in, in_within, within_length, in_union, from_union, disjoint_from, from_without, is_increasing-filter, is_increasing-union}
use Rattle.facet_set.specs.Complex.{is_complex, is_face, faces, facets_with, verts}
use Rattle.facet_set.specs.Flips.{allowed, flip, link_vertices, option_of, options}
use Rattle.facet_set.specs.Numbers.{degree, faces_of_size, is_pure, size}
use Rattle.facet_set.specs.Star.{lies_in_join}
use Rattle.facet_set.proofs.ComplexLaws.{is_set, face_at, from_faces, sets_of}
use Rattle.facet_set.proofs.FaceLaws.{face_simplex}
use Rattle.facet_set.proofs.FaceTables.{none_with}
use Rattle.facet_set.proofs.FlipLaws.{Parts, parts_of, allowed_from, from_ball, length-union}
use Rattle.facet_set.proofs.OptionLaws.{from_filter_map, given}
use Rattle.flip_rules.proofs.ExchangeLaws.{star_by_counts_lem}
use Rattle.flip_plans.specs.Askers.{asks, has_option, wanted}
use Rattle.flip_plans.specs.Laws.{AskersCome, AskersGo, AskersStay, OptionsByFaces, OptionsCome, OptionsGo, OptionsPutLinksIn, asks_above}
use Rattle.flip_plans.specs.Turns.{IsAllowed}
use Rattle.flip_plans.proofs.TurnLaws.{back_allowed, back_is, degrees_turn_lem, faces_in_join_lem, from_join, from_link, in_join, in_link, join_back, link_rising, outside_stays_lem, sizes_stay_lem}

-- ---- what asking says
pub record Asking (c : List (List ℕ)) (a : List ℕ) : Type 0 where
  pub pure : is_pure c ≡ true
  pub some : 0 < length a
  pub few : length a < size c
  pub sum : length a + length (link_vertices c a) ≡ size c + 1
  pub count : length a + degree c a ≡ size c + 1

abbrev asks_with : Bool → ℕ → List ℕ → List ℕ → ℕ → Bool
asks_with pure n a up degree = pure && (ltb 0 (length a) && ltb (length a) n) && (length a + length up == n + 1) && (length a + degree == n + 1)

less_at : (m n : ℕ) → ltb m n ≡ true → m < n
less_at m n h = grind (arith, nat_tests)

less_from : (m n : ℕ) → m < n → ltb m n ≡ true
less_from m n h = grind (arith, nat_tests)

equal_from : (m n : ℕ) → m ≡ n → (m == n) ≡ true
equal_from m n h = grind (arith, nat_tests)

pub asks_at : (c : List (List ℕ)) (a : List ℕ) → asks c a ≡ true → Asking c a
asks_at c a h =
    let p : Bool = is_pure c in
    let q : Bool = ltb 0 (length a) && ltb (length a) (size c) in
    let r : Bool = length a + length (link_vertices c a) == size c + 1 in
    let s : Bool = length a + degree c a == size c + 1 in
    let front : (p && q && r) ≡ true = and_left (p && q && r) s h in
    let head : (p && q) ≡ true = and_left (p && q) r front in
    let sized : q ≡ true = and_right p q head in
    record {
      pure = and_left p q head;
      some = less_at 0 (length a) (and_left (ltb 0 (length a)) (ltb (length a) (size c)) sized);
      few = less_at (length a) (size c) (and_right (ltb 0 (length a)) (ltb (length a) (size c)) sized);
      sum = equal_at (length a + length (link_vertices c a)) (size c + 1) (and_right (p && q) r front);
      count = equal_at (length a + degree c a) (size c + 1) (and_right (p && q && r) s h);
    }

pub asks_from : (c : List (List ℕ)) (a : List ℕ) → Asking c a → asks c a ≡ true
asks_from c a k =
    and_both _ _
    (and_both _ _ (and_both _ _ k.pure (and_both _ _ (less_from 0 (length a) k.some) (less_from (length a) (size c) k.few))) (equal_from (length a + length (link_vertices c a)) (size c + 1) k.sum))
    (equal_from (length a + degree c a) (size c + 1) k.count)

-- ---- options, face by face
link_apart : (c : List (List ℕ)) (a : List ℕ) → is_disjoint a (link_vertices c a) ≡ true
link_apart c a = disjoint_from a (link_vertices c a) (λ x i j. let r = from_filter (λ x. not (has a x)) x (verts (facets_with c a)) j in true≢false (sym r.1 ∙ ap not (has_from a x i)))

module _ {X Y : Type 0} (f : X → Option Y) where
  shown : (g : Y → X) → ((x : X) (y : Y) → f x ≡ Some y → g y ≡ x) → (xs : List X) → map g (filter_map f xs) ≡ filter (λ x. is_some (f x)) xs
  shown g h [] = refl
  shown g h (x ∷ xs) =
      elim (f x) as (λ r. f x ≡ r → map g (cons_option r (filter_map f xs)) ≡ cond (is_some r) (x ∷ filter (λ x. is_some (f x)) xs) (filter (λ x. is_some (f x)) xs)) [
        | None ↦ λ e. shown g h xs
        | Some y ↦ λ e. let p = h x y e in let q = shown g h xs in cc
      ] refl

filter_same : {X : Type 0} (p q : X → Bool) (xs : List X) → ((x : X) → In x xs → p x ≡ q x) → filter p xs ≡ filter q xs
filter_same p q [] h = refl
filter_same p q (x ∷ xs) h = λ i. cond (h x first i) (x ∷ filter_same p q xs (λ y j. h y (later j)) i) (filter_same p q xs (λ y j. h y (later j)) i)

some_when : {X : Type 0} (v : Bool) (x : X) → is_some (cond v (Some x) None) ≡ v
some_when true x = refl
some_when false x = refl

module _ (c : List (List ℕ)) (j : ℕ) (simple : list_all is_simplex c ≡ true) (cx : is_complex c ≡ true) (a : List ℕ) (sa : is_simplex a ≡ true) (len : length a ≡ size c - suc j) where
  abbrev b : List ℕ
  b = link_vertices c a

  abbrev is_open : Bool
  is_open = allowed c a b && (length b == suc j + 1)

  open_asks : is_open ≡ true → has_option c a ≡ true
  open_asks h =
      let p = parts_of c a b (and_left (allowed c a b) (length b == suc j + 1) h) in
      let n : length b ≡ suc j + 1 = equal_at (length b) (suc j + 1) (and_right (allowed c a b) (length b == suc j + 1) h) in
      let sum = p.sizes.2 in
      let count : degree c a ≡ suc j + 1 = (star_by_counts_lem c a (suc j) simple cx p.pure sa p.sizes.0 (omega arith) n).0 p.star in
      and_both _ _
      (asks_from c a (record { pure = p.pure; some = p.sizes.0; few = omega arith; sum = sum; count = omega arith }))
      (ap not p.absent)

  asks_open : has_option c a ≡ true → is_open ≡ true
  asks_open h =
      let k = asks_at c a (and_left (asks c a) (not (is_face c b)) h) in
      let some = k.some in
      let few = k.few in
      let sum = k.sum in
      let count = k.count in
      let n : length b ≡ suc j + 1 = omega arith in
      and_both _ _
      (allowed_from c a b (record {
        pure = k.pure;
        sizes = (some, omega arith, sum);
        apart = link_apart c a;
        star = (star_by_counts_lem c a (suc j) simple cx k.pure sa some (omega arith) n).1 (omega arith);
        absent = not_true (is_face c b) (and_right (asks c a) (not (is_face c b)) h);
      }))
      (equal_from (length b) (suc j + 1) n)

pub options_by_faces_lem : OptionsByFaces
options_by_faces_lem c zero simple cx above = absurd (omega arith)
options_by_faces_lem c (suc j) simple cx above =
    let xs = faces_of_size c (size c - suc j) in
    shown (option_of c (suc j)) (λ (m : Flip). m.a) (λ a m e.
    let b = link_vertices c a in
    ap (λ (n : Flip). n.a) (sym (given (allowed c a b && (length b == suc j + 1)) (record { a = a; b = b }) m e).1)) xs
    ∙ filter_same (λ a. is_some (option_of c (suc j) a)) (has_option c) xs (λ a i.
    let b = link_vertices c a in
    let r = from_filter (λ s. length s == size c - suc j) a (faces c) i in
    let f = from_faces c a (sets_of c simple) r.0 in
    let sa = face_simplex c a simple f.0 f.1 in
    let len = equal_at (length a) (size c - suc j) r.1 in
    some_when (allowed c a b && (length b == suc j + 1)) (record { a = a; b = b })
    ∙ agree (allowed c a b && (length b == suc j + 1)) (has_option c a) (open_asks c j simple cx a sa len) (asks_open c j simple cx a sa len))

-- the options put the link vertices in
pub options_put_links_in_lem : OptionsPutLinksIn
options_put_links_in_lem c zero above = absurd (omega arith)
options_put_links_in_lem c (suc j) above = remade (options c (suc j)) (λ m i.
    let r = from_filter_map (option_of c (suc j)) m (faces_of_size c (size c - suc j)) i in
    let b = link_vertices c r.0 in
    let e = (given (allowed c r.0 b && (length b == suc j + 1)) (record { a = r.0; b = b }) m r.2).1 in
    sym e ∙ ap (λ (n : Flip). record { a = n.a; b = link_vertices c n.a }) e)
  where
    remade : (ms : List Flip) → ((m : Flip) → In m ms → m ≡ record { a = m.a; b = link_vertices c m.a }) → ms ≡ map (λ a. record { a = a; b = link_vertices c a }) (map (λ (m : Flip). m.a) ms)
    remade [] f = refl
    remade (m ∷ ms) f = λ i. f m first i ∷ remade ms (λ n j. f n (later j)) i

-- ---- outside the join
opposite : (f : Bool) → (not f && not (not f)) ≡ false
opposite true = refl
opposite false = refl

-- of two that do not hold together
second : (x y : Bool) → (x ≡ true → y ≡ true → ⊥) → (not (not y) && not (not (not x))) ≡ y
second true true k = absurd (k refl refl)
second true false k = refl
second false true k = refl
second false false k = refl

module _ (c : List (List ℕ)) (m : Flip) (s : List ℕ) (h : IsAllowed c m) (out : lies_in_join m.a m.b s ≡ false) where
  abbrev d : List (List ℕ)
  d = flip c m.a m.b

  there : Parts c m.a m.b
  there = parts_of c m.a m.b h.parts

  pub asks_stay : asks d s ≡ asks c s
  asks_stay =
      let z = sizes_stay_lem c m h in
      let e = outside_stays_lem c m s h out in
      let pure : is_pure d ≡ is_pure c = z.pure ∙ sym there.pure in
      let size_is = z.size in
      let up = e.up in
      let count = e.degree in
      λ i. asks_with (pure i) (size_is i) s (up i) (count i)

  pub up_stays : link_vertices d s ≡ link_vertices c s
  up_stays = (outside_stays_lem c m s h out).up

  pub askers_stay : wanted d s ≡ wanted c s
  askers_stay = λ i. cond (asks_stay i) (Some (up_stays i)) None

  abbrev asked : List ℕ
  asked = link_vertices c s

  face_outside : lies_in_join m.a m.b asked ≡ false → is_face d asked ≡ is_face c asked
  face_outside e = (outside_stays_lem c m asked h e).face

  -- a set that is asked for has no room for both sets of the flip
  pub not_both : asks c s ≡ true → is_within m.a asked ≡ true → is_within m.b asked ≡ true → ⊥
  not_both k wa wb =
      let q = asks_at c s k in
      let some = q.some in
      let sum = q.sum in
      let sizes = there.sizes.2 in
      let whole = length-union m.a m.b (rising_of m.a h.out) (rising_of m.b h.into) there.apart in
      let fits = within_length (union m.a m.b) asked (is_increasing-union m.a m.b) (link_rising c s)
      (in_within (union m.a m.b) asked (λ x i. elim (from_union m.a m.b x i) [ inl j ↦ within_in m.a asked x wa j | inr j ↦ within_in m.b asked x wb j ])) in
      omega arith

  went : (has_option c s && not (has_option d s)) ≡ asks_above c m m.b s
  went =
      (λ i. (asks c s && not (is_face c asked)) && not (asks_stay i && not (is_face d (up_stays i))))
      ∙ by (asks c s) refl (lies_in_join m.a m.b asked) refl
    where
      by : (v : Bool) → asks c s ≡ v → (l : Bool) → lies_in_join m.a m.b asked ≡ l → ((v && not (is_face c asked)) && not (v && not (is_face d asked))) ≡ (v && (l && is_within m.b asked))
      by false k l e = refl
      by true k false e = (λ i. not (is_face c asked) && not (not (face_outside e i))) ∙ opposite (is_face c asked)
      by true k true e =
          let f = faces_in_join_lem c m asked h e in
          (λ i. not (f.before i) && not (not (f.after i))) ∙ second (is_within m.a asked) (is_within m.b asked) (not_both k)

  came : (has_option d s && not (has_option c s)) ≡ asks_above c m m.a s
  came =
      (λ i. (asks_stay i && not (is_face d (up_stays i))) && not (asks c s && not (is_face c asked)))
      ∙ by (asks c s) refl (lies_in_join m.a m.b asked) refl
    where
      by : (v : Bool) → asks c s ≡ v → (l : Bool) → lies_in_join m.a m.b asked ≡ l → ((v && not (is_face d asked)) && not (v && not (is_face c asked))) ≡ (v && (l && is_within m.a asked))
      by false k l e = refl
      by true k false e = (λ i. not (face_outside e i) && not (not (is_face c asked))) ∙ opposite (is_face c asked)
      by true k true e =
          let f = faces_in_join_lem c m asked h e in
          (λ i. not (f.after i) && not (not (f.before i))) ∙ second (is_within m.b asked) (is_within m.a asked) (λ x y. not_both k y x)

pub askers_stay_lem : AskersStay
askers_stay_lem c m s h out = askers_stay c m s h out

pub options_go_lem : OptionsGo
options_go_lem c m s h out = went c m s h out

pub options_come_lem : OptionsCome
options_come_lem c m s h out = came c m s h out

-- ---- in the join, at sets that A lies in
minus_none : (a s : List ℕ) → is_within a s ≡ true → minus a s ≡ []
minus_none [] s w = refl
minus_none (x ∷ a) s w = ap (λ v. cond (not v) (x ∷ minus a s) (minus a s)) (and_left (has s x) (is_within a s) w) ∙ minus_none a s (and_right (has s x) (is_within a s) w)

module _ (c : List (List ℕ)) (m : Flip) (s : List ℕ) (h : IsAllowed c m) (ss : is_simplex s ≡ true) (inside : lies_in_join m.a m.b s ≡ true) (w : is_within m.a s ≡ true) (few : length s < size c) where
  abbrev after : List (List ℕ)
  after = flip c m.a m.b

  parts : Parts c m.a m.b
  parts = parts_of c m.a m.b h.parts

  abbrev rest : List ℕ
  rest = minus m.b s

  rest_rising : is_set rest ≡ true
  rest_rising = is_increasing-filter nat_cmp (λ x. not (has s x)) m.b (rising_of m.b h.into)

  -- with its labels and those of B beside it, it is the whole join
  sum : length s + length rest ≡ size c + 1
  sum =
      let apart : is_disjoint s rest ≡ true = disjoint_from s rest (λ x i j. let r = from_filter (λ x. not (has s x)) x m.b j in true≢false (sym r.1 ∙ ap not (has_from s x i))) in
      let one = length-union s rest (rising_of s ss) rest_rising apart in
      let two = length-union m.a m.b (rising_of m.a h.out) (rising_of m.b h.into) parts.apart in
      let sizes = parts.sizes.2 in
      let same : union s rest ≡ union m.a m.b = same_sets nat_cmp_total nat_cmp-IsAntisymmetric (union s rest) (union m.a m.b) (is_increasing-union s rest) (is_increasing-union m.a m.b)
      (λ x i. in_union m.a m.b x (elim (from_union s rest x i) [
        | inl j ↦ from_join m.a m.b s x inside j
        | inr j ↦ inr (from_filter (λ x. not (has s x)) x m.b j).0
      ]))
      (λ x i. in_union s rest x (elim (from_union m.a m.b x i) [
        | inl j ↦ inl (within_in m.a s x w j)
        | inr j ↦ elim (has s x) as (λ v. has s x ≡ v → In x s ⊎ In x rest) [
          | true ↦ λ e. inl (has_at s x e)
          | false ↦ λ e. inr (in_filter (λ x. not (has s x)) x m.b j (ap not e))
        ] refl
      ])) in
      let whole = ap length same in
      omega (arith, one, two, sizes, whole)

  no_face : is_face after s ≡ false
  no_face = (faces_in_join_lem c m s h inside).after ∙ ap not w

  no_facets : degree after s ≡ 0
  no_facets = ap length (none_with after s no_face)

  count : degree c s ≡ length rest
  count =
      let e = degrees_turn_lem c m s h inside in
      let z = no_facets in
      let n = ap length (minus_none m.a s w) in
      omega (arith, e, z, n)

  with_in_join : (x : ℕ) → In x m.b → lies_in_join m.a m.b (union s (x ∷ [])) ≡ true
  with_in_join x j = in_join m.a m.b (union s (x ∷ [])) (λ y i. elim (from_union s (x ∷ []) y i) [
    | inl k ↦ from_join m.a m.b s y inside k
    | inr k ↦ elim (cases k) [ inl e ↦ inr (subst (λ z. In z m.b) (sym e) j) | inr n ↦ absurd (none y n) ]
  ])

  -- B has two labels or more beside it
  not_all : (x : ℕ) → is_within m.b (union s (x ∷ [])) ≡ true → ⊥
  not_all x k =
      let one : is_within rest (x ∷ []) ≡ true = in_within rest (x ∷ []) (λ y i.
      let r = from_filter (λ x. not (has s x)) y m.b i in
      elim (from_union s (x ∷ []) y (within_in m.b (union s (x ∷ [])) y k r.0)) [
        | inl j ↦ absurd (true≢false (sym r.1 ∙ ap not (has_from s y j)))
        | inr j ↦ j
      ]) in
      let fits = within_length rest (x ∷ []) rest_rising refl one in
      let n = sum in
      omega arith

  links : link_vertices c s ≡ rest
  links = same_sets nat_cmp_total nat_cmp-IsAntisymmetric (link_vertices c s) rest (link_rising c s) rest_rising
      (λ x i.
      let r = from_link c s x i in
      let t = face_at c (union s (x ∷ [])) r.1 in
      let wide : is_within m.a t.0 ≡ true = in_within m.a t.0 (λ y j. within_in (union s (x ∷ [])) t.0 y t.2 (in_union s (x ∷ []) y (inl (within_in m.a s y w j)))) in
      let ball_at = from_star t.0 (in_filter (is_within m.a) t.0 c t.1 wide) in
      elim (ball_at x (within_in (union s (x ∷ [])) t.0 x t.2 (in_union s (x ∷ []) x (inr first)))) [
        | inl j ↦ absurd (r.0 (within_in m.a s x w j))
        | inr j ↦ in_filter (λ x. not (has s x)) x m.b j (not_from (has s x) (λ e. r.0 (has_at s x e)))
      ])
      (λ x i.
      let r = from_filter (λ x. not (has s x)) x m.b i in
      in_link c s x (λ j. true≢false (sym r.1 ∙ ap not (has_from s x j)))
      ((faces_in_join_lem c m (union s (x ∷ [])) h (with_in_join x r.0)).before ∙ not_from (is_within m.b (union s (x ∷ []))) (not_all x)))
    where
      from_star : (t : List ℕ) → In t (facets_with c m.a) → (x : ℕ) → In x t → In x m.a ⊎ In x m.b
      from_star t i x j =
          let k = from_ball m.a m.b t (subst (λ l. In t l) parts.star i) in
          elim (from_union m.a (without m.b k.0) x (subst (λ u. In x u) k.2 j)) [ inl n ↦ inl n | inr n ↦ inr (from_without m.b k.0 x n).0 ]

  some_labels : 0 < length s
  some_labels =
      let fits = within_length m.a s (rising_of m.a h.out) (rising_of s ss) w in
      let some = parts.sizes.0 in
      omega arith

  asks_before : asks c s ≡ true
  asks_before =
      let n = sum in
      let e = count in
      asks_from c s (record {
        pure = parts.pure;
        some = some_labels;
        few = few;
        sum = ap (λ l. length s + length l) links ∙ n;
        count = omega (arith, n, e);
      })

  asks_no_more : asks after s ≡ false
  asks_no_more = false_from (asks after s) (λ k.
      let q = asks_at after s k in
      let n = q.count in
      let l = q.few in
      let z = no_facets in
      omega arith)

  pub askers_go : (wanted c s ≡ Some (minus m.b s)) × (wanted after s ≡ None)
  askers_go = (λ i. cond (asks_before i) (Some (links i)) None, ap (λ v. cond v (Some (link_vertices after s)) None) asks_no_more)

pub askers_go_lem : AskersGo
askers_go_lem c m s h ss inside w few = askers_go c m s h ss inside w few

pub askers_come_lem : AskersCome
askers_come_lem c m s h ss inside w few =
    let d = flip c m.a m.b in
    let back = back_is c m h.simplices h.complex h.out h.into h.parts in
    let size_is = (sizes_stay_lem c m h).size in
    let r = askers_go d (inverse m) s (back_allowed c m h.simplices h.complex h.out h.into h.parts) ss (join_back m.a m.b s inside) w (omega (arith, few, size_is)) in
    (ap (λ e. wanted e s) (sym back) ∙ r.1, r.0)
