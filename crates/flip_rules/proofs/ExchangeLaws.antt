-- The flips of a class that is not 0, by counting.
use Rattle.std.proofs.Common.{◌≡◌, ℕ, zero, suc, ◌+◌, ◌-◌, ◌^◌, ◌≤◌, ◌<◌, min, leb, ltb, Bool, true, false, not, cond, ◌&&◌, ◌||◌, List, [], ◌∷◌, length, Option, Some, None, refl, sym, ap, ◌∙◌, arith}
use mathlib.Core.Bool.{true≢false}
use Rattle.std.specs.Bool.{IsTrue}
use Rattle.std.specs.Prelude.{◌==◌, is_some}
use Rattle.std.specs.List.{list_all, filter_map, cons_option}
use Rattle.std.proofs.lemmas.Bool.{le-leb}
use Rattle.std.proofs.lemmas.Bool.Decides.{nat_tests}
use Rattle.std.proofs.lemmas.Cmp.{nat_list_cmp_total, lists_total}
use Rattle.simplex.specs.Simplex.{has, is_simplex, is_label, is_within, is_disjoint}
use Rattle.simplex.proofs.Filled.{simplex_from, rising_of, short_of}
use Rattle.simplex.proofs.InOrderLaws.{and_left, and_right, and_both, itself}
use Rattle.simplex.proofs.Members.{In, first, later, all_from, in_filter, from_filter}
use Rattle.simplex.proofs.SimplexLaws.{list_all-filter, disjoint_from, has_from}
use Rattle.simplex.proofs.Decided.{agree, false_from, equal_at, equal_from}
use Rattle.facet_set.specs.Complex.{is_complex, is_face, faces, facets_with, verts}
use Rattle.facet_set.specs.Numbers.{size, is_pure, degree, faces_of_size}
use Rattle.facet_set.specs.Flips.{allowed, ball, same_facets, link_vertices, option_of, options, counterpart}
use Rattle.facet_set.specs.Star.{lies_in_join}
use Rattle.facet_set.proofs.ComplexLaws.{from_faces, sets_of}
use Rattle.facet_set.proofs.FlipLaws.{parts_of, same_list}
use Rattle.facet_set.proofs.OptionLaws.{in_verts, link_vertices_is}
use Rattle.facet_set.proofs.VertexLaws.{verts_labels}
use Rattle.facet_set.proofs.FaceLaws.{face_simplex}
use Rattle.facet_set.proofs.StarLaws.{counted_star}
use Rattle.flip_rules.specs.declared.tally.Tally.{Tally}
use Rattle.flip_rules.specs.Counts.{OneCounterpart, StarByCounts}
use Rattle.flip_rules.specs.Candidates.{has_star, candidate_of, candidates, open_flip, OpenCandidates}
use Rattle.flip_rules.specs.Tallies.{fitting, tally_of, kept_at, is_sized, counted, link_at, flip_of, candidate_where, candidate_at}
use Rattle.flip_rules.proofs.TallyLaws.{link_rising}

pub off : {X : Type 0} (v : Bool) (x : Option X) → cond (v && false) x None ≡ None
off true x = refl
off false x = refl

-- ---- lists of what there is at each member
module _ {X Y : Type 0} where
  pub filter_map_same : (f g : X → Option Y) (xs : List X) → ((x : X) → In x xs → f x ≡ g x) → filter_map f xs ≡ filter_map g xs
  filter_map_same f g [] h = refl
  filter_map_same f g (x ∷ xs) h = λ i. cons_option (h x first i) (filter_map_same f g xs (λ y j. h y (later j)) i)

  pub filter_map_none : (f : X → Option Y) (xs : List X) → ((x : X) → In x xs → f x ≡ None) → [] ≡ filter_map f xs
  filter_map_none f [] h = refl
  filter_map_none f (x ∷ xs) h = filter_map_none f xs (λ y j. h y (later j)) ∙ sym (ap (λ r. cons_option r (filter_map f xs)) (h x first))

-- a class with no allowed flip
pub none_allowed : (c : List (List ℕ)) (i : ℕ) → ((a : List ℕ) → In a (faces_of_size c (size c - i)) → allowed c a (counterpart c i a) ≡ true → ⊥) → [] ≡ options c i
none_allowed c i f =
    filter_map_none (option_of c i) (faces_of_size c (size c - i)) (λ a j.
    ap (λ v. cond (v && (length (counterpart c i a) == i + 1)) (Some (flip_of a (counterpart c i a))) None) (false_from (allowed c a (counterpart c i a)) (f a j)))

pub none_impure : (c : List (List ℕ)) (i : ℕ) → is_pure c ≡ false → [] ≡ options c i
none_impure c i h = none_allowed c i (λ a j k. true≢false (sym (parts_of c a (counterpart c i a) k).pure ∙ h))

pub none_above : (c : List (List ℕ)) (i : ℕ) → size c ≤ i → [] ≡ options c i
none_above c i h = none_allowed c i (λ a j k.
    let p = (parts_of c a (counterpart c i a) k).sizes.0 in
    let r = from_filter (λ s. length s == size c - i) a (faces c) j in
    let e = equal_at (length a) (size c - i) r.1 in
    omega arith)

-- ---- the link vertices of a face
module _ (c : List (List ℕ)) (simple : list_all is_simplex c ≡ true) (a : List ℕ) where
  link_simplex : length (link_vertices c a) ≤ 12 → IsTrue (is_simplex (link_vertices c a))
  link_simplex n =
      simplex_from (link_vertices c a) n
      (list_all-filter is_label (λ x. not (has a x)) (verts (facets_with c a)) (verts_labels (facets_with c a) (list_all-filter is_simplex (is_within a) c simple)))
      (link_rising (facets_with c a) a)

  link_apart : is_disjoint a (link_vertices c a) ≡ true
  link_apart = disjoint_from a (link_vertices c a) (λ x i j. let r = from_filter (λ x. not (has a x)) x (verts (facets_with c a)) j in true≢false (sym r.1 ∙ ap not (has_from a x i)))

  link_joins : list_all (lies_in_join a (link_vertices c a)) (facets_with c a) ≡ true
  link_joins =
      all_from (lies_in_join a (link_vertices c a)) (facets_with c a) (λ t i. all_from (λ x. has a x || has (link_vertices c a) x) t (λ x j. by t x i j (has a x) refl))
    where
      by : (t : List ℕ) (x : ℕ) → In t (facets_with c a) → In x t → (v : Bool) → has a x ≡ v → (v || has (link_vertices c a) x) ≡ true
      by t x i j true e = refl
      by t x i j false e = has_from (link_vertices c a) x (in_filter (λ x. not (has a x)) x (verts (facets_with c a)) (in_verts (facets_with c a) t x i j) (ap not e))

  -- the link is the boundary of a simplex on its vertices exactly where the facets are as many as these
  pub star_by_counts : is_complex c ≡ true → is_simplex a ≡ true → is_pure c ≡ true → length (link_vertices c a) ≤ 12 → length a + length (link_vertices c a) ≡ size c + 1
      → same_facets (facets_with c a) (ball a (link_vertices c a)) ≡ (degree c a == length (link_vertices c a))
  star_by_counts cx sa pure short n =
      sym (counted_star c a (link_vertices c a) simple cx sa (link_simplex short) pure n link_apart)
      ∙ ap (λ v. v && (degree c a == length (link_vertices c a))) link_joins

  pub has_star_by_counts : is_complex c ≡ true → is_simplex a ≡ true → is_pure c ≡ true → length (link_vertices c a) ≤ 12 → 0 < length a → 0 < length (link_vertices c a)
      → length a + length (link_vertices c a) ≡ size c + 1 → has_star c a (link_vertices c a) ≡ (degree c a == length (link_vertices c a))
  has_star_by_counts cx sa pure short la lb n =
      four (is_pure c) sized (is_disjoint a b) (same_facets (facets_with c a) (ball a b)) pure is_so link_apart ∙ star_by_counts cx sa pure short n
    where
      b : List ℕ
      b = link_vertices c a

      sized : Bool
      sized = ltb 0 (length a) && ltb 0 (length b) && (length a + length b == size c + 1)

      is_so : sized ≡ true
      is_so = grind (arith, nat_tests)

      ends : (s : Bool) → (s && true) ≡ s
      ends true = refl
      ends false = refl

      four : (p q r s : Bool) → p ≡ true → q ≡ true → r ≡ true → (p && (q && (r && (s && true)))) ≡ s
      four p q r s h k m = ap (λ v. v && (q && (r && (s && true)))) h ∙ ap (λ v. v && (r && (s && true))) k ∙ ap (λ v. v && (s && true)) m ∙ ends s

-- ---- what is found at a face by what is kept
off_size : (n d : ℕ) (b : List ℕ) → (length b == n) ≡ false → counted n d (fitting b) ≡ None
off_size n d b e = by (leb (length b) 12)
  where
    by : (v : Bool) → counted n d (cond v (Some b) None) ≡ None
    by true = ap (λ v. cond ((d == n) && v) (Some b) None) e ∙ off (d == n) (Some b)
    by false = refl

on_size : (n d : ℕ) (b : List ℕ) → (length b == n) ≡ true → n ≤ 12 → counted n (min d (2 ^ 64 - 1)) (fitting b) ≡ cond ((d == length b) && true) (Some b) None
on_size n d b e l =
    let k : length b ≡ n = equal_at (length b) n e in
    ap (counted n (min d (2 ^ 64 - 1))) (ap (λ v. cond v (Some b) None) (le-leb (length b) 12 (omega arith)))
    ∙ (λ i. cond (same_degree k i && e i) (Some b) None)
  where
    same_degree : length b ≡ n → (min d (2 ^ 64 - 1) == n) ≡ (d == length b)
    same_degree k = agree _ _
        (λ h. let m = equal_at (min d (2 ^ 64 - 1)) n h in equal_from d (length b) (omega arith))
        (λ h. let m = equal_at d (length b) h in equal_from (min d (2 ^ 64 - 1)) n (omega arith))

module _ (c : List (List ℕ)) (simple : list_all is_simplex c ≡ true) (cx : is_complex c ≡ true) (pure : is_pure c ≡ true) (few : size c ≤ 12) where
  module _ (i : ℕ) (below : i < size c) (kept : List ℕ → Option Tally) (are : (s : List ℕ) → IsTrue (is_sized (record { gone = size c - i; come = i + 1 }) s) → kept s ≡ kept_at c s) where
    found_at : (a : List ℕ) → is_simplex a ≡ true → is_face c a ≡ true → (length a == size c - i) ≡ true → candidate_at kept (i + 1) a ≡ candidate_of c i a
    found_at a sa fa size_is =
        elim (length b == i + 1) as (λ v. (length b == i + 1) ≡ v → candidate_at kept (i + 1) a ≡ candidate_of c i a) [
          | false ↦ λ e. ap (candidate_where kept a) (there ∙ off_size (i + 1) _ b e) ∙ sym (ap (λ v. cond (has_star c a b && v) (Some (record { flip = flip_of a b; is_blocked = is_face c b })) None) e ∙ off (has_star c a b) _)
          | true ↦ λ e. ap (candidate_where kept a) (there ∙ on_size (i + 1) (degree c a) b e (omega (arith, below, few))) ∙ last (degree c a == length b) (is_face c b) (put e) ∙ sym (there_too e)
        ] refl
      where
        b : List ℕ
        b = link_vertices c a

        len : length a ≡ size c - i
        len = equal_at (length a) (size c - i) size_is

        there : link_at (i + 1) (kept a) ≡ counted (i + 1) (min (degree c a) (2 ^ 64 - 1)) (fitting b)
        there = ap (link_at (i + 1)) (are a (ap (λ v. v || (length a == i + 1)) size_is) ∙ ap (λ v. cond v (Some (tally_of c a)) None) (and_both _ _ sa fa))

        put : (length b == i + 1) ≡ true → is_some (kept b) ≡ is_face c b
        put e =
            let k : length b ≡ i + 1 = equal_at (length b) (i + 1) e in
            ap is_some (are b (either (length b == size c - i) e) ∙ ap (λ v. cond (v && is_face c b) (Some (tally_of c b)) None) (link_simplex c simple a (omega (arith, k, few, below)))) ∙ some (is_face c b)
          where
            either : (v : Bool) → (length b == i + 1) ≡ true → (v || (length b == i + 1)) ≡ true
            either true h = refl
            either false h = h

            some : (v : Bool) → is_some (cond v (Some (tally_of c b)) None) ≡ v
            some true = refl
            some false = refl

        there_too : (length b == i + 1) ≡ true → candidate_of c i a ≡ cond ((degree c a == length b) && true) (Some (record { flip = flip_of a b; is_blocked = is_face c b })) None
        there_too e =
            let k : length b ≡ i + 1 = equal_at (length b) (i + 1) e in
            let w = has_star_by_counts c simple a cx sa pure (omega (arith, k, few, below)) (omega (arith, len, below)) (omega (arith, k)) (omega (arith, k, len, below)) in
            λ x. cond (w x && e x) (Some (record { flip = flip_of a b; is_blocked = is_face c b })) None

        last : (d f : Bool) → is_some (kept b) ≡ f → candidate_where kept a (cond (d && true) (Some b) None) ≡ cond (d && true) (Some (record { flip = flip_of a b; is_blocked = f })) None
        last true f e = ap (λ v. Some (record { flip = flip_of a b; is_blocked = v })) e
        last false f e = refl

  -- the candidates of a class
  pub candidates_are : (i : ℕ) → i < size c → (kept : List ℕ → Option Tally) → ((s : List ℕ) → IsTrue (is_sized (record { gone = size c - i; come = i + 1 }) s) → kept s ≡ kept_at c s)
      → filter_map (candidate_at kept (i + 1)) (faces_of_size c (size c - i)) ≡ candidates c i
  candidates_are i below kept are =
      filter_map_same (candidate_at kept (i + 1)) (candidate_of c i) (faces_of_size c (size c - i)) (λ a k.
      let r = from_filter (λ s. length s == size c - i) a (faces c) k in
      let f = from_faces c a (sets_of c simple) r.0 in
      found_at i below kept are a (face_simplex c a simple f.0 f.1) f.1 r.1)

-- a class without candidates
no_candidates : (c : List (List ℕ)) (i : ℕ) → ((a : List ℕ) → In a (faces_of_size c (size c - i)) → has_star c a (link_vertices c a) ≡ true → ⊥) → [] ≡ candidates c i
no_candidates c i f =
    filter_map_none (candidate_of c i) (faces_of_size c (size c - i)) (λ a j.
    ap (λ v. cond (v && (length (link_vertices c a) == i + 1)) (Some (record { flip = flip_of a (link_vertices c a); is_blocked = is_face c (link_vertices c a) })) None) (false_from (has_star c a (link_vertices c a)) (f a j)))

pub no_candidates_impure : (c : List (List ℕ)) (i : ℕ) → is_pure c ≡ false → [] ≡ candidates c i
no_candidates_impure c i h = no_candidates c i (λ a j k. true≢false (sym (and_left (is_pure c) _ k) ∙ h))

pub no_candidates_above : (c : List (List ℕ)) (i : ℕ) → size c ≤ i → [] ≡ candidates c i
no_candidates_above c i h = no_candidates c i (λ a j k.
    let r = from_filter (λ s. length s == size c - i) a (faces c) j in
    let e = equal_at (length a) (size c - i) r.1 in
    some_labels a (link_vertices c a) e (and_left (sized a (link_vertices c a)) _ (and_right (is_pure c) _ k)))
  where
    sized : List ℕ → List ℕ → Bool
    sized a b = ltb 0 (length a) && ltb 0 (length b) && (length a + length b == size c + 1)

    some_labels : (a b : List ℕ) → length a ≡ size c - i → sized a b ≡ true → ⊥
    some_labels a b e p = grind (arith, nat_tests)

-- ---- what the candidates have to do with the options
module _ {X Y Z : Type 0} (f : X → Option Y) (g : Y → Option Z) where
  abbrev then_of : Option Y → Option Z
  then_of None = None
  then_of (Some y) = g y

  filter_map_twice : (xs : List X) → filter_map (λ x. then_of (f x)) xs ≡ filter_map g (filter_map f xs)
  filter_map_twice [] = refl
  filter_map_twice (x ∷ xs) =
      elim (f x) as (λ r. cons_option (then_of r) (filter_map (λ x. then_of (f x)) xs) ≡ filter_map g (cons_option r (filter_map f xs))) [
        | None ↦ filter_map_twice xs
        | Some y ↦ ap (cons_option (g y)) (filter_map_twice xs)
      ]

pub open_candidates_lem : OpenCandidates
open_candidates_lem c zero above = absurd (omega arith)
open_candidates_lem c (suc j) above =
    filter_map_same (option_of c (suc j)) (λ a. then_of (candidate_of c (suc j)) open_flip (candidate_of c (suc j) a)) (faces_of_size c (size c - suc j)) (λ a i.
    let b = link_vertices c a in
    one a b (is_pure c) (ltb 0 (length a) && ltb 0 (length b) && (length a + length b == size c + 1)) (is_disjoint a b) (same_facets (facets_with c a) (ball a b)) (is_face c b) (length b == suc j + 1))
    ∙ filter_map_twice (candidate_of c (suc j)) open_flip (faces_of_size c (size c - suc j))
  where
    one : (a b : List ℕ) (p q r s f l : Bool)
        → cond ((p && (q && (r && (s && (not f && true))))) && l) (Some (flip_of a b)) None
        ≡ then_of (candidate_of c (suc j)) open_flip (cond ((p && (q && (r && (s && true)))) && l) (Some (record { flip = flip_of a b; is_blocked = f })) None)
    one a b true true true true true true = refl
    one a b true true true true false true = refl
    one a b true true true true true false = refl
    one a b true true true true false false = refl
    one a b true true true false f l = refl
    one a b true true false s f l = refl
    one a b true false r s f l = refl
    one a b false q r s f l = refl

-- ---- the laws
size_few : (c : List (List ℕ)) → list_all is_simplex c ≡ true → size c ≤ 12
size_few [] h = omega arith
size_few (s ∷ c) h =
    let one = short_of s (and_left (is_simplex s) _ h) in
    let rest = size_few c (and_right (is_simplex s) _ h) in
    omega (arith, one, rest)

pub star_by_counts_lem : StarByCounts
star_by_counts_lem c a i simple cx pure sa la n m =
    let few = size_few c simple in
    let e = star_by_counts c simple a cx sa pure (omega (arith, m, n, la, few)) (omega (arith, n, m)) in (
      λ p. equal_at (degree c a) (length (link_vertices c a)) (sym e ∙ ap (λ x. same_facets x (ball a (link_vertices c a))) p ∙ itself (lists_total nat_list_cmp_total) (ball a (link_vertices c a))) ∙ m,
      λ k. same_list (facets_with c a) (ball a (link_vertices c a)) (e ∙ equal_from (degree c a) (length (link_vertices c a)) (k ∙ sym m)),
    )

pub one_counterpart_lem : OneCounterpart
one_counterpart_lem c a b sb n ok = link_vertices_is c a b (rising_of b sb) n (parts_of c a b ok)
