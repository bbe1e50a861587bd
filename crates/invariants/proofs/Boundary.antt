-- The invariants of the boundary of a simplex.
use Rattle.std.proofs.Common.{◌≡◌, ℕ, zero, suc, ◌+◌, ◌<◌, ◌≤◌, leb, true, not, cond, ◌&&◌, ◌||◌, List, [], ◌∷◌, map, length, pos, ◌+ℤ◌, ◌-ℤ◌, refl, sym, ap, ◌∙◌, subst, inl, inr, arith}
use Rattle.std.specs.Prelude.{◌==◌}
use Rattle.std.specs.List.{filter}
use Rattle.std.specs.FinMap.{nat_cmp-IsAntisymmetric}
use Rattle.std.proofs.lemmas.Bool.Decides.{nat_tests}
use Rattle.std.proofs.lemmas.Cmp.{nat_cmp_total, nat_list_cmp_total}
use Rattle.std.proofs.lemmas.Int.{ints}
use Rattle.simplex.specs.Simplex.{has, is_simplex, is_within, union, without}
use Rattle.simplex.proofs.Decided.{equal_at, false_from}
use Rattle.simplex.proofs.Filled.{rising_of}
use Rattle.simplex.proofs.InOrderLaws.{and_left, and_right, is_increasing-in_order, in_order_again}
use Rattle.simplex.proofs.Members.{In, first, all_at, all_from}
use Rattle.simplex.proofs.SimplexLaws.{has_from, within_in, within_length, label_beside, in_union, in_without, is_increasing-union}
use Rattle.facet_set.specs.Complex.{faces, facets_with, is_face, verts}
use Rattle.facet_set.specs.Connection.{here, step, classes, is_closed, is_edge, components}
use Rattle.facet_set.specs.Flips.{ball, is_simplex_boundary}
use Rattle.facet_set.specs.Numbers.{f_vector, is_pure, size}
use Rattle.facet_set.proofs.ClassLaws.{in_class}
use Rattle.facet_set.proofs.ComplexLaws.{exact, face_at, from_faces, sets_of, verts_increase, without_set}
use Rattle.facet_set.proofs.Counting.{same_count, most-union}
use Rattle.facet_set.proofs.FlipLaws.{pure_at, in_ball}
use Rattle.facet_set.proofs.GeneratedLaws.{filter_all}
use Rattle.facet_set.proofs.OptionLaws.{in_verts}
use Rattle.facet_set.proofs.StarLaws.{count-ball, piece_from}
use Rattle.face_vectors.specs.Vectors.{alternating}
use Rattle.invariants.specs.Invariants.{invariants_of, sphere_invariants}
use Rattle.invariants.specs.Laws.{IsPureComplex, BoundariesHaveSphereInvariants}
use Rattle.invariants.proofs.Between.{weigh-with}
use Rattle.invariants.proofs.Classes.{fewer_classes}
use Rattle.invariants.proofs.Closed.{closed_from}
use Rattle.invariants.proofs.Components.{edge_even, edge_from}
use Rattle.invariants.proofs.Degrees.{IsInJoin, degree_parts, lacking}
use Rattle.invariants.proofs.Euler.{euler_is, faces_up}
use Rattle.invariants.proofs.Sums.{sign, weigh, once-labels}
use Rattle.invariants.proofs.Swaps.{Star}

none_left : (l : List (List ℕ)) → length (filter (λ t. not (is_within [] t)) l) ≡ 0
none_left [] = refl
none_left (t ∷ l) = none_left l

module _ (c : List (List ℕ)) (h : IsPureComplex c) (round : is_simplex_boundary c ≡ true) where
  vertex_count : length (verts c) ≡ size c + 1
  vertex_count = equal_at (length (verts c)) (size c + 1) (and_right (is_pure c) _ (and_left _ _ round))

  facet_count : length c ≡ size c + 1
  facet_count = equal_at (length c) (size c + 1) (and_right (is_pure c && (length (verts c) == size c + 1)) _ round)

  -- the facets are all sets of the vertices but one
  all_sets : c ≡ ball [] (verts c)
  all_sets =
      same_count nat_list_cmp_total exact c (ball [] (verts c)) (and_left _ _ h.complex) (is_increasing-in_order nat_list_cmp_total (map (λ x. union [] (without (verts c) x)) (verts c))) inside
      (facet_count ∙ sym vertex_count ∙ sym (count-ball [] (verts c) (verts_increase c) refl))
    where
      one_less : (t : List ℕ) → length t ≡ size c → length (verts c) ≡ size c + 1 → length t + 1 ≡ 0 + length (verts c)
      one_less t e f = omega (arith, e, f)

      inside : (t : List ℕ) → In t c → In t (ball [] (verts c))
      inside t i =
          let joined = all_from (λ x. has [] x || has (verts c) x) t (λ x j. has_from (verts c) x (in_verts c t x i j)) in
          piece_from [] (verts c) t refl (verts_increase c) (rising_of t (all_at is_simplex t c h.simplices i)) refl refl joined (one_less t (pure_at c t h.pure i) vertex_count)

  in_boundary : (x : ℕ) → In x (verts c) → In (without (verts c) x) c
  in_boundary x i =
      subst (λ l. In (without (verts c) x) l) (sym all_sets)
      (subst (λ s. In s (ball [] (verts c))) (in_order_again nat_cmp_total nat_cmp-IsAntisymmetric (without (verts c) x) (without_set (verts c) x (verts_increase c))) (in_ball [] (verts c) x i))

  whole : Star c [] (verts c)
  whole = record {
    a_set = refl;
    b_set = verts_increase c;
    some = let n = vertex_count in omega arith;
    apart = refl;
    star = filter_all (is_within []) c (λ s i. refl) ∙ all_sets;
    absent = false_from (is_face c (verts c)) (λ f.
        let t = face_at c (verts c) f in
        let l = within_length (verts c) t.0 (verts_increase c) (rising_of t.0 (all_at is_simplex t.0 c h.simplices t.1)) t.2 in
        let e = pure_at c t.0 h.pure t.1 in
        let n = vertex_count in
        omega arith);
  }

  boundary_euler : (d : ℕ) → size c ≡ suc d → alternating (f_vector c) ≡ pos 1 +ℤ sign d
  boundary_euler d e =
      let all = ap weigh (filter_all (is_within []) (faces c) (λ s i. refl)) in
      let sum = weigh-with c [] (verts c) (sets_of c h.simplices) whole (faces_up c) in
      let n : 0 + length (verts c) ≡ suc (suc d) = omega (arith, vertex_count, e) in
      let signs = ap sign n in
      let x = euler_is c h in
      omega (arith, ints, all, sum, signs, x)

  boundary_closed : is_closed c ≡ true
  boundary_closed = closed_from c h.pure (λ r i e.
      let q = from_faces c r (sets_of c h.simplices) i in
      let t = face_at c r q.1 in
      let join : IsInJoin [] (verts c) r = λ x j. inr (in_verts c t.0 x t.1 (within_in r t.0 x t.2 j)) in
      let parts = degree_parts c [] (verts c) r (and_left _ _ h.complex) whole join in
      let left = none_left (facets_with c r) in
      let n = lacking [] (verts c) r refl (verts_increase c) q.0 refl join in
      let v = vertex_count in
      omega (arith, parts, left, n, v, e))

  -- each two vertices have an edge
  edge : (x y : ℕ) → 2 ≤ size c → In x (verts c) → In y (verts c) → is_edge c x y ≡ true
  edge x y two i j =
      let two_of = union (x ∷ []) (y ∷ []) in
      let z = label_beside (verts c) two_of (false_from (is_within (verts c) two_of) (λ f.
      let l = within_length (verts c) two_of (verts_increase c) (is_increasing-union (x ∷ []) (y ∷ [])) f in
      let m = most-union (x ∷ []) (y ∷ []) in
      let n = vertex_count in
      omega arith)) in
      edge_from c (without (verts c) z.0) x y (in_boundary z.0 z.1)
      (in_without (verts c) z.0 x i (λ e. z.2 (subst (λ u. In u two_of) e (in_union (x ∷ []) (y ∷ []) x (inl first)))))
      (in_without (verts c) z.0 y j (λ e. z.2 (subst (λ u. In u two_of) e (in_union (x ∷ []) (y ∷ []) y (inr first)))))

  boundary_connected : 2 ≤ size c → components c ≡ 1
  boundary_connected two =
      let most : components c ≤ 1 = fewer_classes (is_edge c) (edge_even c) (λ (x y : ℕ). true) (λ x y. refl) (verts c) (0 ∷ []) (λ x. 0) (once-labels (verts c) (verts_increase c)) (λ x i. first)
      (λ x y i j k. step (edge x y two i j) j here) in
      let some = some_class (verts c) (let n = vertex_count in omega arith) in
      omega arith
    where
      filled : (l : List (List ℕ)) (k : List ℕ) → In k l → 0 < length l
      filled [] k i = elim i [ ]
      filled (m ∷ l) k i = omega arith

      some_class : (vs : List ℕ) → 0 < length vs → 0 < length (classes (is_edge c) vs)
      some_class [] l = absurd (omega arith)
      some_class (v ∷ vs) l = let k = in_class (is_edge c) (edge_even c) (v ∷ vs) v first in filled (classes (is_edge c) (v ∷ vs)) k.0 k.1

  count_is : (d : ℕ) → size c ≡ suc d → cond (leb 2 (size c)) (components c) 0 ≡ cond (leb 1 d) 1 0
  count_is zero e = ap (λ n. cond (leb 2 n) (components c) 0) e
  count_is (suc d) e =
      let two : leb 2 (size c) ≡ true = reaches 2 (size c) (omega (arith, e)) in
      let one : leb 1 (suc d) ≡ true = reaches 1 (suc d) (omega arith) in
      ap (λ v. cond v (components c) 0) two ∙ boundary_connected (omega (arith, e)) ∙ sym (ap (λ v. cond v 1 0) one)
    where
      reaches : (m n : ℕ) → m ≤ n → leb m n ≡ true
      reaches m n l = grind (arith, nat_tests)

pub boundary_invariants : (c : List (List ℕ)) (d : ℕ) → IsPureComplex c → is_simplex_boundary c ≡ true → size c ≡ suc d → invariants_of c ≡ sphere_invariants d
boundary_invariants c d h round e =
    let dims : pos (size c) -ℤ pos 1 ≡ pos d = omega (arith, ints, e) in
    let closed = boundary_closed c h round in
    let euler = boundary_euler c h round d e in
    let count = count_is c h round d e in
    λ i. record { dim = dims i; closed = closed i; euler = euler i; components = count i }

pub boundaries_have_sphere_invariants_lem : BoundariesHaveSphereInvariants
boundaries_have_sphere_invariants_lem c d h round e = boundary_invariants c d h round e
