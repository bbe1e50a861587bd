-- A relabelling keeps all invariants.
use Rattle.std.proofs.Common.{◌≡◌, ℕ, suc, ◌+◌, ◌≤◌, true, List, [], ◌∷◌, map, length, refl, sym, ap, ◌∙◌, subst, arith}
use Rattle.std.specs.Prelude.{nat_eq}
use Rattle.std.specs.Cmp.Lexicographic.{pointwise}
use Rattle.std.specs.Ordering.{nat_cmp}
use Rattle.std.specs.List.{list_all, filter}
use Rattle.std.proofs.lemmas.Cmp.{nat_list_cmp_total}
use Rattle.std.proofs.lemmas.Int.{ints}
use Rattle.simplex.specs.InOrder.{in_order}
use Rattle.simplex.specs.Simplex.{has, is_label, is_simplex, is_within, simplex_cmp}
use Rattle.simplex.proofs.Decided.{agree}
use Rattle.simplex.proofs.InOrderLaws.{and_left, and_right, is_increasing-in_order}
use Rattle.simplex.proofs.Members.{In, all_at, all_from, in_filter, from_filter, in_map, from_map, same_sets}
use Rattle.simplex.proofs.SimplexLaws.{has_at, has_from, within_in, in_within, within_itself, same_labels, is_increasing-filter}
use Rattle.facet_set.specs.Complex.{faces, facets_with, simplices, verts}
use Rattle.facet_set.specs.Connection.{Chain, here, step, is_closed, is_edge, components}
use Rattle.facet_set.specs.Maps.{image, image_of, is_distinct, is_map, relabelled}
use Rattle.facet_set.specs.Numbers.{degree, f_vector, size}
use Rattle.facet_set.proofs.ComplexLaws.{exact, is_set, sets_of, in_simplices, from_simplices, in_faces, from_faces, face_at, face_from, is_complex-generated, verts_increase}
use Rattle.facet_set.proofs.FlipLaws.{pure_at, pure_from}
use Rattle.facet_set.proofs.GeneratedLaws.{same_at}
use Rattle.facet_set.proofs.MapLaws.{firsts, seconds, Renames, image_apart, image_label, image_pair, pair_image, in_relabelled, from_relabelled, in_image, from_image, length_relabelled, within_back}
use Rattle.facet_set.proofs.OptionLaws.{in_verts, from_verts}
use Rattle.facet_set.proofs.SetLaws.{set_up}
use Rattle.face_vectors.specs.Vectors.{alternating}
use Rattle.invariants.specs.Laws.{IsPureComplex}
use Rattle.invariants.specs.Leads.{is_relabelling}
use Rattle.invariants.proofs.Classes.{fewer_classes}
use Rattle.invariants.proofs.Closed.{closed_from, two_at}
use Rattle.invariants.proofs.Components.{edge_even, edge_from, edge_at}
use Rattle.invariants.proofs.Euler.{euler_is, faces_up, some_facet}
use Rattle.invariants.proofs.Sums.{weigh, weigh-longer, weigh-simplices, length-simplices, once-labels, once-map, once-rising}
use Rattle.invariants.proofs.Swaps.{small, labels_of, simplex_from}

-- each pair the other way round
abbrev turned : List (ℕ × ℕ) → List (ℕ × ℕ)
turned m = map (λ p. (p.1, p.0)) m

firsts_turned : (m : List (ℕ × ℕ)) → firsts (turned m) ≡ seconds m
firsts_turned [] = refl
firsts_turned (p ∷ m) = ap (λ l. p.1 ∷ l) (firsts_turned m)

long : (f : List ℕ → List ℕ) (l : List (List ℕ)) → length (map f l) ≡ length l
long f [] = refl
long f (x ∷ l) = ap suc (long f l)

module _ (c : List (List ℕ)) (m : List (ℕ × ℕ)) (h : IsPureComplex c) (r : is_relabelling m c ≡ true) where
  abbrev d : List (List ℕ)
  d = image m c

  map_is : is_map m c ≡ true
  map_is = and_left _ _ r

  known : (a : ℕ) → In a (verts c) → In a (firsts m)
  known a i = subst (λ l. In a l) (sym (same_at (firsts m) (verts c) (and_left _ _ map_is))) i

  apart : is_distinct (seconds m) ≡ true
  apart = and_right (pointwise nat_eq (firsts m) (verts c)) _ map_is

  ren : Renames m c
  ren = record {
    sets = sets_of c h.simplices;
    known = λ s i a j. known a (in_verts c s a i j);
    apart = apart;
  }

  ren_faces : Renames m (faces c)
  ren_faces = record {
    sets = all_from is_set (faces c) (λ s i. (from_faces c s (sets_of c h.simplices) i).0);
    known = λ s i a j. let t = face_at c s (from_faces c s (sets_of c h.simplices) i).1 in known a (in_verts c t.0 a t.1 (within_in s t.0 a t.2 j));
    apart = apart;
  }

  there : (s : List ℕ) → In s c → In (relabelled m s) d
  there s i = in_image m c s ren h.complex i

  origin : (t : List ℕ) → In t d → (s : List ℕ) × In s c × (t ≡ relabelled m s)
  origin t i = from_image m c t ren h.complex i

  length_there : (t : List ℕ) → In t d → length t ≡ size c
  length_there t i = let s = origin t i in ap length s.2 ∙ length_relabelled m c s.0 ren s.1 ∙ pure_at c s.0 h.pure s.1

  pub image_is_pure : IsPureComplex d
  image_is_pure = record {
    simplices = all_from is_simplex d (λ t i.
        let s = origin t i in
        let n = length_there t i in
        let l = small c h.simplices h.pure in
        simplex_from t (omega (arith, n, l))
        (all_from is_label t (λ b k. let a = from_relabelled m s.0 b (subst (λ u. In b u) s.2 k) in
        subst (λ x. is_label x ≡ true) (sym a.2) (image_label m a.0 (and_right (is_map m c) _ r) (all_at is_label a.0 s.0 (labels_of s.0 (all_at is_simplex s.0 c h.simplices s.1)) a.1))))
        (ap is_set s.2 ∙ set_up (map (image_of m) s.0)));
    complex = is_complex-generated (map (λ s. in_order nat_cmp (map (image_of m) s)) c);
    pure = let t = some_facet c h.pure in pure_from d (size c) (relabelled m t.0) (there t.0 t.1) length_there;
  }

  pub image_size : size d ≡ size c
  image_size = let t = some_facet c h.pure in sym (pure_at d (relabelled m t.0) image_is_pure.pure (there t.0 t.1)) ∙ length_there (relabelled m t.0) (there t.0 t.1)

  -- ---- faces
  sets_d : list_all is_set d ≡ true
  sets_d = sets_of d image_is_pure.simplices

  face_there : (s : List ℕ) → In s (faces c) → In (relabelled m s) (faces d)
  face_there s i =
      let t = face_at c s (from_faces c s (sets_of c h.simplices) i).1 in
      in_faces d (relabelled m s) sets_d (set_up (map (image_of m) s)) (face_from d (relabelled m s) (relabelled m t.0) (there t.0 t.1) (in_within (relabelled m s) (relabelled m t.0) (λ b j.
      let a = from_relabelled m s b j in
      subst (λ x. In x (relabelled m t.0)) (sym a.2) (in_relabelled m t.0 a.0 (within_in s t.0 a.0 t.2 a.1)))))

  face_origin : (u : List ℕ) → In u (faces d) → (s : List ℕ) × In s (faces c) × (u ≡ relabelled m s)
  face_origin u i =
      let q = from_faces d u sets_d i in
      let t = face_at d u q.1 in
      let o = origin t.0 t.1 in
      let s = filter (λ a. has u (image_of m a)) o.0 in
      let st : is_set s ≡ true = is_increasing-filter nat_cmp (λ a. has u (image_of m a)) o.0 (all_at is_set o.0 c (sets_of c h.simplices) o.1) in (
        s,
        in_faces c s (sets_of c h.simplices) st (face_from c s o.0 o.1 (in_within s o.0 (λ a j. (from_filter (λ a. has u (image_of m a)) a o.0 j).0))),
        same_labels u (relabelled m s) q.0 (set_up (map (image_of m) s))
            (in_within u (relabelled m s) (λ b j.
            let a = from_relabelled m o.0 b (subst (λ v. In b v) o.2 (within_in u t.0 b t.2 j)) in
            subst (λ x. In x (relabelled m s)) (sym a.2) (in_relabelled m s a.0 (in_filter (λ a. has u (image_of m a)) a.0 o.0 a.1 (has_from u (image_of m a.0) (subst (λ x. In x u) a.2 j))))))
            (in_within (relabelled m s) u (λ b j.
            let a = from_relabelled m s b j in
            subst (λ x. In x u) (sym a.2) (has_at u (image_of m a.0) (from_filter (λ a. has u (image_of m a)) a.0 o.0 a.1).1))),
      )

  -- simplices that become one are one
  one_face : (s t : List ℕ) → In s (faces c) → In t (faces c) → relabelled m s ≡ relabelled m t → s ≡ t
  one_face s t i j e =
      same_labels s t (all_at is_set s (faces c) ren_faces.sets i) (all_at is_set t (faces c) ren_faces.sets j)
      (within_back m (faces c) s t ren_faces i j (ap (is_within (relabelled m s)) (sym e) ∙ within_itself (relabelled m s)))
      (within_back m (faces c) t s ren_faces j i (ap (is_within (relabelled m t)) e ∙ within_itself (relabelled m t)))

  weigh_same : weigh (faces d) ≡ weigh (faces c)
  weigh_same =
      ap weigh (same_sets nat_list_cmp_total exact (faces d) (simplices (map (relabelled m) (faces c))) (faces_up d) (is_increasing-in_order nat_list_cmp_total (map (relabelled m) (faces c)))
      (λ u i. let s = face_origin u i in subst (λ v. In v (simplices (map (relabelled m) (faces c)))) (sym s.2) (in_simplices (relabelled m s.0) (map (relabelled m) (faces c)) (in_map (relabelled m) s.0 (faces c) s.1)))
      (λ u i. let s = from_map (relabelled m) u (faces c) (from_simplices u (map (relabelled m) (faces c)) i) in subst (λ v. In v (faces d)) (sym s.2) (face_there s.0 s.1)))
      ∙ weigh-simplices (map (relabelled m) (faces c)) (once-map (relabelled m) (faces c) (once-rising (faces c) (faces_up c)) one_face)
      ∙ weigh-longer (relabelled m) 0 (faces c) (λ t i. length_relabelled m (faces c) t ren_faces i ∙ plain (length t))
    where
      plain : (n : ℕ) → n ≡ 0 + n
      plain n = omega arith

  pub image_euler : alternating (f_vector d) ≡ alternating (f_vector c)
  image_euler = let x = euler_is c h in let y = euler_is d image_is_pure in let z = weigh_same in omega (arith, ints, x, y, z)

  -- ---- ridges
  facet_face : (t : List ℕ) → In t c → In t (faces c)
  facet_face t i = in_faces c t (sets_of c h.simplices) (all_at is_set t c (sets_of c h.simplices) i) (face_from c t t i (within_itself t))

  abbrev carried : List ℕ → List (List ℕ)
  carried s = map (relabelled m) (facets_with c s)

  degree_same : (s : List ℕ) → In s (faces c) → degree d (relabelled m s) ≡ degree c s
  degree_same s i =
      ap length (same_sets nat_list_cmp_total exact (facets_with d (relabelled m s)) (simplices (carried s))
      (is_increasing-filter simplex_cmp (is_within (relabelled m s)) d (and_left _ _ image_is_pure.complex)) (is_increasing-in_order nat_list_cmp_total (carried s)) one two)
      ∙ length-simplices (carried s) (once-map (relabelled m) (facets_with c s) (once-rising (facets_with c s) (is_increasing-filter simplex_cmp (is_within s) c (and_left _ _ h.complex)))
      (λ t u j k e. one_face t u (facet_face t (from_filter (is_within s) t c j).0) (facet_face u (from_filter (is_within s) u c k).0) e))
      ∙ long (relabelled m) (facets_with c s)
    where
      one : (t : List ℕ) → In t (facets_with d (relabelled m s)) → In t (simplices (carried s))
      one t j =
          let q = from_filter (is_within (relabelled m s)) t d j in
          let o = origin t q.0 in
          let w = within_back m (faces c) s o.0 ren_faces i (facet_face o.0 o.1) (ap (is_within (relabelled m s)) (sym o.2) ∙ q.1) in
          subst (λ v. In v (simplices (carried s))) (sym o.2) (in_simplices (relabelled m o.0) (map (relabelled m) (facets_with c s)) (in_map (relabelled m) o.0 (facets_with c s) (in_filter (is_within s) o.0 c o.1 w)))

      two : (t : List ℕ) → In t (simplices (carried s)) → In t (facets_with d (relabelled m s))
      two t j =
          let o = from_map (relabelled m) t (facets_with c s) (from_simplices t (map (relabelled m) (facets_with c s)) j) in
          let q = from_filter (is_within s) o.0 c o.1 in
          subst (λ v. In v (facets_with d (relabelled m s))) (sym o.2) (in_filter (is_within (relabelled m s)) (relabelled m o.0) d (there o.0 q.0) (in_within (relabelled m s) (relabelled m o.0) (λ b k.
          let a = from_relabelled m s b k in
          subst (λ x. In x (relabelled m o.0)) (sym a.2) (in_relabelled m o.0 a.0 (within_in s o.0 a.0 q.1 a.1)))))

  closed_there : is_closed c ≡ true → is_closed d ≡ true
  closed_there k = closed_from d image_is_pure.pure (λ u i e.
      let s = face_origin u i in
      let n = ap length s.2 ∙ length_relabelled m (faces c) s.0 ren_faces s.1 in
      let z = image_size in
      ap (degree d) s.2 ∙ degree_same s.0 s.1 ∙ two_at c s.0 k s.1 (omega (arith, n, e, z)))

  closed_back : is_closed d ≡ true → is_closed c ≡ true
  closed_back k = closed_from c h.pure (λ s i e.
      let n = length_relabelled m (faces c) s ren_faces i in
      let z = image_size in
      sym (degree_same s i) ∙ two_at d (relabelled m s) k (face_there s i) (omega (arith, n, e, z)))

  pub image_closed : is_closed d ≡ is_closed c
  image_closed = agree (is_closed d) (is_closed c) closed_back closed_there

  -- ---- components
  vertex_there : (a : ℕ) → In a (verts c) → In (image_of m a) (verts d)
  vertex_there a i = let t = from_verts c a i in in_verts d (relabelled m t.0) (image_of m a) (there t.0 t.1) (in_relabelled m t.0 a t.2)

  vertex_origin : (b : ℕ) → In b (verts d) → (a : ℕ) × In a (verts c) × (b ≡ image_of m a)
  vertex_origin b i =
      let t = from_verts d b i in
      let o = origin t.0 t.1 in
      let a = from_relabelled m o.0 b (subst (λ u. In b u) o.2 t.2) in
      (a.0, in_verts c o.0 a.0 o.1 a.1, a.2)

  one_vertex : (x y : ℕ) → In x (verts c) → In y (verts c) → image_of m x ≡ image_of m y → x ≡ y
  one_vertex x y i j e = image_apart m x y apart (known x i) (known y j) e

  edge_there : (x y : ℕ) → is_edge c x y ≡ true → is_edge d (image_of m x) (image_of m y) ≡ true
  edge_there x y e =
      let t = edge_at c x y e in
      edge_from d (relabelled m t.0) (image_of m x) (image_of m y) (there t.0 t.1) (in_relabelled m t.0 x t.2) (in_relabelled m t.0 y t.3)

  edge_back : (x y : ℕ) → In x (verts c) → In y (verts c) → is_edge d (image_of m x) (image_of m y) ≡ true → is_edge c x y ≡ true
  edge_back x y i j e =
      let t = edge_at d (image_of m x) (image_of m y) e in
      let o = origin t.0 t.1 in
      let at : (z : ℕ) → In z (verts c) → In (image_of m z) t.0 → In z o.0 = λ z k n.
      let a = from_relabelled m o.0 (image_of m z) (subst (λ u. In (image_of m z) u) o.2 n) in
      subst (λ v. In v o.0) (sym (one_vertex z a.0 k (in_verts c o.0 a.0 o.1 a.1) a.2)) a.1 in
      edge_from c o.0 x y o.1 (at x i t.2) (at y j t.3)

  chain_there : {x y : ℕ} → Chain (is_edge c) (verts c) x y → Chain (is_edge d) (verts d) (image_of m x) (image_of m y)
  chain_there here = here
  chain_there {x = x} (step {y = y} e i k) = step (edge_there x y e) (vertex_there y i) (chain_there k)

  chain_back : {p q : ℕ} → Chain (is_edge d) (verts d) p q → (x y : ℕ) → In x (verts c) → In y (verts c) → p ≡ image_of m x → q ≡ image_of m y → Chain (is_edge c) (verts c) x y
  chain_back here x y i j e f = subst (λ z. Chain (is_edge c) (verts c) x z) (one_vertex x y i j (sym e ∙ f)) here
  chain_back (step {y = v} g n k) x y i j e f =
      let u = vertex_origin v n in
      step (edge_back x u.0 i u.1 (ap (λ z. is_edge d z (image_of m u.0)) (sym e) ∙ ap (is_edge d _) (sym u.2) ∙ g)) u.1 (chain_back k u.0 y u.1 j u.2 f)

  -- the vertex that becomes the label
  back_is : (a : ℕ) → In a (verts c) → image_of (turned m) (image_of m a) ≡ a
  back_is a i = pair_image (turned m) (image_of m a) a (ap is_distinct (firsts_turned m) ∙ apart) (in_map (λ (p : ℕ × ℕ). (p.1, p.0)) (a, image_of m a) m (image_pair m a (known a i)))

  few : components c ≤ components d
  few = fewer_classes (is_edge c) (edge_even c) (is_edge d) (edge_even d) (verts c) (verts d) (image_of m) (once-labels (verts c) (verts_increase c)) vertex_there (λ x y i j k. chain_back k x y i j refl refl)

  many : components d ≤ components c
  many = fewer_classes (is_edge d) (edge_even d) (is_edge c) (edge_even c) (verts d) (verts c) (image_of (turned m)) (once-labels (verts d) (verts_increase d))
      (λ b i. let a = vertex_origin b i in subst (λ x. In x (verts c)) (sym (at b a.0 a.1 a.2)) a.1)
      (λ p q i j k.
      let a = vertex_origin p i in
      let b = vertex_origin q j in
      subst (λ z. Chain (is_edge d) (verts d) p z) (ap (image_of m) (at q b.0 b.1 b.2) ∙ sym b.2) (subst (λ z. Chain (is_edge d) (verts d) z (image_of m (image_of (turned m) q))) (ap (image_of m) (at p a.0 a.1 a.2) ∙ sym a.2) (chain_there k)))
    where
      at : (b a : ℕ) → In a (verts c) → b ≡ image_of m a → image_of (turned m) b ≡ a
      at b a i e = ap (image_of (turned m)) e ∙ back_is a i

  pub image_components : components d ≡ components c
  image_components = let x = few in let y = many in omega (arith, x, y)
