-- The facets of the boundary of a simplex are all sets of its vertices but one, so a bijection carries each to any other.
use Rattle.std.proofs.Common.{◌≡◌, ℕ, ◌+◌, true, ◌&&◌, ◌||◌, List, [], map, length, refl, sym, ap, ◌∙◌, subst, arith}
use Rattle.std.specs.Ordering.{nat_cmp}
use Rattle.std.specs.List.{list_all, zip}
use Rattle.std.specs.FinMap.{nat_cmp-IsAntisymmetric}
use Rattle.std.specs.Prelude.{◌==◌}
use Rattle.std.proofs.lemmas.Cmp.{nat_cmp_total, nat_list_cmp_total, lists_total}
use Rattle.std.proofs.lemmas.Slice.Zip.{firsts-zip, seconds-zip}
use Rattle.simplex.specs.InOrder.{in_order}
use Rattle.simplex.specs.Simplex.{has, is_simplex, union, without}
use Rattle.simplex.proofs.Filled.{rising_of}
use Rattle.simplex.proofs.InOrderLaws.{and_left, and_right, and_both, is_increasing-in_order, in_order_again, itself}
use Rattle.simplex.proofs.Members.{In, all_at, all_from, in_map, from_map, same_sets}
use Rattle.simplex.proofs.SimplexLaws.{has_from, in_within, in_without, from_without, same_labels}
use Rattle.simplex.proofs.Decided.{equal_at}
use Rattle.facet_set.specs.Complex.{is_complex, verts}
use Rattle.facet_set.specs.Numbers.{size, is_pure}
use Rattle.facet_set.specs.Flips.{ball, is_simplex_boundary, same_facets}
use Rattle.facet_set.specs.Maps.{image, image_of, is_map, relabelled}
use Rattle.facet_set.proofs.ComplexLaws.{exact, verts_increase, without_set, is_complex-generated}
use Rattle.facet_set.proofs.Counting.{same_count}
use Rattle.facet_set.proofs.FlipLaws.{pure_at, in_ball, from_ball}
use Rattle.facet_set.proofs.MapLaws.{firsts, seconds, Renames, image_pair, image_apart, pair_image, in_relabelled, from_relabelled, in_image, from_image}
use Rattle.facet_set.proofs.OptionLaws.{in_verts}
use Rattle.facet_set.proofs.SetLaws.{increasing_distinct, set_up}
use Rattle.facet_set.proofs.StarLaws.{count-ball, piece_from}
use Rattle.relabelling.specs.Bijections.{is_map_to}
use Rattle.relabelling.specs.Laws.{BoundariesAreCarried}
use Rattle.relabelling.proofs.CarryLaws.{map_renames, zip_is_map}
use Rattle.relabelling.proofs.LeastLaws.{first_there}
use Rattle.relabelling.proofs.MapsLaws.{firsts_distinct}

-- ---- the facets of one
module _ (c : List (List ℕ)) (simple : list_all is_simplex c ≡ true) (cx : is_complex c ≡ true) (round : is_simplex_boundary c ≡ true) where
  vertex_count : length (verts c) ≡ size c + 1
  vertex_count = equal_at (length (verts c)) (size c + 1) (and_right (is_pure c) _ (and_left _ _ round))

  facet_count : length c ≡ size c + 1
  facet_count = equal_at (length c) (size c + 1) (and_right (is_pure c && (length (verts c) == size c + 1)) _ round)

  plain : (x : ℕ) → union [] (without (verts c) x) ≡ without (verts c) x
  plain x = in_order_again nat_cmp_total nat_cmp-IsAntisymmetric (without (verts c) x) (without_set (verts c) x (verts_increase c))

  all_sets : c ≡ ball [] (verts c)
  all_sets =
      same_count nat_list_cmp_total exact c (ball [] (verts c)) (and_left _ _ cx) (is_increasing-in_order nat_list_cmp_total (map (λ x. union [] (without (verts c) x)) (verts c))) inside
      (facet_count ∙ sym vertex_count ∙ sym (count-ball [] (verts c) (verts_increase c) refl))
    where
      inside : (t : List ℕ) → In t c → In t (ball [] (verts c))
      inside t i =
          let fits = pure_at c t (and_left _ _ (and_left _ _ round)) i in
          let joined = all_from (λ x. has [] x || has (verts c) x) t (λ x j. has_from (verts c) x (in_verts c t x i j)) in
          piece_from [] (verts c) t refl (verts_increase c) (rising_of t (all_at is_simplex t c simple i)) refl refl joined (one_less fits vertex_count)
        where
          one_less : length t ≡ size c → length (verts c) ≡ size c + 1 → length t + 1 ≡ 0 + length (verts c)
          one_less e f = omega (arith, e, f)

  in_boundary : (x : ℕ) → In x (verts c) → In (without (verts c) x) c
  in_boundary x i = subst (λ l. In (without (verts c) x) l) (sym all_sets) (subst (λ s. In s (ball [] (verts c))) (plain x) (in_ball [] (verts c) x i))

  from_boundary : (t : List ℕ) → In t c → (x : ℕ) × In x (verts c) × (t ≡ without (verts c) x)
  from_boundary t i = let r = from_ball [] (verts c) t (subst (λ l. In t l) all_sets i) in (r.0, r.1, r.2 ∙ plain r.0)

-- ---- the bijection that keeps the order of the vertices
module _ (c d : List (List ℕ)) (simple_c : list_all is_simplex c ≡ true) (cx_c : is_complex c ≡ true) (simple_d : list_all is_simplex d ≡ true) (cx_d : is_complex d ≡ true) (round_c : is_simplex_boundary c ≡ true) (round_d : is_simplex_boundary d ≡ true) (alike : size c ≡ size d) where
  abbrev m : List (ℕ × ℕ)
  m = zip (verts c) (verts d)

  as_many : length (verts d) ≡ length (verts c)
  as_many = vertex_count d simple_d cx_d round_d ∙ ap (λ n. n + 1) (sym alike) ∙ sym (vertex_count c simple_c cx_c round_c)

  map_ok : is_map m c ≡ true
  map_ok = zip_is_map c (verts d) as_many (increasing_distinct (verts d) (verts_increase d))

  renames : Renames m c
  renames = map_renames m c simple_c map_ok

  firsts_are : firsts m ≡ verts c
  firsts_are = firsts-zip (verts c) (verts d) as_many

  seconds_are : seconds m ≡ verts d
  seconds_are = seconds-zip (verts c) (verts d) as_many

  known : (a : ℕ) → In a (verts c) → In a (firsts m)
  known a i = subst (λ l. In a l) (sym firsts_are) i

  image_there : (a : ℕ) → In a (verts c) → In (image_of m a) (verts d)
  image_there a i = subst (λ l. In (image_of m a) l) seconds_are (in_map (λ (p : ℕ × ℕ). p.1) (a, image_of m a) m (image_pair m a (known a i)))

  from_images : (b : ℕ) → In b (verts d) → (a : ℕ) × In a (verts c) × (b ≡ image_of m a)
  from_images b i =
      let p = from_map (λ (q : ℕ × ℕ). q.1) b m (subst (λ l. In b l) (sym seconds_are) i) in (
        p.0.0,
        subst (λ l. In p.0.0 l) firsts_are (in_map (λ (q : ℕ × ℕ). q.0) p.0 m p.1),
        p.2 ∙ sym (pair_image m p.0.0 p.0.1 (firsts_distinct c m map_ok) p.1),
      )

  -- all vertices but one become all images but that one's
  carried : (x : ℕ) → In x (verts c) → relabelled m (without (verts c) x) ≡ without (verts d) (image_of m x)
  carried x i =
      same_labels (relabelled m (without (verts c) x)) (without (verts d) (image_of m x)) (set_up (map (image_of m) (without (verts c) x))) (without_set (verts d) (image_of m x) (verts_increase d))
      (in_within (relabelled m (without (verts c) x)) (without (verts d) (image_of m x)) there)
      (in_within (without (verts d) (image_of m x)) (relabelled m (without (verts c) x)) back)
    where
      there : (b : ℕ) → In b (relabelled m (without (verts c) x)) → In b (without (verts d) (image_of m x))
      there b j =
          let r = from_relabelled m (without (verts c) x) b j in
          let q = from_without (verts c) x r.0 r.1 in
          in_without (verts d) (image_of m x) b (subst (λ z. In z (verts d)) (sym r.2) (image_there r.0 q.0)) (λ e. q.1 (image_apart m r.0 x renames.apart (known r.0 q.0) (known x i) (sym r.2 ∙ e)))

      back : (b : ℕ) → In b (without (verts d) (image_of m x)) → In b (relabelled m (without (verts c) x))
      back b j =
          let q = from_without (verts d) (image_of m x) b j in
          let r = from_images b q.0 in
          subst (λ z. In z (relabelled m (without (verts c) x))) (sym r.2) (in_relabelled m (without (verts c) x) r.0 (in_without (verts c) x r.0 r.1 (λ e. q.1 (r.2 ∙ ap (image_of m) e))))

  image_is_d : image m c ≡ d
  image_is_d =
      same_sets nat_list_cmp_total exact (image m c) d (and_left _ _ (is_complex-generated (map (λ s. in_order nat_cmp (map (image_of m) s)) c))) (and_left _ _ cx_d) there back
    where
      there : (t : List ℕ) → In t (image m c) → In t d
      there t j =
          let s = from_image m c t renames cx_c j in
          let x = from_boundary c simple_c cx_c round_c s.0 s.1 in
          subst (λ u. In u d) (sym (s.2 ∙ ap (relabelled m) x.2 ∙ carried x.0 x.1)) (in_boundary d simple_d cx_d round_d (image_of m x.0) (image_there x.0 x.1))

      back : (t : List ℕ) → In t d → In t (image m c)
      back t j =
          let y = from_boundary d simple_d cx_d round_d t j in
          let x = from_images y.0 y.1 in
          subst (λ u. In u (image m c)) (sym (y.2 ∙ ap (without (verts d)) x.2 ∙ sym (carried x.0 x.1))) (in_image m c (without (verts c) x.0) renames cx_c (in_boundary c simple_c cx_c round_c x.0 x.1))

  carries : is_map_to c d m ≡ true
  carries = and_both _ _ map_ok (ap (λ x. same_facets x d) image_is_d ∙ itself (lists_total nat_list_cmp_total) d)

pub boundaries_are_carried_lem : BoundariesAreCarried
boundaries_are_carried_lem c d simple_c cx_c simple_d cx_d round_c round_d alike =
    first_there c d (zip (verts c) (verts d)) simple_c cx_c (carries c d simple_c cx_c simple_d cx_d round_c round_d alike)
