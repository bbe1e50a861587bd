-- Stacked spheres: each flip is allowed, and what it makes.
use Rattle.std.proofs.Common.{◌≡◌, ℕ, zero, suc, ◌+◌, ◌-◌, ◌*◌, ◌%◌, ◌^◌, ◌<◌, ◌≤◌, true, false, not, cond, ltb, leb, eqb, List, [], ◌∷◌, ◌++◌, map, length, get_or, take, Some, None, refl, sym, ap, ◌∙◌, subst, ◌⊎◌, inl, inr, arith, append-nil, length-append, add-one, mul-le-mul, mod-eq_of_lt}
use Rattle.std.proofs.Math.Nat.{pow-le-pow_right}
use mathlib.Core.Bool.{true≢false}
use Rattle.std.specs.Bool.{IsTrue}
use Rattle.std.specs.Prelude.{◌==◌, option_to_list}
use Rattle.std.specs.List.{list_all, filter, flat_map, range_with_len, remove}
use Rattle.std.specs.Ordering.{nat_cmp}
use Rattle.std.specs.FinMap.{nat_cmp-IsAntisymmetric}
use Rattle.std.proofs.lemmas.Cmp.{nat_cmp_total, nat_list_cmp_total}
use Rattle.std.proofs.lemmas.Bool.{le-leb, cases_lt}
use Rattle.std.proofs.lemmas.Bool.Decides.{nat_tests}
use Rattle.std.proofs.lemmas.List.{length-map, map_more, map-append, append_cancel_right}
use Rattle.std.proofs.lemmas.List.Edits.{length-remove}
use Rattle.std.proofs.lemmas.List.FromFn.{length-range_with_len}
use Rattle.simplex.specs.InOrder.{is_increasing, put, in_order}
use Rattle.simplex.specs.Simplex.{is_within, is_simplex, union, without, simplex_cmp, label_limit, len_limit}
use Rattle.simplex.specs.declared.flip.Flip.{Flip}
use Rattle.simplex.specs.Flip.{class}
use Rattle.simplex.proofs.InOrderLaws.{and_both, in_order_again, is_increasing-in_order}
use Rattle.simplex.proofs.Members.{In, first, later, cases, at_head, none, all_at, all_from, in_filter, from_filter, in_map, from_map, in_either, in_left, in_right, in_order_in, from_in_order, same_sets, same_in_order}
use Rattle.simplex.proofs.SimplexLaws.{within_same, within_in, in_within, from_without, in_without, disjoint_from, above_at, is_increasing-filter}
use Rattle.facet_set.specs.Complex.{verts, facets_with, is_face, generated}
use Rattle.facet_set.specs.Numbers.{weight}
use Rattle.facet_set.specs.Flips.{allowed, flip, ball, fresh, least_missing, after, goes}
use Rattle.facet_set.proofs.ComplexLaws.{exact, is_set, face_at}
use Rattle.facet_set.proofs.FlipLaws.{allowed_from, in_flip, from_flip, in_ball, from_ball, length-without, pure_from, without_none}
use Rattle.facet_set.proofs.OptionLaws.{in_verts, from_verts}
use Rattle.constructions.specs.Spheres.{bdsimplex}
use Rattle.rand_pcg.specs.Lcg.{Lcg}
use Rattle.seeded_words.specs.Words.{generator, word, after_word, words_from, words}
use Rattle.constructions.specs.Stacked.{stacking, stackings, stacking_flips, stacked, stacked_tests, StackedGoes}
use Rattle.constructions.specs.declared.make_fault.MakeFault.TheVariants.{Range, DimLimit, LabelRange, Size}
use Rattle.simplex.specs.FirstFailing.{first_failing}
use Rattle.simplex.proofs.Ranges.{in_range, from_range, range_rising}
use Rattle.simplex.proofs.Decided.{false_from}
use Rattle.constructions.proofs.FrontLaws.{true_below, rising_push, simplex_cone, range_more}
use Rattle.constructions.proofs.LevelLaws.{IsLevel, level_size, level_weight, level_generated, length_in_order, once_map, member_at, from_remove, in_remove}
use Rattle.std.specs.List.{slice_get}
use Rattle.std.proofs.lemmas.Option.{get_or_from_slice_get}
use Rattle.simplex.specs.InOrder.{is_member}
use Rattle.ranked_set.specs.Blocks.{but}
use Rattle.ranked_set.proofs.BlockLaws.{rising_remove}
use Rattle.ranked_set.proofs.SearchLaws.{member_from, remove_is}

-- the simplex with each of its labels replaced by the new one
abbrev pub cones : List ℕ → ℕ → List (List ℕ)
cones a v = map (λ x. without a x ++ v ∷ []) a

-- a complex of dimension d with the vertices 1..m
pub record IsStack (d m : ℕ) (c : List (List ℕ)) : Type 0 where
  pub level : IsLevel (d + 1) c
  pub labels : (s : List ℕ) (x : ℕ) → In s c → In x s → (1 ≤ x) × (x ≤ m)
  pub covers : (x : ℕ) → 1 ≤ x → x ≤ m → (s : List ℕ) × In s c × In x s

-- ---- the least new label
least_range : (n k : ℕ) → least_missing n (range_with_len n k) ≡ n + k
least_range n zero = omega arith
least_range n (suc k) = ap (λ v. cond v (least_missing (n + 1) (range_with_len (n + 1) k)) n) (same n) ∙ least_range (n + 1) k ∙ omega arith
  where
    same : (n : ℕ) → eqb n n ≡ true
    same n = grind (arith, nat_tests)

verts_are : (d m : ℕ) (c : List (List ℕ)) → IsStack d m c → verts c ≡ range_with_len 1 m
verts_are d m c p =
    same_sets nat_cmp_total nat_cmp-IsAntisymmetric (verts c) (range_with_len 1 m) (is_increasing-in_order nat_cmp_total (flat_map (λ s. s) c)) (range_rising 1 m)
    (λ x i. let r = from_verts c x i in let b = p.labels r.0 x r.1 r.2 in in_range 1 m x b.0 (omega (arith, b.1)))
    (λ x i. let b = from_range 1 m x i in let r = p.covers x b.0 (omega (arith, b.1)) in in_verts c r.0 x r.1 r.2)

pub fresh_is : (d m : ℕ) (c : List (List ℕ)) → IsStack d m c → m + 1 ≤ label_limit → fresh c ≡ Some (m + 1)
fresh_is d m c p h =
    let e : least_missing 1 (verts c) ≡ m + 1 = ap (least_missing 1) (verts_are d m c p) ∙ least_range 1 m ∙ omega arith in
    ap (λ a. cond (leb a label_limit) (Some a) None) e ∙ ap (λ v. cond v (Some (m + 1)) None) (le-leb (m + 1) label_limit h)

-- ---- cones
in_last : (s : List ℕ) (x v : ℕ) → In x (s ++ v ∷ []) → In x s ⊎ (x ≡ v)
in_last s x v i = elim (in_either x s (v ∷ []) i) [ inl j ↦ inl j | inr j ↦ elim (cases j) [ inl e ↦ inr e | inr n ↦ absurd (none x n) ] ]

pub from_cones : (a : List ℕ) (v : ℕ) (t : List ℕ) → In t (cones a v) → (x : ℕ) × In x a × (t ≡ without a x ++ v ∷ [])
from_cones a v t i = from_map (λ x. without a x ++ v ∷ []) t a i

another : (a : List ℕ) (x : ℕ) → is_set a ≡ true → 2 ≤ length a → (y : ℕ) × In y a × (x ≡ y → ⊥)
another [] x h n = absurd (omega (arith, n))
another (y ∷ []) x h n = absurd (omega (arith, n))
another (y ∷ z ∷ a) x h n = elim (cases_lt x z) [
  | inl l ↦ (z, later first, λ e. absurd (omega (arith, l, e)))
  | inr l ↦ (y, first, λ e. let b = above_at y (z ∷ a) z h first in absurd (omega (arith, l, e, b)))
]

-- cones put into the rest
module _ (d m : ℕ) (a : List ℕ) (rest : List (List ℕ)) (dim : 1 ≤ d) (set : is_set a ≡ true) (len : length a ≡ d + 1) (own : (x : ℕ) → In x a → (1 ≤ x) × (x ≤ m))
    (level : IsLevel (d + 1) rest) (labels : (s : List ℕ) (x : ℕ) → In s rest → In x s → (1 ≤ x) × (x ≤ m)) (covers : (x : ℕ) → 1 ≤ x → x ≤ m → In x a ⊎ ((s : List ℕ) × In s rest × In x s)) where
  coned : List (List ℕ)
  coned = in_order simplex_cmp (cones a (m + 1) ++ rest)

  from_coned : (t : List ℕ) → In t (in_order simplex_cmp (cones a (m + 1) ++ rest)) → ((x : ℕ) × In x a × (t ≡ without a x ++ (m + 1) ∷ [])) ⊎ In t rest
  from_coned t i = elim (in_either t (cones a (m + 1)) rest (from_in_order nat_list_cmp_total exact t (cones a (m + 1) ++ rest) i)) [ inl j ↦ inl (from_cones a (m + 1) t j) | inr j ↦ inr j ]

  in_cone : (x : ℕ) → In x a → In (without a x ++ (m + 1) ∷ []) (in_order simplex_cmp (cones a (m + 1) ++ rest))
  in_cone x i = in_order_in nat_list_cmp_total exact _ (cones a (m + 1) ++ rest) (in_left _ (cones a (m + 1)) rest (in_map (λ x. without a x ++ (m + 1) ∷ []) x a i))

  in_rest : (t : List ℕ) → In t rest → In t (in_order simplex_cmp (cones a (m + 1) ++ rest))
  in_rest t i = in_order_in nat_list_cmp_total exact t (cones a (m + 1) ++ rest) (in_right t (cones a (m + 1)) rest i)

  set_cone : (x : ℕ) → In x a → is_set (without a x ++ (m + 1) ∷ []) ≡ true
  set_cone x i = rising_push (without a x) (m + 1) (is_increasing-filter nat_cmp (λ y. not (x == y)) a set) (λ y j. let b = (own y (from_without a x y j).0).1 in omega (arith, b))

  length_cone : (x : ℕ) → In x a → length (without a x ++ (m + 1) ∷ []) ≡ d + 1
  length_cone x i = let n = length-without x a set i in let k = length-append (without a x) ((m + 1) ∷ []) in omega (arith, n, k, len)

  pub stack_coned : IsStack d (m + 1) (in_order simplex_cmp (cones a (m + 1) ++ rest))
  stack_coned = record {
    level = record {
      rising = is_increasing-in_order nat_list_cmp_total (cones a (m + 1) ++ rest);
      sets = λ t i. elim (from_coned t i) [ inl r ↦ ap is_set r.2 ∙ set_cone r.0 r.1 | inr j ↦ level.sets t j ];
      lengths = λ t i. elim (from_coned t i) [ inl r ↦ ap length r.2 ∙ length_cone r.0 r.1 | inr j ↦ level.lengths t j ];
    };
    labels = λ t x i j. elim (from_coned t i) [
      | inl r ↦ elim (in_last (without a r.0) x (m + 1) (subst (λ u. In x u) r.2 j)) [
        | inl k ↦ let b = own x (from_without a r.0 x k).0 in (b.0, omega (arith, b.1))
        | inr e ↦ (omega (arith, e), omega (arith, e))
      ]
      | inr k ↦ let b = labels t x k j in (b.0, omega (arith, b.1))
    ];
    covers = λ x h k. elim (cases_lt x (m + 1)) [
      | inl l ↦ elim (covers x h (omega (arith, l))) [
        | inl i ↦ let y = another a x set (omega (arith, len, dim)) in (without a y.0 ++ (m + 1) ∷ [], in_cone y.0 y.1, in_left x (without a y.0) _ (in_without a y.0 x i y.2))
        | inr r ↦ (r.0, in_rest r.0 r.1, r.2)
      ]
      | inr l ↦ let y = another a 0 set (omega (arith, len, dim)) in let e : x ≡ m + 1 = omega (arith, l, k) in
          (without a y.0 ++ (m + 1) ∷ [], in_cone y.0 y.1, in_right x (without a y.0) _ (at_head x (m + 1) [] e))
    ];
  }

  pub length_coned : length (in_order simplex_cmp (cones a (m + 1) ++ rest)) ≡ d + 1 + length rest
  length_coned =
      let once = once_map (λ x. without a x ++ (m + 1) ∷ []) a set (λ x y l i j e.
      let f : without a x ≡ without a y = append_cancel_right (without a x) (without a y) ((m + 1) ∷ []) e in
      (from_without a y y (subst (λ u. In y u) f (in_without a x y j (λ g. absurd (omega (arith, l, g)))))).1 refl) in
      let apart : (t : List ℕ) → In t (cones a (m + 1)) → In t rest → ⊥ = λ t i j.
      let r = from_cones a (m + 1) t i in
      let top : In (m + 1) t = subst (λ u. In (m + 1) u) (sym r.2) (in_right (m + 1) (without a r.0) ((m + 1) ∷ []) first) in
      absurd (omega (arith, (labels t (m + 1) j top).1)) in
      let n = length_in_order (cones a (m + 1)) rest once level.rising apart in
      let k = length-map a (λ x. without a x ++ (m + 1) ∷ []) in
      omega (arith, n, k, len)

-- ---- one flip
module _ (d m : ℕ) (c : List (List ℕ)) (k : ℕ) (dim : 1 ≤ d) (p : IsStack d m c) (at : k < length c) where
  facet : List ℕ
  facet = get_or c k []

  here : In (get_or c k []) c
  here = member_at c k [] at

  set_here : is_set (get_or c k []) ≡ true
  set_here = p.level.sets (get_or c k []) here

  same_facet : (t : List ℕ) → In t c → is_within (get_or c k []) t ≡ true → t ≡ get_or c k []
  same_facet t i w = sym (within_same (get_or c k []) t set_here (p.level.sets t i) w (p.level.lengths (get_or c k []) here ∙ sym (p.level.lengths t i)))

  level_rest : IsLevel (d + 1) (remove c k)
  level_rest = record {
    rising = rising_remove c k p.level.rising;
    sets = λ t i. p.level.sets t (from_remove c k t p.level.rising at i).0;
    lengths = λ t i. p.level.lengths t (from_remove c k t p.level.rising at i).0;
  }

  covers_rest : (x : ℕ) → 1 ≤ x → x ≤ m → In x (get_or c k []) ⊎ ((s : List ℕ) × In s (remove c k) × In x s)
  covers_rest x h l =
      let r = p.covers x h l in
      elim (is_within (get_or c k []) r.0) as (λ v. is_within (get_or c k []) r.0 ≡ v → In x (get_or c k []) ⊎ ((s : List ℕ) × In s (remove c k) × In x s)) [
        | true ↦ λ e. inl (subst (λ u. In x u) (same_facet r.0 r.1 e) r.2)
        | false ↦ λ e. inr (r.0, in_remove c k r.0 r.1 (λ f. true≢false (sym (in_within (get_or c k []) r.0 (λ y i. subst (λ u. In y u) (sym f) i)) ∙ e)), r.2)
      ] refl

  pub stack_next : IsStack d (m + 1) (in_order simplex_cmp (cones (get_or c k []) (m + 1) ++ remove c k))
  stack_next =
      stack_coned d m (get_or c k []) (remove c k) dim set_here (p.level.lengths (get_or c k []) here) (λ x i. p.labels (get_or c k []) x here i) level_rest
      (λ s x i j. p.labels s x (from_remove c k s p.level.rising at i).0 j) covers_rest

  pub length_next : length (in_order simplex_cmp (cones (get_or c k []) (m + 1) ++ remove c k)) ≡ length c + d
  length_next =
      let n = length_coned d m (get_or c k []) (remove c k) dim set_here (p.level.lengths (get_or c k []) here) (λ x i. p.labels (get_or c k []) x here i) level_rest
      (λ s x i j. p.labels s x (from_remove c k s p.level.rising at i).0 j) covers_rest in
      let l = length-remove c k at in
      omega (arith, n, l)

  away : (x : ℕ) → In x (get_or c k []) → x < m + 1
  away x i = let b = (p.labels (get_or c k []) x here i).1 in omega (arith, b)

  cone_union : (x : ℕ) → union ((m + 1) ∷ []) (without (get_or c k []) x) ≡ without (get_or c k []) x ++ (m + 1) ∷ []
  cone_union x =
      let w = without (get_or c k []) x in
      same_in_order nat_cmp_total nat_cmp-IsAntisymmetric ((m + 1) ∷ w) (w ++ (m + 1) ∷ [])
      (λ y i. elim (cases i) [ inl e ↦ in_right y w ((m + 1) ∷ []) (at_head y (m + 1) [] e) | inr j ↦ in_left y w ((m + 1) ∷ []) j ])
      (λ y i. elim (in_last w y (m + 1) i) [ inl j ↦ later j | inr e ↦ at_head y (m + 1) w e ])
      ∙ in_order_again nat_cmp_total nat_cmp-IsAntisymmetric (w ++ (m + 1) ∷ []) (rising_push w (m + 1) (is_increasing-filter nat_cmp (λ y. not (x == y)) (get_or c k []) set_here) (λ y j. away y (from_without (get_or c k []) x y j).0))

  pub flip_is : flip c (get_or c k []) ((m + 1) ∷ []) ≡ in_order simplex_cmp (cones (get_or c k []) (m + 1) ++ remove c k)
  flip_is =
      let a = get_or c k [] in
      let whole = cones (get_or c k []) (m + 1) ++ remove c k in
      same_sets nat_list_cmp_total exact (flip c (get_or c k []) ((m + 1) ∷ [])) (in_order simplex_cmp whole)
      (is_increasing-in_order nat_list_cmp_total (filter (λ s. not (is_within (get_or c k []) s)) c ++ ball ((m + 1) ∷ []) (get_or c k []))) (is_increasing-in_order nat_list_cmp_total whole)
      (λ t i. in_order_in nat_list_cmp_total exact t whole (elim (from_flip c (get_or c k []) ((m + 1) ∷ []) t i) [
        | inl r ↦ in_right t (cones (get_or c k []) (m + 1)) (remove c k) (in_remove c k t r.0 (λ f. true≢false (sym (in_within (get_or c k []) t (λ y i. subst (λ u. In y u) (sym f) i)) ∙ r.1)))
        | inr j ↦ let r = from_ball ((m + 1) ∷ []) (get_or c k []) t j in
            in_left t (cones (get_or c k []) (m + 1)) (remove c k) (subst (λ u. In u (cones (get_or c k []) (m + 1))) (sym (r.2 ∙ cone_union r.0)) (in_map (λ x. without (get_or c k []) x ++ (m + 1) ∷ []) r.0 (get_or c k []) r.1))
      ]))
      (λ t i. in_flip c (get_or c k []) ((m + 1) ∷ []) t (elim (in_either t (cones (get_or c k []) (m + 1)) (remove c k) (from_in_order nat_list_cmp_total exact t whole i)) [
        | inl j ↦ let r = from_cones (get_or c k []) (m + 1) t j in inr (subst (λ u. In u (ball ((m + 1) ∷ []) (get_or c k []))) (sym (r.2 ∙ sym (cone_union r.0))) (in_ball ((m + 1) ∷ []) (get_or c k []) r.0 r.1))
        | inr j ↦ let r = from_remove c k t p.level.rising at j in inl (r.0, false_from (is_within (get_or c k []) t) (λ w. r.1 (same_facet t r.0 w)))
      ]))

  -- the new label without itself
  alone : (v : ℕ) → without (v ∷ []) v ≡ []
  alone v = ap (λ b. cond (not b) (v ∷ []) []) (same v)
    where
      same : (v : ℕ) → eqb v v ≡ true
      same v = grind (arith, nat_tests)

  whole_union : union (get_or c k []) (without ((m + 1) ∷ []) (m + 1)) ≡ get_or c k []
  whole_union = ap (union (get_or c k [])) (alone (m + 1)) ∙ ap (in_order nat_cmp) (append-nil (get_or c k [])) ∙ in_order_again nat_cmp_total nat_cmp-IsAntisymmetric (get_or c k []) set_here

  star_is : facets_with c (get_or c k []) ≡ ball (get_or c k []) ((m + 1) ∷ [])
  star_is =
      same_sets nat_list_cmp_total exact (facets_with c (get_or c k [])) (ball (get_or c k []) ((m + 1) ∷ []))
      (is_increasing-filter simplex_cmp (is_within (get_or c k [])) c p.level.rising) (is_increasing-in_order nat_list_cmp_total (map (λ x. union (get_or c k []) (without ((m + 1) ∷ []) x)) ((m + 1) ∷ [])))
      (λ t i. let r = from_filter (is_within (get_or c k [])) t c i in
      subst (λ u. In u (ball (get_or c k []) ((m + 1) ∷ []))) (whole_union ∙ sym (same_facet t r.0 r.1)) (in_ball (get_or c k []) ((m + 1) ∷ []) (m + 1) first))
      (λ t i. let r = from_ball (get_or c k []) ((m + 1) ∷ []) t i in
      elim (cases r.1) [
        | inl e ↦ let f : t ≡ get_or c k [] = r.2 ∙ ap (λ x. union (get_or c k []) (without ((m + 1) ∷ []) x)) e ∙ whole_union in
            subst (λ u. In u (facets_with c (get_or c k []))) (sym f) (in_filter (is_within (get_or c k [])) (get_or c k []) c here (in_within (get_or c k []) (get_or c k []) (λ y j. j)))
        | inr n ↦ absurd (none r.0 n)
      ])

  pub stacking_allowed : allowed c (get_or c k []) ((m + 1) ∷ []) ≡ true
  stacking_allowed =
      let n = p.level.lengths (get_or c k []) here in
      let e = level_size (d + 1) c (get_or c k []) here p.level in
      allowed_from c (get_or c k []) ((m + 1) ∷ []) (record {
        pure = pure_from c (d + 1) (get_or c k []) here p.level.lengths;
        sizes = (omega (arith, n), omega arith, omega (arith, n, e));
        apart = disjoint_from (get_or c k []) ((m + 1) ∷ []) (λ x i j. elim (cases j) [ inl e ↦ absurd (omega (arith, away x i, e)) | inr o ↦ none x o ]);
        star = star_is;
        absent = false_from (is_face c ((m + 1) ∷ [])) (λ f. let r = face_at c ((m + 1) ∷ []) f in absurd (omega (arith, (p.labels r.0 (m + 1) r.1 (within_in ((m + 1) ∷ []) r.0 (m + 1) r.2 first)).1)));
      })

-- ---- one word
mod_below : (w n : ℕ) → 0 < n → w % n < n
mod_below w n h = omega arith

module _ (d m : ℕ) (c : List (List ℕ)) (w : ℕ) (dim : 1 ≤ d) (p : IsStack d m c) (some : 0 < length c) (fits : m + 1 ≤ label_limit) where
  new_label : option_to_list (fresh c) ≡ (m + 1) ∷ []
  new_label = ap option_to_list (fresh_is d m c p fits)

  within : w % length c < length c
  within = mod_below w (length c) some

  pub word_allowed : allowed c (stacking c w).a (stacking c w).b ≡ true
  word_allowed = ap (allowed c (get_or c (w % length c) [])) new_label ∙ stacking_allowed d m c (w % length c) dim p within

  pub word_flip : flip c (stacking c w).a (stacking c w).b ≡ in_order simplex_cmp (cones (get_or c (w % length c) []) (m + 1) ++ remove c (w % length c))
  word_flip = ap (flip c (get_or c (w % length c) [])) new_label ∙ flip_is d m c (w % length c) dim p within

  pub word_stack : IsStack d (m + 1) (flip c (stacking c w).a (stacking c w).b)
  word_stack = subst (λ e. IsStack d (m + 1) e) (sym word_flip) (stack_next d m c (w % length c) dim p within)

  pub word_length : length (flip c (stacking c w).a (stacking c w).b) ≡ length c + d
  word_length = ap length word_flip ∙ length_next d m c (w % length c) dim p within

  pub word_class : leb (class (stacking c w)) 0 ≡ true
  word_class = ap (λ b. leb (length b - 1) 0) new_label

-- ---- a list of words
pub record AreStacked (d m : ℕ) (c : List (List ℕ)) (ws : List ℕ) : Type 0 where
  pub go : goes c (stackings c ws) ≡ true
  pub count : length (stackings c ws) ≡ length ws
  pub classes : list_all (λ (m : Flip). leb (class m) 0) (stackings c ws) ≡ true
  pub stack : IsStack d (m + length ws) (after c (stackings c ws))
  pub facets : length (after c (stackings c ws)) ≡ length c + d * length ws

pub are_stacked : (d m : ℕ) (c : List (List ℕ)) (ws : List ℕ) → 1 ≤ d → IsStack d m c → 0 < length c → m + length ws ≤ label_limit → AreStacked d m c ws
are_stacked d m c [] dim p some fits = record {
  go = refl;
  count = refl;
  classes = refl;
  stack = subst (λ k. IsStack d k c) (omega arith) p;
  facets = omega arith;
}
are_stacked d m c (w ∷ ws) dim p some fits =
    let fit : m + 1 ≤ label_limit = omega arith in
    let next = flip c (stacking c w).a (stacking c w).b in
    let n = word_length d m c w dim p some fit in
    let r = are_stacked d (m + 1) next ws dim (word_stack d m c w dim p some fit) (omega (arith, n, some)) (omega (arith, fits)) in
    record {
      go = and_both _ _ (word_allowed d m c w dim p some fit) r.go;
      count = ap suc r.count;
      classes = and_both _ _ (word_class d m c w dim p some fit) r.classes;
      stack = subst (λ k. IsStack d k (after next (stackings next ws))) (omega arith) r.stack;
      facets = r.facets ∙ ap (λ k. k + d * length ws) n ∙ sum (length c) d (length ws);
    }
  where
    sum : (a d k : ℕ) → a + d + d * k ≡ a + d * suc k
    sum a d k = omega arith

-- ---- the start
map_same : (f g : ℕ → List ℕ) (xs : List ℕ) → ((x : ℕ) → In x xs → f x ≡ g x) → map f xs ≡ map g xs
map_same f g [] h = refl
map_same f g (x ∷ xs) h = λ i. h x first i ∷ map_same f g xs (λ y j. h y (later j)) i

without-append : (s t : List ℕ) (x : ℕ) → without (s ++ t) x ≡ without s x ++ without t x
without-append [] t x = refl
without-append (y ∷ s) t x =
    elim (x == y) as (λ v. cond (not v) (y ∷ without (s ++ t) x) (without (s ++ t) x) ≡ cond (not v) (y ∷ without s x) (without s x) ++ without t x) [
      | true ↦ without-append s t x
      | false ↦ ap (λ u. y ∷ u) (without-append s t x)
    ]

pub start_is : (d : ℕ) → in_order simplex_cmp (cones (range_with_len 1 (d + 1)) (d + 2) ++ range_with_len 1 (d + 1) ∷ []) ≡ bdsimplex (d + 1)
start_is d =
    let base = range_with_len 1 (d + 1) in
    let more : d + 1 + 1 ≡ suc (d + 1) = add-one (d + 1) in
    let last : 1 + (d + 1) ≡ d + 2 = omega arith in
    let all : range_with_len 1 (d + 1 + 1) ≡ base ++ (d + 2) ∷ [] = ap (range_with_len 1) more ∙ range_more 1 (d + 1) ∙ ap (λ x. base ++ x ∷ []) last in
    let each : map (without (base ++ (d + 2) ∷ [])) base ≡ cones base (d + 2) = map_same (without (base ++ (d + 2) ∷ [])) (λ x. without base x ++ (d + 2) ∷ []) base (λ x i.
    without-append base ((d + 2) ∷ []) x ∙ ap (λ u. without base x ++ u) (without_none x ((d + 2) ∷ []) (λ j. elim (cases j) [ inl e ↦ (let b = (from_range 1 (d + 1) x i).1 in absurd (omega (arith, b, e))) | inr n ↦ none x n ]))) in
    let top : without (base ++ (d + 2) ∷ []) (d + 2) ≡ base = without-append base ((d + 2) ∷ []) (d + 2)
    ∙ ap (λ u. without base (d + 2) ++ u) (alone_again (d + 2)) ∙ append-nil (without base (d + 2)) ∙ without_none (d + 2) base (λ i. let b = (from_range 1 (d + 1) (d + 2) i).1 in absurd (omega (arith, b))) in
    ap (in_order simplex_cmp) (
    ap (λ u. u ++ base ∷ []) (sym each) ∙ ap (λ u. map (without (base ++ (d + 2) ∷ [])) base ++ u ∷ []) (sym top)
    ∙ sym (map-append (without (base ++ (d + 2) ∷ [])) base ((d + 2) ∷ []))
    ∙ ap (λ u. map (without u) u) (sym all))
  where
    alone_again : (v : ℕ) → without (v ∷ []) v ≡ []
    alone_again v = ap (λ b. cond (not b) (v ∷ []) []) (same v)
      where
        same : (v : ℕ) → eqb v v ≡ true
        same v = grind (arith, nat_tests)

module _ (d : ℕ) (dim : 1 ≤ d) where
  start_level : IsLevel (d + 1) (range_with_len 1 (d + 1) ∷ [])
  start_level = record {
    rising = refl;
    sets = λ s i. elim (cases i) [ inl e ↦ ap is_set e ∙ range_rising 1 (d + 1) | inr n ↦ absurd (none s n) ];
    lengths = λ s i. elim (cases i) [ inl e ↦ ap length e ∙ length-range_with_len 1 (d + 1) | inr n ↦ absurd (none s n) ];
  }

  start_own : (x : ℕ) → In x (range_with_len 1 (d + 1)) → (1 ≤ x) × (x ≤ d + 1)
  start_own x i = let b = from_range 1 (d + 1) x i in (b.0, omega (arith, b.1))

  start_labels : (s : List ℕ) (x : ℕ) → In s (range_with_len 1 (d + 1) ∷ []) → In x s → (1 ≤ x) × (x ≤ d + 1)
  start_labels s x i j = elim (cases i) [ inl e ↦ start_own x (subst (λ u. In x u) e j) | inr n ↦ absurd (none s n) ]

  start_covers : (x : ℕ) → 1 ≤ x → x ≤ d + 1 → In x (range_with_len 1 (d + 1)) ⊎ ((s : List ℕ) × In s (range_with_len 1 (d + 1) ∷ []) × In x s)
  start_covers x h k = inl (in_range 1 (d + 1) x h (omega (arith, k)))

  start_same : in_order simplex_cmp (cones (range_with_len 1 (d + 1)) (d + 1 + 1) ++ range_with_len 1 (d + 1) ∷ []) ≡ bdsimplex (d + 1)
  start_same = ap (λ v. in_order simplex_cmp (cones (range_with_len 1 (d + 1)) v ++ range_with_len 1 (d + 1) ∷ [])) (omega arith) ∙ start_is d

  pub start_stack : IsStack d (d + 2) (bdsimplex (d + 1))
  start_stack =
      let s = stack_coned d (d + 1) (range_with_len 1 (d + 1)) (range_with_len 1 (d + 1) ∷ []) dim (range_rising 1 (d + 1)) (length-range_with_len 1 (d + 1)) start_own start_level start_labels start_covers in
      subst (λ m. IsStack d m (bdsimplex (d + 1))) (omega arith) (subst (λ c. IsStack d (d + 1 + 1) c) start_same s)

  pub start_length : length (bdsimplex (d + 1)) ≡ d + 2
  start_length =
      sym (ap length start_same) ∙ length_coned d (d + 1) (range_with_len 1 (d + 1)) (range_with_len 1 (d + 1) ∷ []) dim (range_rising 1 (d + 1)) (length-range_with_len 1 (d + 1)) start_own start_level start_labels start_covers
      ∙ omega arith

-- ---- the whole
length-words : (n : ℕ) (g : Lcg) → length (words_from n g) ≡ n
length-words zero g = refl
length-words (suc n) g = ap suc (length-words n (after_word g))

pub whole_stacked : (d n seed : ℕ) → 1 ≤ d → d + 2 + n ≤ label_limit → AreStacked d (d + 2) (bdsimplex (d + 1)) (words n seed)
whole_stacked d n seed dim fits =
    let e = length-words n (generator seed) in
    are_stacked d (d + 2) (bdsimplex (d + 1)) (words n seed) dim (start_stack d dim) (omega (arith, start_length d dim)) (omega (arith, e, fits))

pub stacked_goes_lem : StackedGoes
unfolding stacking_flips stacked
stacked_goes_lem d n seed dim short fits = let r = whole_stacked d n seed dim fits in (r.go, r.count ∙ length-words n (generator seed), r.classes, refl)

pub stacked_stack : (d n seed : ℕ) → 1 ≤ d → d + 2 + n ≤ label_limit → IsStack d (d + 2 + n) (stacked d n seed)
unfolding stacking_flips stacked
stacked_stack d n seed dim fits = subst (λ k. IsStack d (d + 2 + k) (stacked d n seed)) (length-words n (generator seed)) (whole_stacked d n seed dim fits).stack

pub stacked_weight : (d n seed : ℕ) → 1 ≤ d → d + 2 + n ≤ label_limit → weight (stacked d n seed) ≡ (d + 2 + d * n) * 2 ^ (d + 1)
unfolding stacking_flips stacked
stacked_weight d n seed dim fits =
    let r = whole_stacked d n seed dim fits in
    level_weight (d + 1) (stacked d n seed) r.stack.level ∙ ap (λ k. k * 2 ^ (d + 1)) (r.facets ∙ ap (λ k. length (bdsimplex (d + 1)) + d * k) (length-words n (generator seed)) ∙ ap (λ k. k + d * n) (start_length d dim))

-- ---- the code's steps
pub cones_none : (c : List (List ℕ)) → is_increasing simplex_cmp c ≡ true → c ≡ in_order simplex_cmp c
cones_none c h = sym (in_order_again nat_list_cmp_total exact c h)

pub cone_fits : (base seen w : List ℕ) (i label : ℕ) → seen ≡ base → IsTrue (is_simplex base) → i < length seen → list_all (λ x. ltb x label) base ≡ true → label ≤ label_limit → w ≡ without base (get_or seen i 0) → IsTrue (is_simplex w) → IsTrue (is_simplex (w ++ label ∷ []))
cone_fits base seen w i label e h l b m f s =
    let x = get_or seen i 0 in
    let i : In x base = subst (λ u. In x u) e (member_at seen i 0 l) in
    subst (λ u. IsTrue (is_simplex (u ++ label ∷ []))) (sym f) (simplex_cone base x label h i b m (subst (λ u. IsTrue (is_simplex u)) f s))

pub cones_more : (base seen : List ℕ) (i v : ℕ) (now next rest : List (List ℕ)) (w s : List ℕ) → seen ≡ base → i < length seen → now ≡ in_order simplex_cmp (map (λ x. without base x ++ v ∷ []) (take i base) ++ rest)
    → w ≡ without base (get_or seen i 0) → s ≡ w ++ v ∷ [] → next ≡ put simplex_cmp s now → next ≡ in_order simplex_cmp (map (λ x. without base x ++ v ∷ []) (take (i + 1) base) ++ rest)
cones_more base seen i v now next rest w s e l h f g n =
    let cone = λ (x : ℕ). without base x ++ v ∷ [] in
    let x = get_or base i 0 in
    let front = map cone (take i base) in
    let is : s ≡ cone x = g ∙ ap (λ u. u ++ v ∷ []) (f ∙ ap (λ u. without base (get_or u i 0)) e) in
    let more : map cone (take (i + 1) base) ≡ front ++ cone x ∷ [] = map_more cone base i 0 (subst (λ u. i < length u) e l) in
    n ∙ ap (λ u. put simplex_cmp u now) is ∙ ap (put simplex_cmp (cone x)) h
    ∙ same_in_order nat_list_cmp_total exact (cone x ∷ (front ++ rest)) ((front ++ cone x ∷ []) ++ rest)
    (λ t i. elim (cases i) [
      | inl q ↦ in_left t (front ++ cone x ∷ []) rest (in_right t front (cone x ∷ []) (at_head t (cone x) [] q))
      | inr j ↦ elim (in_either t front rest j) [ inl k ↦ in_left t (front ++ cone x ∷ []) rest (in_left t front (cone x ∷ []) k) | inr k ↦ in_right t (front ++ cone x ∷ []) rest k ]
    ])
    (λ t i. elim (in_either t (front ++ cone x ∷ []) rest i) [
      | inl j ↦ elim (in_either t front (cone x ∷ []) j) [ inl k ↦ later (in_left t front rest k) | inr k ↦ elim (cases k) [ inl q ↦ at_head t (cone x) (front ++ rest) q | inr o ↦ absurd (none t o) ] ]
      | inr j ↦ later (in_right t front rest j)
    ])
    ∙ ap (λ u. in_order simplex_cmp (u ++ rest)) (sym more)

pub base_below : (d : ℕ) (base : List ℕ) → base ≡ range_with_len 1 (d + 1) → list_all (λ x. ltb x (d + 2)) base ≡ true
base_below d base e = all_from (λ x. ltb x (d + 2)) base (λ x i. let b = (from_range 1 (d + 1) x (subst (λ u. In x u) e i)).1 in true_below x (d + 2) (omega (arith, b)))

pub start_value : (d : ℕ) (base : List ℕ) (empty one all : List (List ℕ)) → base ≡ range_with_len 1 (d + 1) → empty ≡ [] → one ≡ put simplex_cmp base empty → all ≡ in_order simplex_cmp (cones base (d + 2) ++ one) → all ≡ bdsimplex (d + 1)
start_value d base empty one all e f g h =
    h ∙ ap (λ u. in_order simplex_cmp (cones base (d + 2) ++ u)) (g ∙ ap (put simplex_cmp base) f) ∙ ap (λ u. in_order simplex_cmp (cones u (d + 2) ++ u ∷ [])) e ∙ start_is d

-- the first state of the loop
pub build_start : (d n seed : ℕ) (c : List (List ℕ)) (g : Lcg) → c ≡ bdsimplex (d + 1) → g ≡ generator seed → after c (stackings c (words_from (n - 0) g)) ≡ stacked d n seed
unfolding stacking_flips stacked
build_start d n seed c g e f = ap (λ u. after u (stackings u (words_from (n - 0) g))) e ∙ ap (λ u. after (bdsimplex (d + 1)) (stackings (bdsimplex (d + 1)) (words_from (n - 0) u))) f ∙ ap (λ k. after (bdsimplex (d + 1)) (stackings (bdsimplex (d + 1)) (words_from k (generator seed)))) (whole n)
  where
    whole : (n : ℕ) → n - 0 ≡ n
    whole n = omega arith

pub build_stack : (d : ℕ) (c : List (List ℕ)) → 1 ≤ d → c ≡ bdsimplex (d + 1) → IsStack d (d + 2 + 0) c × (length c ≡ d + 2 + d * 0)
build_stack d c dim e = (subst (λ m. IsStack d m c) (omega arith) (subst (λ u. IsStack d (d + 2) u) (sym e) (start_stack d dim)), ap length e ∙ start_length d dim ∙ omega arith)

pub all_below : (d k : ℕ) (c : List (List ℕ)) → IsStack d (d + 2 + k) c → list_all (λ s. list_all (λ x. ltb x (d + 3 + k)) s) c ≡ true
all_below d k c p = all_from (λ s. list_all (λ x. ltb x (d + 3 + k)) s) c (λ s i. all_from (λ x. ltb x (d + 3 + k)) s (λ x j. let b = (p.labels s x i j).1 in true_below x (d + 3 + k) (omega (arith, b))))

-- one turn of the loop
pub record IsTurn (d n k : ℕ) (c next : List (List ℕ)) (g g' : Lcg) (w count label : ℕ) (total : List (List ℕ)) : Type 0 where
  pub dim : 1 ≤ d
  pub more : k < n
  pub fits : d + 2 + n ≤ label_limit
  pub stack : IsStack d (d + 2 + k) c
  pub length_is : length c ≡ d + 2 + d * k
  pub count_is : count ≡ length c
  pub label_is : label ≡ d + 2 + k + 1
  pub word_is : w ≡ word g
  pub after_is : g' ≡ after_word g
  pub next_is : next ≡ in_order simplex_cmp (cones (get_or c (w % count) []) label ++ remove c (w % count))
  pub value : after c (stackings c (words_from (n - k) g)) ≡ total

module _ (d n k : ℕ) (c next : List (List ℕ)) (g g' : Lcg) (w count label : ℕ) (total : List (List ℕ)) (t : IsTurn d n k c next g g' w count label total) where
  turn_some : 0 < length c
  turn_some = let e = t.length_is in omega arith

  turn_fits : d + 2 + k + 1 ≤ label_limit
  turn_fits = let h = t.more in let f = t.fits in omega arith

  turn_flip : next ≡ flip c (stacking c (word g)).a (stacking c (word g)).b
  turn_flip =
      t.next_is ∙ ap (λ v. in_order simplex_cmp (cones (get_or c (w % count) []) v ++ remove c (w % count))) t.label_is
      ∙ ap (λ v. in_order simplex_cmp (cones (get_or c (w % v) []) (d + 2 + k + 1) ++ remove c (w % v))) t.count_is
      ∙ ap (λ v. in_order simplex_cmp (cones (get_or c (v % length c) []) (d + 2 + k + 1) ++ remove c (v % length c))) t.word_is
      ∙ sym (word_flip d (d + 2 + k) c (word g) t.dim t.stack turn_some turn_fits)

  pub turn_value : after next (stackings next (words_from (n - (k + 1)) g')) ≡ total
  turn_value =
      let h = t.more in
      let left : n - k ≡ suc (n - (k + 1)) = omega arith in
      ap (λ u. after u (stackings u (words_from (n - (k + 1)) g'))) turn_flip
      ∙ ap (λ u. let f = flip c (stacking c (word g)).a (stacking c (word g)).b in after f (stackings f (words_from (n - (k + 1)) u))) t.after_is
      ∙ ap (λ j. after c (stackings c (words_from j g))) (sym left)
      ∙ t.value

  pub turn_stack : IsStack d (d + 2 + (k + 1)) next
  turn_stack = subst (λ m. IsStack d m next) (omega arith) (subst (λ u. IsStack d (d + 2 + k + 1) u) (sym turn_flip) (word_stack d (d + 2 + k) c (word g) t.dim t.stack turn_some turn_fits))

  pub turn_length : length next ≡ d + 2 + d * (k + 1)
  turn_length =
      let n = word_length d (d + 2 + k) c (word g) t.dim t.stack turn_some turn_fits in
      ap length turn_flip ∙ n ∙ ap (λ j. j + d) t.length_is ∙ sum d k
    where
      sum : (d k : ℕ) → d + 2 + d * k + d ≡ d + 2 + d * (k + 1)
      sum d k = omega arith

-- the last state
pub build_end : (d n k : ℕ) (c list seen total : List (List ℕ)) (g : Lcg) → n ≤ k → IsStack d (d + 2 + k) c → after c (stackings c (words_from (n - k) g)) ≡ total → list ≡ c → seen ≡ list → generated seen ≡ total
build_end d n k c list seen total g h p v e f =
    let done : n - k ≡ 0 = omega arith in
    ap generated (f ∙ e) ∙ level_generated (d + 1) c p.level ∙ sym (ap (λ j. after c (stackings c (words_from j g))) done) ∙ v

-- ---- the conditions
module _ (d n seed room : ℕ) (dim : 1 ≤ d) (short : d + 1 ≤ len_limit) (fits : d + 2 + n ≤ label_limit) where
  tests_are : first_failing (stacked_tests d n seed room) ≡ cond (leb (weight (stacked d n seed)) room) None (Some Size)
  tests_are =
      let last = cond (leb (weight (stacked d n seed)) room) None (Some Size) in
      ap (λ v. cond v (cond (leb (d + 1) len_limit) (cond (leb (d + 2 + n) label_limit) last (Some LabelRange)) (Some DimLimit)) (Some Range)) (le-leb 1 d dim)
      ∙ ap (λ v. cond v (cond (leb (d + 2 + n) label_limit) last (Some LabelRange)) (Some DimLimit)) (le-leb (d + 1) len_limit short)
      ∙ ap (λ v. cond v last (Some LabelRange)) (le-leb (d + 2 + n) label_limit fits)

  pub size_fails : (w : ℕ) → w ≡ (d + 2 + d * n) * 2 ^ (d + 1) → room < w → Some Size ≡ first_failing (stacked_tests d n seed room)
  size_fails w e h = sym (tests_are ∙ ap (λ v. cond v None (Some Size)) (ap (λ k. leb k room) (stacked_weight d n seed dim fits ∙ sym e) ∙ above room w h))
    where
      above : (room w : ℕ) → room < w → leb w room ≡ false
      above room w h = grind (arith, nat_tests)

  pub size_passes : (w : ℕ) → w ≡ (d + 2 + d * n) * 2 ^ (d + 1) → w ≤ room → None ≡ first_failing (stacked_tests d n seed room)
  size_passes w e h = sym (tests_are ∙ ap (λ v. cond v None (Some Size)) (ap (λ k. leb k room) (stacked_weight d n seed dim fits ∙ sym e) ∙ le-leb w room h))

-- the weight fits its integer
pub weight_fits : (d n : ℕ) → d < 12 → n ≤ 999998 - d → (d + 2 + d * n) * 2 ^ (d + 1) % 18446744073709551616 ≡ (d + 2 + d * n) * 2 ^ (d + 1)
weight_fits d n h k =
    let many : d * n ≤ 12 * 1000000 = mul-le-mul {n₂ = 12} {m₂ = 1000000} (omega arith) (omega arith) in
    let power : 2 ^ (d + 1) ≤ 2 ^ 12 = pow-le-pow_right {n = 2} (omega arith) {i = d + 1} {j = 12} (omega arith) in
    let all : (d + 2 + d * n) * 2 ^ (d + 1) ≤ 12000014 * 2 ^ 12 = mul-le-mul {n₂ = 12000014} {m₂ = 2 ^ 12} (omega arith) power in
    mod-eq_of_lt (omega arith)

-- ---- a facet taken out
module _ (c left : List (List ℕ)) (i : ℕ) (f : List ℕ) (up : is_increasing simplex_cmp c ≡ true) (l : i < length c) (there : Some f ≡ slice_get c i) where
  out_is : get_or c i [] ≡ f
  out_is = get_or_from_slice_get c i f [] (sym there)

  out_in : In f c
  out_in = subst (λ x. In x c) out_is (member_at c i [] l)

  pub out_member : is_member simplex_cmp f c ≡ true
  out_member = member_from f c out_in

  pub out_labels : (label : ℕ) → list_all (λ s. list_all (λ x. ltb x label) s) c ≡ true → list_all (λ x. ltb x label) f ≡ true
  out_labels label h = all_at (λ s. list_all (λ x. ltb x label) s) f c h out_in

  pub out_rest : left ≡ but f c → left ≡ remove c i
  out_rest e = e ∙ sym (remove_is c i f up l out_is)

  pub out_rising : left ≡ but f c → is_increasing simplex_cmp left ≡ true
  out_rising e = ap (is_increasing simplex_cmp) (out_rest e) ∙ rising_remove c i up

  pub out_value : (next : List (List ℕ)) (v : ℕ) → left ≡ but f c → next ≡ in_order simplex_cmp (map (λ x. without f x ++ v ∷ []) f ++ left)
      → next ≡ in_order simplex_cmp (map (λ x. without (get_or c i []) x ++ v ∷ []) (get_or c i []) ++ remove c i)
  out_value next v e h =
      h ∙ (λ j. in_order simplex_cmp (map (λ x. without (sym out_is j) x ++ v ∷ []) (sym out_is j) ++ out_rest e j))
