-- How the corners change with facets that go and come.
use Rattle.std.proofs.Common.{◌≡◌, ℕ, suc, zero, ◌+◌, ◌≤◌, ◌<◌, Bool, true, false, not, ◌&&◌, List, [], ◌∷◌, map, length, get_or, take, refl, sym, ap, ◌∙◌, subst, ◌⊎◌, inl, inr, arith, ltb, leb}
use Rattle.std.specs.Prelude.{◌==◌}
use Rattle.std.specs.Ordering.{is_eq}
use Rattle.std.specs.List.{list_all}
use Rattle.std.specs.BTreeSet.{insert_key}
use Rattle.std.specs.Set.{remove_key}
use Rattle.std.proofs.lemmas.Bool.Decides.{nat_tests}
use Rattle.std.proofs.lemmas.List.{take_more}
use mathlib.Core.Bool.{true≢false}
use Rattle.simplex.specs.Simplex.{is_label, is_simplex, is_within, is_disjoint, union, without}
use Rattle.simplex.proofs.Filled.{labels_of, simplex_from}
use Rattle.std.proofs.lemmas.Cmp.{nat_list_cmp_total}
use Rattle.simplex.proofs.InOrderLaws.{and_left, and_right, is_increasing-in_order}
use Rattle.simplex.proofs.Members.{In, same_sets, cases, none, at_head, in_left, in_right, in_either, all_at, all_from, in_filter, from_filter, in_map, from_map}
use Rattle.simplex.proofs.SimplexLaws.{from_union, from_without, is_increasing-union}
use Rattle.simplex.proofs.Decided.{false_from}
use Rattle.facet_set.specs.Complex.{generated, is_complex, is_face, facets_with}
use Rattle.facet_set.specs.Numbers.{is_pure, size}
use Rattle.facet_set.specs.Flips.{allowed, ball, flip, same_facets}
use Rattle.facet_set.proofs.ComplexLaws.{exact, is_set, in_simplices, from_simplices, generated_same, generated_again}
use Rattle.facet_set.proofs.FlipLaws.{Parts, parts_of, pure_at, from_flip, in_flip, from_ball, flips_back_lem, complex_after, small, some_label}
use Rattle.flip_certificate.specs.Valid.{is_pure_from}
use Rattle.facet_set.specs.Star.{is_counted_star}
use Rattle.facet_set.proofs.StarLaws.{counted_star}
use Rattle.cert_replay.specs.Corners.{corner_cmp, facets_of, AreCorners, HasMore, HasLess, HasAll, HasNone, IsTable}
use Rattle.cert_replay.proofs.CornerLaws.{Corner, from_insert, to_insert, from_remove, to_remove, other_corner}

-- ---- one more member of a front
module _ {X : Type 0} where
  pub in_more : (xs : List X) (i : ℕ) (d x : X) → i < length xs → In x (take i xs) ⊎ (x ≡ get_or xs i d) → In x (take (i + 1) xs)
  in_more xs i d x h j = subst (λ l. In x l) (sym (take_more xs i d h)) (elim j [
    | inl k ↦ in_left x (take i xs) (get_or xs i d ∷ []) k
    | inr e ↦ in_right x (take i xs) (get_or xs i d ∷ []) (at_head x (get_or xs i d) [] e)
  ])

  pub from_more : (xs : List X) (i : ℕ) (d x : X) → i < length xs → In x (take (i + 1) xs) → In x (take i xs) ⊎ (x ≡ get_or xs i d)
  from_more xs i d x h j = elim (in_either x (take i xs) (get_or xs i d ∷ []) (subst (λ l. In x l) (take_more xs i d h) j)) [
    | inl k ↦ inl k
    | inr k ↦ elim (cases k) [ inl e ↦ inr e | inr n ↦ absurd (none x n) ]
  ]

-- ---- the corners of one facet, label by label
abbrev pub MoreTo : List ℕ → ℕ → List Corner → List Corner → Type 0
MoreTo s i old keys = (p : Corner) → (In p keys → In p old ⊎ ((p.1 ≡ s) × In p.0 (take i s))) × (In p old ⊎ ((p.1 ≡ s) × In p.0 (take i s)) → In p keys)

abbrev pub LessTo : List ℕ → ℕ → List Corner → List Corner → Type 0
LessTo s i old keys = (p : Corner) → (In p keys → In p old × ((p.1 ≡ s) × In p.0 (take i s) → ⊥)) × (In p old × ((p.1 ≡ s) × In p.0 (take i s) → ⊥) → In p keys)

pub more_label : (s : List ℕ) (old keys : List Corner) (i v : ℕ) → i < length s → v ≡ get_or s i 0 → MoreTo s i old keys → MoreTo s (i + 1) old (insert_key corner_cmp keys (v, s))
more_label s old keys i v h e inv p = (
  λ j. elim (from_insert (v, s) p keys j) [
    | inl f ↦ inr (ap (λ (q : Corner). q.1) f, in_more s i 0 p.0 h (inr (ap (λ (q : Corner). q.0) f ∙ e)))
    | inr k ↦ elim ((inv p).0 k) [ inl o ↦ inl o | inr q ↦ inr (q.0, in_more s i 0 p.0 h (inl q.1)) ]
  ],
  λ j. elim j [
    | inl o ↦ to_insert (v, s) p keys (inr ((inv p).1 (inl o)))
    | inr q ↦ elim (from_more s i 0 p.0 h q.1) [
      | inl l ↦ to_insert (v, s) p keys (inr ((inv p).1 (inr (q.0, l))))
      | inr f ↦ (let x : p.0 ≡ v = f ∙ sym e in to_insert (v, s) p keys (inl (λ t. (x t, q.0 t))))
    ]
  ],
)

pub less_label : (s : List ℕ) (old keys : List Corner) (i v : ℕ) → i < length s → v ≡ get_or s i 0 → (In (v, s) (remove_key (λ x. is_eq (corner_cmp (v, s) x)) keys) → ⊥)
    → LessTo s i old keys → LessTo s (i + 1) old (remove_key (λ x. is_eq (corner_cmp (v, s) x)) keys)
less_label s old keys i v h e out inv p = (
  λ j.
      let k = (inv p).0 (from_remove (λ x. is_eq (corner_cmp (v, s) x)) p keys j) in (
        k.0,
        λ q. elim (from_more s i 0 p.0 h q.1) [
          | inl l ↦ k.1 (q.0, l)
          | inr f ↦ (let x : p.0 ≡ v = f ∙ sym e in out (subst (λ (r : Corner). In r (remove_key (λ x. is_eq (corner_cmp (v, s) x)) keys)) (λ t. (x t, q.0 t)) j))
        ],
      ),
  λ q.
      to_remove (λ x. is_eq (corner_cmp (v, s) x)) p keys ((inv p).1 (q.0, λ r. q.1 (r.0, in_more s i 0 p.0 h (inl r.1))))
      (other_corner (v, s) p (λ f. q.1 (ap (λ (r : Corner). r.1) f, in_more s i 0 p.0 h (inr (ap (λ (r : Corner). r.0) f ∙ e))))),
)

-- ---- facet by facet
pub more_facet : (cs : List (List ℕ)) (old keys new : List Corner) (i : ℕ) (s : List ℕ) → i < length cs → s ≡ get_or cs i s → HasAll (take i cs) old keys → HasMore s keys new → HasAll (take (i + 1) cs) old new
more_facet cs old keys new i s h e inv more p = (
  λ j. elim ((more p).0 j) [
    | inl k ↦ elim ((inv p).0 k) [ inl o ↦ inl o | inr q ↦ inr (in_more cs i s p.1 h (inl q.0), q.1) ]
    | inr q ↦ inr (in_more cs i s p.1 h (inr (q.0 ∙ e)), q.1)
  ],
  λ j. elim j [
    | inl o ↦ (more p).1 (inl ((inv p).1 (inl o)))
    | inr q ↦ elim (from_more cs i s p.1 h q.0) [
      | inl l ↦ (more p).1 (inl ((inv p).1 (inr (l, q.1))))
      | inr f ↦ (more p).1 (inr (f ∙ sym e, q.1))
    ]
  ],
)

pub less_facet : (cs : List (List ℕ)) (old keys new : List Corner) (i : ℕ) (s : List ℕ) → i < length cs → s ≡ get_or cs i s → HasNone (take i cs) old keys → HasLess s keys new → HasNone (take (i + 1) cs) old new
less_facet cs old keys new i s h e inv less p = (
  λ j.
      let k = (less p).0 j in
      let o = (inv p).0 k.0 in
      (o.0, λ q. elim (from_more cs i s p.1 h q.0) [ inl l ↦ o.1 (l, q.1) | inr f ↦ k.1 (f ∙ sym e, q.1) ]),
  λ q. (less p).1 ((inv p).1 (q.0, λ r. q.1 (in_more cs i s p.1 h (inl r.0), r.1)), λ r. q.1 (in_more cs i s p.1 h (inr (r.0 ∙ e)), r.1)),
)

pub all_taken : {X : Type 0} (xs : List X) (n : ℕ) → length xs ≤ n → take n xs ≡ xs
all_taken [] zero h = refl
all_taken [] (suc n) h = refl
all_taken (x ∷ xs) zero h = absurd (omega arith)
all_taken (x ∷ xs) (suc n) h = ap (λ l. x ∷ l) (all_taken xs n (omega arith))

pub table_of : (c : List (List ℕ)) (old keys : List Corner) → old ≡ [] → HasAll c old keys → AreCorners c keys
table_of c old keys e all = record {
  from_corner = λ p i. elim ((all p).0 i) [ inl o ↦ absurd (none p (subst (λ l. In p l) e o)) | inr q ↦ q ];
  to_corner = λ p i j. (all p).1 (inr (i, j));
}

-- ---- the facets of a table
pub facets_are : (c : List (List ℕ)) (n : ℕ) (keys : List Corner) → IsTable c n keys → facets_of keys ≡ c
facets_are c n keys t =
    same_sets nat_list_cmp_total exact (facets_of keys) c (is_increasing-in_order nat_list_cmp_total (map (λ (p : Corner). p.1) keys)) (and_left _ _ t.complex)
    (λ s i. let r = from_map (λ (p : Corner). p.1) s keys (from_simplices s (map (λ (p : Corner). p.1) keys) i) in subst (λ u. In u c) (sym r.2) (t.corners_are.from_corner r.0 r.1).0)
    (λ s i. let e = pure_at c s t.pure i in let z = t.size_is in let m = t.some in let x = some_label s (omega arith) in
    in_simplices s (map (λ (p : Corner). p.1) keys) (in_map (λ (p : Corner). p.1) (x.0, s) keys (t.corners_are.to_corner (x.0, s) i x.1)))

pub table_made : (c : List (List ℕ)) (n : ℕ) (keys : List Corner) → IsTable c n keys → IsTable (facets_of keys) n keys
table_made c n keys t = subst (λ d. IsTable d n keys) (sym (facets_are c n keys t)) t

pub table_first : (c : List (List ℕ)) (n : ℕ) (old keys : List Corner) → list_all is_simplex c ≡ true → is_complex c ≡ true → is_pure_from 1 c ≡ true → n ≡ size c → old ≡ [] → HasAll c old keys → IsTable c n keys
table_first c n old keys simple cx pure e f all = record {
  simple = simple;
  complex = cx;
  pure = and_left _ _ pure;
  size_is = e;
  some = (let k = one (and_right (is_pure c) _ pure) in omega arith);
  corners_are = table_of c old keys f all;
}
  where
    one : leb 1 (size c) ≡ true → 1 ≤ size c
    one h = grind (arith, nat_tests)

pub facets_again : (n : ℕ) (keys : List Corner) → IsTable (facets_of keys) n keys → generated (map (λ (p : Corner). p.1) keys) ≡ facets_of keys
facets_again n keys t =
    generated_same (map (λ (p : Corner). p.1) keys) (facets_of keys) (λ s i. in_simplices s (map (λ (p : Corner). p.1) keys) i) (λ s i. from_simplices s (map (λ (p : Corner). p.1) keys) i)
    ∙ generated_again (facets_of keys) t.complex

-- ---- a flip
module _ (c : List (List ℕ)) (n : ℕ) (old mid new : List Corner) (a b : List ℕ) (gone come : List (List ℕ))
    (g : gone ≡ map (λ x. union a (without b x)) b) (k : come ≡ map (λ x. union b (without a x)) a) (less : HasNone gone old mid) (more : HasAll come mid new)
    (sa : is_simplex a ≡ true) (sb : is_simplex b ≡ true) (t : IsTable c n old) (ok : allowed c a b ≡ true) where
  parts : Parts c a b
  parts = parts_of c a b ok

  back : Parts (flip c a b) b a
  back = parts_of (flip c a b) b a (flips_back_lem c a b t.simple t.complex sa sb ok).0

  same_size : size (flip c a b) ≡ size c
  same_size = let x = parts.sizes.2 in let y = back.sizes.2 in omega arith

  goes : (s : List ℕ) → In s c → is_within a s ≡ true → In s gone
  goes s i w = subst (λ l. In s l) (sym g) (from_simplices s (map (λ x. union a (without b x)) b) (subst (λ l. In s l) parts.star (in_filter (is_within a) s c i w)))

  stays : (s : List ℕ) → In s gone → is_within a s ≡ true
  stays s i = (from_filter (is_within a) s c (subst (λ l. In s l) (sym parts.star) (in_simplices s (map (λ x. union a (without b x)) b) (subst (λ l. In s l) g i)))).1

  comes : (s : List ℕ) → In s come → In s (ball b a)
  comes s i = in_simplices s (map (λ x. union b (without a x)) a) (subst (λ l. In s l) k i)

  corners : AreCorners (flip c a b) new
  corners = record {
    from_corner = λ p i. elim ((more p).0 i) [
      | inl j ↦
          let q = (less p).0 j in
          let r = t.corners_are.from_corner p q.0 in
          (in_flip c a b p.1 (inl (r.0, false_from (is_within a p.1) (λ w. q.1 (goes p.1 r.0 w, r.1)))), r.1)
      | inr q ↦ (in_flip c a b p.1 (inr (comes p.1 q.0)), q.1)
    ];
    to_corner = λ p i j. elim (from_flip c a b p.1 i) [
      | inl q ↦ (more p).1 (inl ((less p).1 (t.corners_are.to_corner p q.0 j, λ r. true≢false (sym (stays p.1 r.0) ∙ q.1))))
      | inr q ↦ (more p).1 (inr (subst (λ l. In p.1 l) (sym k) (from_simplices p.1 (map (λ x. union b (without a x)) a) q), j))
    ];
  }

  simple : list_all is_simplex (flip c a b) ≡ true
  simple = all_from is_simplex (flip c a b) (λ s i. elim (from_flip c a b s i) [
    | inl q ↦ all_at is_simplex s c t.simple q.0
    | inr q ↦
        let r = from_ball b a s q in
        let e = pure_at (flip c a b) s back.pure i in
        let z = same_size in
        let y = small c a b t.simple t.complex sa sb parts in
        simplex_from s (omega arith)
        (all_from is_label s (λ x j. elim (from_union b (without a r.0) x (subst (λ u. In x u) r.2 j)) [
          | inl m ↦ all_at is_label x b (labels_of b sb) m
          | inr m ↦ all_at is_label x a (labels_of a sa) (from_without a r.0 x m).0
        ]))
        (ap is_set r.2 ∙ is_increasing-union b (without a r.0))
  ])

  pub flipped_table : IsTable (flip c a b) n new
  flipped_table = record {
    simple = simple;
    complex = complex_after c a b t.simple t.complex sa sb parts;
    pure = back.pure;
    size_is = t.size_is ∙ sym same_size;
    some = t.some;
    corners_are = corners;
  }

-- ---- all labels of a facet
pub more_all : (s : List ℕ) (old keys : List Corner) (n : ℕ) → length s ≤ n → MoreTo s n old keys → HasMore s old keys
more_all s old keys n h m p = (
  λ j. elim ((m p).0 j) [ inl o ↦ inl o | inr q ↦ inr (q.0, subst (λ l. In p.0 l) (all_taken s n h ∙ sym q.0) q.1) ],
  λ j. elim j [ inl o ↦ (m p).1 (inl o) | inr q ↦ (m p).1 (inr (q.0, subst (λ l. In p.0 l) (q.0 ∙ sym (all_taken s n h)) q.1)) ],
)

pub less_all : (s : List ℕ) (old keys : List Corner) (n : ℕ) → length s ≤ n → LessTo s n old keys → HasLess s old keys
less_all s old keys n h m p = (
  λ j. let k = (m p).0 j in (k.0, λ q. k.1 (q.0, subst (λ l. In p.0 l) (q.0 ∙ sym (all_taken s n h)) q.1)),
  λ q. (m p).1 (q.0, λ r. q.1 (r.0, subst (λ l. In p.0 l) (all_taken s n h ∙ sym r.0) r.1)),
)

pub more_none : (s : List ℕ) (old : List Corner) → MoreTo s 0 old old
more_none s old p = (λ j. inl j, λ j. elim j [ inl o ↦ o | inr q ↦ absurd (none p.0 q.1) ])

pub less_none : (s : List ℕ) (old : List Corner) → LessTo s 0 old old
less_none s old p = (λ j. (j, λ q. none p.0 q.1), λ q. q.0)

pub all_none : (cs : List (List ℕ)) (old : List Corner) → HasAll (take 0 cs) old old
all_none cs old p = (λ j. inl j, λ j. elim j [ inl o ↦ o | inr q ↦ absurd (none p.1 q.0) ])

pub none_none : (cs : List (List ℕ)) (old : List Corner) → HasNone (take 0 cs) old old
none_none cs old p = (λ j. (j, λ q. none p.1 q.0), λ q. q.0)

-- ---- whether a flip is allowed, by what the table tells
abbrev sized : ℕ → List ℕ → List ℕ → Bool
sized n a b = ltb 0 (length a) && ltb 0 (length b) && (length a + length b == n + 1)

module _ (c : List (List ℕ)) (n : ℕ) (corners : List Corner) (a b : List ℕ) (t : IsTable c n corners) where
  same_sized : sized n a b ≡ sized (size c) a b
  same_sized = ap (λ m. sized m a b) t.size_is

  pub told : sized n a b ≡ true → is_disjoint a b ≡ true → is_simplex a ≡ true → is_simplex b ≡ true → (star present : Bool) → star ≡ is_counted_star c a b → present ≡ is_face c b
      → (star && not present) ≡ allowed c a b
  told h k sa sb star present e f =
      let whole : sized (size c) a b ≡ true = sym same_sized ∙ h in
      (λ i. (e ∙ counted_star c a b t.simple t.complex sa sb t.pure (sizes whole) k) i && not (f i))
      ∙ ap (λ v. same_facets (facets_with c a) (ball a b) && v) (sym (and_true (not (is_face c b))))
      ∙ sym (ap (λ v. v && (sized (size c) a b && (is_disjoint a b && (same_facets (facets_with c a) (ball a b) && (not (is_face c b) && true))))) t.pure
      ∙ ap (λ v. v && (is_disjoint a b && (same_facets (facets_with c a) (ball a b) && (not (is_face c b) && true)))) whole
      ∙ ap (λ v. v && (same_facets (facets_with c a) (ball a b) && (not (is_face c b) && true))) k)
    where
      and_true : (v : Bool) → (v && true) ≡ v
      and_true true = refl
      and_true false = refl

      sizes : sized (size c) a b ≡ true → length a + length b ≡ size c + 1
      sizes w = grind (arith, nat_tests)
