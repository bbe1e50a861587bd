-- What lies across the ridges of a complex, and what a bijection makes of it.
use Rattle.std.proofs.Common.{◌≡◌, ℕ, ◌+◌, ◌<◌, ◌≤◌, Bool, true, false, cond, ◌&&◌, List, [], ◌∷◌, ◌++◌, map, take_all, length, take, get_or, refl, sym, ap, ◌∙◌, subst, ◌⊎◌, inl, inr, arith, Some, None}
use Rattle.std.specs.Prelude.{◌==◌, Option, nat_eq, unwrap_or}
use Rattle.std.specs.Bool.{IsTrue}
use Rattle.std.specs.Ordering.{nat_cmp, is_lt, is_eq}
use Rattle.std.specs.declared.cmp.Ordering.{Ordering}
use Rattle.std.specs.declared.cmp.Ordering.TheVariants.{Less, Equal, Greater}
use Rattle.std.specs.Cmp.Lexicographic.{pointwise}
use Rattle.std.specs.List.{list_all}
use Rattle.std.proofs.lemmas.List.{take_more}
use Rattle.simplex.specs.InOrder.{is_increasing}
use Rattle.simplex.specs.Simplex.{has, common, is_label, is_simplex, is_within, simplex_cmp, union, without}
use Rattle.simplex.proofs.InOrderLaws.{and_left, and_right, and_both}
use Rattle.simplex.proofs.Filled.{short_of, labels_of, rising_of}
use Rattle.simplex.proofs.Members.{In, first, later, cases, at_head, none, all_at, in_left, in_right, in_either, in_filter, from_filter}
use Rattle.simplex.proofs.SimplexLaws.{has_from, in_within, within_in, is_increasing-filter, within_length, within_same, same_labels, in_without, from_without}
use Rattle.simplex.proofs.Decided.{false_at, equal_at, equal_from}
use Rattle.facet_set.specs.Complex.{facets_with, faces}
use Rattle.facet_set.specs.Connection.{is_closed, share_ridge}
use Rattle.facet_set.specs.Maps.{image_of, relabelled}
use Rattle.facet_set.specs.Numbers.{size, is_pure, degree}
use Rattle.facet_set.specs.Parts.{ridges}
use Rattle.facet_set.proofs.ComplexLaws.{is_set, same_itself, in_faces, face_from, without_set}
use Rattle.facet_set.proofs.FlipLaws.{length-without, pure_at}
use Rattle.facet_set.proofs.GeneratedLaws.{same_at, same_is}
use Rattle.facet_set.proofs.MapLaws.{in_relabelled, from_relabelled}
use Rattle.facet_set.proofs.SetLaws.{set_up, set_again, same_set}
use Rattle.relabelling.specs.Ridges.{IsAcross, AreEnds, TellsTwo, with_end, other_end}
use Rattle.relabelling.proofs.ForcedLaws.{Carries, apart, two_of, from_common}

-- ---- a facet less one label
out_of : (r u : List ℕ) → (is_within u r ≡ true → ⊥) → (b : ℕ) × In b u × (In b r → ⊥)
out_of r [] f = absurd (f refl)
out_of r (x ∷ u) f =
    elim (has r x) as (λ v. has r x ≡ v → ((b : ℕ) × In b (x ∷ u) × (In b r → ⊥))) [
      | true ↦ λ e. let q = out_of r u (λ w. f (and_both _ _ e w)) in (q.0, later q.1, q.2)
      | false ↦ λ e. (x, first, λ i. false_at (has r x) e (has_from r x i))
    ] refl

-- a set with one label more than another one in it is that one but for the label
pub ridge_out : (r u : List ℕ) → is_set r ≡ true → is_set u ≡ true → is_within r u ≡ true → length r + 1 ≡ length u → (b : ℕ) × In b u × (without u b ≡ r)
ridge_out r u p q w n =
    let b = out_of r u (λ v. let few = within_length u r q p v in absurd (omega arith)) in
    let less = length-without b.0 u q b.1 in
    (b.0, b.1, sym (within_same r (without u b.0) p (without_set u b.0 q) (in_within r (without u b.0) (λ x i. in_without u b.0 x (within_in r u x w i) (λ e. b.2 (subst (λ z. In z r) e i)))) (omega arith)))

-- one ridge and one label make one facet
pub one_facet : (s t : List ℕ) (a : ℕ) → is_set s ≡ true → is_set t ≡ true → In a s → In a t → without s a ≡ without t a → s ≡ t
one_facet s t a p q i j e = same_labels s t p q (inside s t j e) (inside t s i (sym e))
  where
    inside : (u v : List ℕ) → In a v → without u a ≡ without v a → is_within u v ≡ true
    inside u v k g = in_within u v (λ x l. elim (a == x) as (λ w. (a == x) ≡ w → In x v) [
      | true ↦ λ h. subst (λ z. In z v) (equal_at a x h) k
      | false ↦ λ h. (from_without v a x (subst (λ y. In x y) g (in_without u a x l (λ f. false_at (a == x) h (equal_from a x (sym f)))))).0
    ] refl)

out_itself : (s r : List ℕ) (x : ℕ) → without s x ≡ r → In x r → ⊥
out_itself s r x e i = (from_without s x x (subst (λ l. In x l) (sym e) i)).1 refl

left_out : (s r : List ℕ) (a x : ℕ) → without s a ≡ r → In x s → (In x r → ⊥) → x ≡ a
left_out s r a x e i f =
    elim (x == a) as (λ v. (x == a) ≡ v → x ≡ a) [
      | true ↦ λ h. equal_at x a h
      | false ↦ λ h. absurd (f (subst (λ l. In x l) e (in_without s a x i (λ g. false_at (x == a) h (equal_from x a g)))))
    ] refl

-- facets that share a ridge have it less a label each
pub shared_ridge : (c : List (List ℕ)) (t u : List ℕ) → list_all is_set c ≡ true → is_pure c ≡ true → In t c → In u c → share_ridge c t u ≡ true → (a : ℕ) × (x : ℕ) × In a t × In x u × (without u x ≡ without t a)
shared_ridge c t u sets pure i j s =
    let n : length (common t u) + 1 ≡ size c = equal_at (length (common t u) + 1) (size c) s in
    let a = ridge_out (common t u) t r_set (all_at is_set t c sets i) (in_within (common t u) t (λ x k. (from_common t u x k).0)) (n ∙ sym (pure_at c t pure i)) in
    let x = ridge_out (common t u) u r_set (all_at is_set u c sets j) (in_within (common t u) u (λ x k. (from_common t u x k).1)) (n ∙ sym (pure_at c u pure j)) in
    (a.0, x.0, a.1, x.1, x.2 ∙ sym a.2)
  where
    r_set : is_set (common t u) ≡ true
    r_set = is_increasing-filter nat_cmp (has u) t (all_at is_set t c sets i)

-- ---- the ends of the ridges of a closed complex
less_or_equal : (o : Ordering) → is_lt o ≡ true → is_eq o ≡ true → ⊥
less_or_equal Less h k = cc
less_or_equal Equal h k = cc
less_or_equal Greater h k = cc

second : (xs : List (List ℕ)) (t : List ℕ) → length xs ≡ 2 → is_increasing simplex_cmp xs ≡ true → In t xs → (u : List ℕ) × In u xs × (t ≡ u → ⊥)
second [] t n up i = absurd (omega arith)
second (p ∷ []) t n up i = absurd (omega arith)
second (p ∷ q ∷ []) t n up i = elim (cases i) [
  | inl e ↦ (q, later first, λ f. differ (sym e ∙ f))
  | inr j ↦ elim (cases j) [ inl e ↦ (p, first, λ f. differ (sym f ∙ e)) | inr k ↦ absurd (none t k) ]
]
  where
    differ : p ≡ q → ⊥
    differ e = less_or_equal (simplex_cmp p q) (and_left (is_lt (simplex_cmp p q)) true (and_left (is_lt (simplex_cmp p q) && true) _ up)) (ap (λ z. is_eq (simplex_cmp p z)) (sym e) ∙ same_itself p)
second (p ∷ q ∷ r ∷ xs) t n up i = absurd (omega arith)

pub closed_ends : (c : List (List ℕ)) (t : List ℕ) (a : ℕ) → list_all is_set c ≡ true → is_increasing simplex_cmp c ≡ true → is_closed c ≡ true → In t c → In a t → (b : ℕ) × AreEnds c (without t a) a b
closed_ends c t a sets up closed i j = (out.0, ((t, i, j, refl), (u, u_facet, out.1, out.2), differ, only))
  where
    r : List ℕ
    r = without t a

    t_set : is_set t ≡ true
    t_set = all_at is_set t c sets i

    r_set : is_set r ≡ true
    r_set = without_set t a t_set

    r_long : length r + 1 ≡ size c
    r_long = length-without a t t_set j ∙ pure_at c t (and_left _ _ closed) i

    r_in_t : is_within r t ≡ true
    r_in_t = in_within r t (λ x k. (from_without t a x k).0)

    two : length (facets_with c r) ≡ 2
    two = equal_at (degree c r) 2 (all_at (λ q. degree c q == 2) r (ridges c) (and_right (is_pure c) _ closed)
        (in_filter (λ q. length q + 1 == size c) r (faces c) (in_faces c r sets r_set (face_from c r t i r_in_t)) (equal_from (length r + 1) (size c) r_long)))

    t_with : In t (facets_with c r)
    t_with = in_filter (is_within r) t c i r_in_t

    next : (u : List ℕ) × In u (facets_with c r) × (t ≡ u → ⊥)
    next = second (facets_with c r) t two (is_increasing-filter simplex_cmp (is_within r) c up) t_with

    u : List ℕ
    u = next.0

    u_facet : In u c
    u_facet = (from_filter (is_within r) u c next.1).0

    u_set : is_set u ≡ true
    u_set = all_at is_set u c sets u_facet

    out : (b : ℕ) × In b u × (without u b ≡ r)
    out = ridge_out r u r_set u_set (from_filter (is_within r) u c next.1).1 (r_long ∙ sym (pure_at c u (and_left _ _ closed) u_facet))

    differ : a ≡ out.0 → ⊥
    differ e = next.2 (one_facet t u a t_set u_set j (subst (λ z. In z u) (sym e) out.1) (sym (ap (without u) e ∙ out.2)))

    only : (x : ℕ) → IsAcross c r x → (x ≡ a) ⊎ (x ≡ out.0)
    only x h =
        let s_with = in_filter (is_within r) h.0 c h.1 (in_within r h.0 (λ y k. (from_without h.0 x y (subst (λ l. In y l) (sym h.3) k)).0)) in
        elim (two_of (facets_with c r) t u h.0 two t_with next.1 s_with next.2) [
          | inl e ↦ inl (left_out t r a x refl (subst (λ l. In x l) e h.2) (out_itself h.0 r x h.3))
          | inr e ↦ inr (left_out u r out.0 x out.2 (subst (λ l. In x l) e h.2) (out_itself h.0 r x h.3))
        ]

-- ---- a bijection carries ridges and their ends
across_carried : (c d : List (List ℕ)) (m : List (ℕ × ℕ)) (r : List ℕ) (a : ℕ) → Carries c d m → IsAcross c r a → IsAcross d (relabelled m r) (image_of m a)
across_carried c d m r a q (t, i, j, e) = (
  relabelled m t,
  q.there t i,
  in_relabelled m t a j,
  same_labels (without (relabelled m t) (image_of m a)) (relabelled m r) (without_set (relabelled m t) (image_of m a) (set_up (map (image_of m) t))) (set_up (map (image_of m) r))
      (in_within (without (relabelled m t) (image_of m a)) (relabelled m r) (λ x k.
      let p = from_without (relabelled m t) (image_of m a) x k in
      let y = from_relabelled m t x p.0 in
      subst (λ z. In z (relabelled m r)) (sym y.2) (in_relabelled m r y.0 (subst (λ l. In y.0 l) e (in_without t a y.0 y.1 (λ g. p.1 (y.2 ∙ ap (image_of m) g)))))))
      (in_within (relabelled m r) (without (relabelled m t) (image_of m a)) (λ x k.
      let y = from_relabelled m r x k in
      let p = from_without t a y.0 (subst (λ l. In y.0 l) (sym e) y.1) in
      in_without (relabelled m t) (image_of m a) x (subst (λ z. In z (relabelled m t)) (sym y.2) (in_relabelled m t y.0 p.0)) (λ g. p.1 (apart c d m t t y.0 a q i i p.0 j (sym y.2 ∙ g))))),
)

across_back : (c d : List (List ℕ)) (m : List (ℕ × ℕ)) (r : List ℕ) (a x : ℕ) → Carries c d m → IsAcross c r a → IsAcross d (relabelled m r) x → (y : ℕ) × IsAcross c r y × (x ≡ image_of m y)
across_back c d m r a x q (t, i, j, e) (k, kd, xk, f) = (y, (h, hc, yh, same_labels (without h y) r (without_set h y (all_at is_set h c q.renames.sets hc)) r_set there here), yx)
  where
    from : (h : List ℕ) × In h c × (k ≡ relabelled m h)
    from = q.back k kd

    h : List ℕ
    h = from.0

    hc : In h c
    hc = from.1

    at : (y : ℕ) × In y h × (x ≡ image_of m y)
    at = from_relabelled m h x (subst (λ l. In x l) from.2 xk)

    y : ℕ
    y = at.0

    yh : In y h
    yh = at.1

    yx : x ≡ image_of m y
    yx = at.2

    r_set : is_set r ≡ true
    r_set = ap is_set (sym e) ∙ without_set t a (all_at is_set t c q.renames.sets i)

    same : without (relabelled m h) (image_of m y) ≡ relabelled m r
    same = ap (λ l. without l (image_of m y)) (sym from.2) ∙ ap (without k) (sym yx) ∙ f

    in_t : (z : ℕ) → In z r → In z t
    in_t z n = (from_without t a z (subst (λ l. In z l) (sym e) n)).0

    there : is_within (without h y) r ≡ true
    there = in_within (without h y) r (λ z n.
        let p = from_without h y z n in
        let w = from_relabelled m r (image_of m z) (subst (λ l. In (image_of m z) l) same (in_without (relabelled m h) (image_of m y) (image_of m z) (in_relabelled m h z p.0) (λ g. p.1 (apart c d m h h z y q hc hc p.0 yh g)))) in
        subst (λ v. In v r) (sym (apart c d m h t z w.0 q hc i p.0 (in_t w.0 w.1) w.2)) w.1)

    here : is_within r (without h y) ≡ true
    here = in_within r (without h y) (λ z n.
        let p = from_without (relabelled m h) (image_of m y) (image_of m z) (subst (λ l. In (image_of m z) l) (sym same) (in_relabelled m r z n)) in
        let w = from_relabelled m h (image_of m z) p.0 in
        in_without h y z (subst (λ v. In v h) (sym (apart c d m t h z w.0 q i hc (in_t z n) w.1 w.2)) w.1) (λ g. p.1 (ap (image_of m) g)))

pub ends_carried : (c d : List (List ℕ)) (m : List (ℕ × ℕ)) (r : List ℕ) (a b : ℕ) → Carries c d m → AreEnds c r a b → AreEnds d (relabelled m r) (image_of m a) (image_of m b)
ends_carried c d m r a b q h = (
  across_carried c d m r a q h.0,
  across_carried c d m r b q h.1,
  λ g. h.2 (apart c d m h.0.0 h.1.0 a b q h.0.1 h.1.1 h.0.2 h.1.2 g),
  λ x k. let y = across_back c d m r a x q h.0 k in elim (h.3 y.0 y.1) [ inl e ↦ inl (y.2 ∙ ap (image_of m) e) | inr e ↦ inr (y.2 ∙ ap (image_of m) e) ],
)

-- ---- labels
pub across_label : (l : List (List ℕ)) (r : List ℕ) (a : ℕ) → list_all is_simplex l ≡ true → IsAcross l r a → IsTrue (is_label a)
across_label l r a h i = all_at is_label a i.0 (labels_of i.0 (all_at is_simplex i.0 l h i.1)) i.2

-- a ridge has room for one more label
pub across_short : (l : List (List ℕ)) (r : List ℕ) (a : ℕ) → list_all is_simplex l ≡ true → IsAcross l r a → length r < 12
across_short l r a h i =
    let s = all_at is_simplex i.0 l h i.1 in
    let less = length-without a i.0 (rising_of i.0 s) i.2 in
    let same = ap length i.3 in
    omega (arith, short_of i.0 s)

-- the ridge with the label across is the facet
pub across_facet : (l : List (List ℕ)) (r : List ℕ) (a : ℕ) (i : IsAcross l r a) → is_set i.0 ≡ true → union r (a ∷ []) ≡ i.0
across_facet l r a (s, j, k, e) h =
    same_set (r ++ a ∷ []) s
    (λ x m. elim (in_either x r (a ∷ []) m) [
      | inl n ↦ (from_without s a x (subst (λ z. In x z) (sym e) n)).0
      | inr n ↦ elim (cases n) [ inl g ↦ subst (λ z. In z s) (sym g) k | inr o ↦ absurd (none x o) ]
    ])
    (λ x m. elim (x == a) as (λ v. (x == a) ≡ v → In x (r ++ a ∷ [])) [
      | true ↦ λ g. in_right x r (a ∷ []) (at_head x a [] (equal_at x a g))
      | false ↦ λ g. in_left x r (a ∷ []) (subst (λ z. In x z) e (in_without s a x m (λ f. false_at (x == a) g (equal_from x a f))))
    ] refl)
    ∙ set_again s h

-- ---- what the table tells
pub told_end : (o : Option (ℕ × ℕ)) (l : List (List ℕ)) (r : List ℕ) (a b : ℕ) → TellsTwo o (IsAcross l r) → AreEnds l r a b → other_end o a ≡ Some b
told_end None l r a b t h = absurd (t a h.0)
told_end (Some e) l r a b t h =
    elim (e.0 == a) as (λ v. (e.0 == a) ≡ v → Some (cond v e.1 e.0) ≡ Some b) [
      | true ↦ λ k. elim (h.3 e.1 t.1) [
        | inl i ↦ absurd (h.2 (sym (t.2 (equal_at e.0 a k ∙ sym i) b h.1 ∙ equal_at e.0 a k)))
        | inr i ↦ ap Some i
      ]
      | false ↦ λ k. elim (h.3 e.0 t.0) [ inl i ↦ absurd (false_at (e.0 == a) k (equal_from e.0 a i)) | inr i ↦ ap Some i ]
    ] refl

-- the labels that s has across from r among its first ones, and those of the list before
abbrev pub IsSoFar : List (List ℕ) → List ℕ → List ℕ → List ℕ → ℕ → Type 0
IsSoFar l s front r a = IsAcross l r a ⊎ (In a front × (without s a ≡ r))

tells_more : (o : Option (ℕ × ℕ)) (P Q : ℕ → Type 0) (a : ℕ) → TellsTwo o P → ((x : ℕ) → P x → Q x) → ((x : ℕ) → Q x → P x ⊎ (x ≡ a)) → Q a → TellsTwo (Some (with_end o a)) Q
tells_more None P Q a t f g q = (q, q, λ e x k. elim (g x k) [ inl p ↦ absurd (t x p) | inr i ↦ i ])
tells_more (Some p) P Q a t f g q =
    elim (p.0 == a) as (λ v. (p.0 == a) ≡ v → TellsTwo (Some (cond v p (p.0, a))) Q) [
      | true ↦ λ h. (f p.0 t.0, f p.1 t.1, λ e x k. elim (g x k) [ inl i ↦ t.2 e x i | inr i ↦ i ∙ sym (equal_at p.0 a h) ])
      | false ↦ λ h. (f p.0 t.0, q, λ e. absurd (false_at (p.0 == a) h (equal_from p.0 a e)))
    ] refl

tells_same : (o : Option (ℕ × ℕ)) (P Q : ℕ → Type 0) → TellsTwo o P → ((x : ℕ) → P x → Q x) → ((x : ℕ) → Q x → P x) → TellsTwo o Q
tells_same None P Q t f g = λ a q. t a (g a q)
tells_same (Some p) P Q t f g = (f p.0 t.0, f p.1 t.1, λ e x q. t.2 e x (g x q))

taken : (xs : List ℕ) (i x : ℕ) → i < length xs → In x (take (i + 1) xs) → In x (take i xs) ⊎ (x ≡ get_or xs i 0)
taken xs i x h k = elim (in_either x (take i xs) (get_or xs i 0 ∷ []) (subst (λ l. In x l) (take_more xs i 0 h) k)) [
  | inl j ↦ inl j
  | inr j ↦ elim (cases j) [ inl e ↦ inr e | inr n ↦ absurd (none x n) ]
]

-- one more label of the facet
pub told_more : (l : List (List ℕ)) (s items : List ℕ) (i : ℕ) (b : Bool) (o n now : Option (ℕ × ℕ)) (q r : List ℕ) → items ≡ s → i < length items → q ≡ without s (get_or items i 0)
    → TellsTwo o (IsSoFar l s (take i items) q) → TellsTwo n (IsSoFar l s (take i items) r) → b ≡ pointwise nat_eq q r → now ≡ cond b (Some (with_end o (get_or items i 0))) n → TellsTwo now (IsSoFar l s (take (i + 1) items) r)
told_more l s items i b o n now q r e h w t u g f =
    subst (λ x. TellsTwo x (IsSoFar l s (take (i + 1) items) r)) (sym f) (elim b as (λ v. b ≡ v → TellsTwo (cond v (Some (with_end o (get_or items i 0))) n) (IsSoFar l s (take (i + 1) items) r)) [
      | true ↦ λ k.
          let same : q ≡ r = same_at q r (sym g ∙ k) in
          tells_more o (IsSoFar l s (take i items) q) (IsSoFar l s (take (i + 1) items) r) (get_or items i 0) t
          (λ x y. elim y [ inl z ↦ inl (subst (λ v. IsAcross l v x) same z) | inr z ↦ inr (front_more items i x h z.0, z.1 ∙ same) ])
          (λ x y. elim y [ inl z ↦ inl (inl (subst (λ v. IsAcross l v x) (sym same) z)) | inr z ↦ elim (taken items i x h z.0) [ inl a ↦ inl (inr (a, z.1 ∙ sym same)) | inr a ↦ inr a ] ])
          (inr (last_taken items i h, sym w ∙ same))
      | false ↦ λ k. tells_same n (IsSoFar l s (take i items) r) (IsSoFar l s (take (i + 1) items) r) u
          (λ x y. elim y [ inl z ↦ inl z | inr z ↦ inr (front_more items i x h z.0, z.1) ])
          (λ x y. elim y [
            | inl z ↦ inl z
            | inr z ↦ elim (taken items i x h z.0) [
              | inl a ↦ inr (a, z.1)
              | inr a ↦ absurd (false_at (pointwise nat_eq q r) (sym g ∙ k) (subst (λ v. pointwise nat_eq q v ≡ true) (w ∙ ap (without s) (sym a) ∙ z.1) (same_lists_test q)))
            ]
          ])
    ] refl)
  where
    last_taken : (xs : List ℕ) (j : ℕ) → j < length xs → In (get_or xs j 0) (take (j + 1) xs)
    last_taken xs j k = subst (λ y. In (get_or xs j 0) y) (sym (take_more xs j 0 k)) (in_right (get_or xs j 0) (take j xs) (get_or xs j 0 ∷ []) first)

    front_more : (xs : List ℕ) (j x : ℕ) → j < length xs → In x (take j xs) → In x (take (j + 1) xs)
    front_more xs j x k m = subst (λ y. In x y) (sym (take_more xs j 0 k)) (in_left x (take j xs) (get_or xs j 0 ∷ []) m)

    same_lists_test : (v : List ℕ) → pointwise nat_eq v v ≡ true
    same_lists_test v = same_is v v ∙ same_itself v

-- all labels of one more facet
pub told_facet : (l : List (List ℕ)) (s items : List ℕ) (i j : ℕ) (o : Option (ℕ × ℕ)) (r : List ℕ) → items ≡ s → length items ≤ j → i < length l → s ≡ get_or l i s → TellsTwo o (IsSoFar (take i l) s (take j items) r) → TellsTwo o (IsAcross (take (i + 1) l) r)
told_facet l s items i j o r e n h g t = tells_same o (IsSoFar (take i l) s (take j items) r) (IsAcross (take (i + 1) l) r) t
    (λ x y. elim y [
      | inl z ↦ (z.0, subst (λ v. In z.0 v) (sym more) (in_left z.0 (take i l) (get_or l i s ∷ []) z.1), z.2, z.3)
      | inr z ↦ (s, subst (λ v. In s v) (sym more) (in_right s (take i l) (get_or l i s ∷ []) (at_head s (get_or l i s) [] g)), subst (λ v. In x v) (take_all j items n ∙ e) z.0, z.1)
    ])
    (λ x y. elim (in_either y.0 (take i l) (get_or l i s ∷ []) (subst (λ v. In y.0 v) more y.1)) [
      | inl z ↦ inl (y.0, z, y.2, y.3)
      | inr z ↦ elim (cases z) [
        | inl a ↦ let same : y.0 ≡ s = a ∙ sym g in inr (subst (λ v. In x v) (same ∙ sym e ∙ sym (take_all j items n)) y.2, ap (λ v. without v x) (sym same) ∙ y.3)
        | inr k ↦ absurd (none y.0 k)
      ]
    ])
  where
    more : take (i + 1) l ≡ take i l ++ get_or l i s ∷ []
    more = take_more l i s h

-- none of the facet yet
pub told_before : (l : List (List ℕ)) (s : List ℕ) (o : Option (ℕ × ℕ)) (r : List ℕ) → TellsTwo o (IsAcross l r) → TellsTwo o (IsSoFar l s [] r)
told_before l s o r t = tells_same o (IsAcross l r) (IsSoFar l s [] r) t (λ x y. inl y) (λ x y. elim y [ inl z ↦ z | inr z ↦ absurd (none x z.0) ])

-- what is told is a label
pub told_label : (o : Option (ℕ × ℕ)) (l : List (List ℕ)) (r : List ℕ) (a b : ℕ) → TellsTwo o (IsAcross l r) → list_all is_simplex l ≡ true → IsTrue (is_label b) → IsTrue (is_label (unwrap_or (other_end o a) b))
told_label None l r a b t h k = k
told_label (Some e) l r a b t h k = elim (e.0 == a) as (λ v. IsTrue (is_label (cond v e.1 e.0))) [ true ↦ across_label l r e.1 h t.1 | false ↦ across_label l r e.0 h t.0 ]
