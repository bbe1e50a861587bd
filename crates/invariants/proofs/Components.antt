-- A flip keeps the number of components.
use Rattle.std.proofs.Common.{◌≡◌, ℕ, ◌≤◌, Bool, true, false, cond, ◌&&◌, ◌||◌, List, [], ◌∷◌, refl, sym, ap, ◌∙◌, subst, ◌⊎◌, inl, inr, arith}
use Rattle.simplex.specs.Simplex.{has, is_within, union, without}
use Rattle.simplex.proofs.Decided.{false_at, false_from}
use Rattle.simplex.proofs.InOrderLaws.{and_left, and_right, and_both}
use Rattle.simplex.proofs.Members.{In, cases, at_head, none, any_at, any_from}
use Rattle.simplex.proofs.SimplexLaws.{has_at, has_from, within_in, in_within, in_union, from_union, in_without, from_without, label_beside}
use Rattle.facet_set.specs.Complex.{verts}
use Rattle.facet_set.specs.Connection.{Chain, here, step, is_edge, components}
use Rattle.facet_set.specs.Flips.{ball}
use Rattle.facet_set.proofs.ComplexLaws.{verts_increase}
use Rattle.facet_set.proofs.FlipLaws.{from_ball, in_ball, some_label}
use Rattle.facet_set.proofs.OptionLaws.{in_verts, from_verts}
use Rattle.invariants.proofs.Classes.{chain-join, chain-back, fewer_classes}
use Rattle.invariants.proofs.Sums.{once-labels}
use Rattle.invariants.proofs.Swaps.{Swap, star_of, in_star, none_with, either, back}

pub edge_even : (c : List (List ℕ)) (a b : ℕ) → is_edge c a b ≡ is_edge c b a
edge_even [] a b = refl
edge_even (s ∷ c) a b = λ i. swap (has s a) (has s b) i || edge_even c a b i
  where
    swap : (v w : Bool) → (v && w) ≡ (w && v)
    swap true true = refl
    swap true false = refl
    swap false true = refl
    swap false false = refl

pub edge_from : (c : List (List ℕ)) (t : List ℕ) (u v : ℕ) → In t c → In u t → In v t → is_edge c u v ≡ true
edge_from c t u v i j k = any_from (λ s. has s u && has s v) t c i (and_both _ _ (has_from t u j) (has_from t v k))

pub edge_at : (c : List (List ℕ)) (u v : ℕ) → is_edge c u v ≡ true → (t : List ℕ) × In t c × In u t × In v t
edge_at c u v e = let r = any_at (λ s. has s u && has s v) c e in (r.0, r.1, has_at r.0 u (and_left _ _ r.2), has_at r.0 v (and_right (has r.0 u) _ r.2))

-- a vertex in place of each label: itself, or the one that is given
abbrev stand_in : List (List ℕ) → ℕ → ℕ → ℕ
stand_in c hub u = cond (has (verts c) u) u hub

-- all vertices of the join meet at each label of the set that goes
module _ (c d : List (List ℕ)) (a b : List ℕ) (w : Swap c d a b) (hub : ℕ) (hub_in : In hub a) where
  facet_at : (x : ℕ) → In x b → In (union a (without b x)) c
  facet_at x i = in_star c a b (star_of c d a b w) (union a (without b x)) (in_ball a b x i)

  hub_vertex : In hub (verts c)
  hub_vertex = let x = some_label b w.parts.sizes.1 in in_verts c (union a (without b x.0)) hub (facet_at x.0 x.1) (in_union a (without b x.0) hub (inl hub_in))

  hub_edge : (u : ℕ) → In u a ⊎ In u b → In u (verts c) → is_edge c u hub ≡ true
  hub_edge u (inl i) j =
      let x = some_label b w.parts.sizes.1 in
      edge_from c (union a (without b x.0)) u hub (facet_at x.0 x.1) (in_union a (without b x.0) u (inl i)) (in_union a (without b x.0) hub (inl hub_in))
  hub_edge u (inr i) j =
      let x = label_beside b (u ∷ []) (false_from (is_within b (u ∷ [])) alone) in
      edge_from c (union a (without b x.0)) u hub (facet_at x.0 x.1) (in_union a (without b x.0) u (inr (in_without b x.0 u i (λ e. x.2 (at_head x.0 u [] (sym e)))))) (in_union a (without b x.0) hub (inl hub_in))
    where
      alone : is_within b (u ∷ []) ≡ true → ⊥
      alone e =
          let t = from_verts c u j in
          none_with c a b (star_of c d a b w) t.0 t.1 (in_within b t.0 (λ y k. elim (cases (within_in b (u ∷ []) y e k)) [ inl f ↦ subst (λ z. In z t.0) (sym f) t.2 | inr n ↦ absurd (none y n) ]))

  known : (u : ℕ) → In u (verts c) → stand_in c hub u ≡ u
  known u i = ap (λ v. cond v u hub) (has_from (verts c) u i)

  is_vertex : (u : ℕ) → In (stand_in c hub u) (verts c)
  is_vertex u = elim (has (verts c) u) as (λ v. has (verts c) u ≡ v → In (cond v u hub) (verts c)) [ true ↦ λ e. has_at (verts c) u e | false ↦ λ e. hub_vertex ] refl

  stand_in_edge : (u : ℕ) → In u a ⊎ In u b → is_edge c (stand_in c hub u) hub ≡ true
  stand_in_edge u i = elim (has (verts c) u) as (λ v. has (verts c) u ≡ v → is_edge c (cond v u hub) hub ≡ true) [
    | true ↦ λ e. hub_edge u i (has_at (verts c) u e)
    | false ↦ λ e. hub_edge hub (inl hub_in) hub_vertex
  ] refl

  -- what is a vertex before the flip alone is in the join
  old_vertex : (u : ℕ) → In u (verts c) → (In u (verts d) → ⊥) → In u a ⊎ In u b
  old_vertex u i f =
      let t = from_verts c u i in
      elim (either d c b a (back c d a b w) t.0 t.1) [
        | inl j ↦ absurd (f (in_verts d t.0 u j.0 t.2))
        | inr j ↦ let r = from_ball a b t.0 j in elim (from_union a (without b r.0) u (subst (λ s. In u s) r.2 t.2)) [ inl k ↦ inl k | inr k ↦ inr (from_without b r.0 u k).0 ]
      ]

  over_hub : (u v : ℕ) → is_edge c u hub ≡ true → is_edge c v hub ≡ true → In v (verts c) → Chain (is_edge c) (verts c) u v
  over_hub u v e f i = step e hub_vertex (step (edge_even c hub v ∙ f) i here)

  edge_back : (u v : ℕ) → is_edge d u v ≡ true → Chain (is_edge c) (verts c) (stand_in c hub u) (stand_in c hub v)
  edge_back u v e =
      let t = edge_at d u v e in
      elim (either c d a b w t.0 t.1) [
        | inl j ↦
            let i : In u (verts c) = in_verts c t.0 u j.0 t.2 in
            let k : In v (verts c) = in_verts c t.0 v j.0 t.3 in
            step (ap (λ x. is_edge c x (stand_in c hub v)) (known u i) ∙ ap (is_edge c u) (known v k) ∙ edge_from c t.0 u v j.0 t.2 t.3) (is_vertex v) here
        | inr j ↦ over_hub (stand_in c hub u) (stand_in c hub v) (stand_in_edge u (in_join t.0 u j t.2)) (stand_in_edge v (in_join t.0 v j t.3)) (is_vertex v)
      ]
    where
      in_join : (t : List ℕ) (x : ℕ) → In t (ball b a) → In x t → In x a ⊎ In x b
      in_join t x i j = let r = from_ball b a t i in elim (from_union b (without a r.0) x (subst (λ s. In x s) r.2 j)) [ inl k ↦ inr k | inr k ↦ inl (from_without a r.0 x k).0 ]

  chain_across : {u v : ℕ} → Chain (is_edge d) (verts d) u v → Chain (is_edge c) (verts c) (stand_in c hub u) (stand_in c hub v)
  chain_across here = here
  chain_across {u = u} (step {y = y} h i k) = chain-join (is_edge c) (verts c) (edge_back u y h) (chain_across k)

  -- there and back
  way_back : (k x : ℕ) → In k b → In x (verts c) → Chain (is_edge c) (verts c) x (stand_in c hub (stand_in d k x))
  way_back k x j i = elim (has (verts d) x) as (λ v. has (verts d) x ≡ v → Chain (is_edge c) (verts c) x (stand_in c hub (cond v x k))) [
    | true ↦ λ e. subst (λ y. Chain (is_edge c) (verts c) x y) (sym (known x i)) here
    | false ↦ λ e. over_hub x (stand_in c hub k) (hub_edge x (old_vertex x i (λ n. false_at (has (verts d) x) e (has_from (verts d) x n))) i) (stand_in_edge k (inr j)) (is_vertex k)
  ] refl

fewer : (c d : List (List ℕ)) (a b : List ℕ) → Swap c d a b → components c ≤ components d
fewer c d a b w =
    let h = some_label a w.parts.sizes.0 in
    let k = some_label b w.parts.sizes.1 in
    fewer_classes (is_edge c) (edge_even c) (is_edge d) (edge_even d) (verts c) (verts d) (stand_in d k.0) (once-labels (verts c) (verts_increase c))
    (λ x i. is_vertex d c b a (back c d a b w) k.0 k.1 x)
    (λ x y i j way.
    chain-join (is_edge c) (verts c) (way_back c d a b w h.0 h.1 k.0 x k.1 i)
    (chain-join (is_edge c) (verts c) (chain_across c d a b w h.0 h.1 way)
    (chain-back (is_edge c) (edge_even c) (verts c) j (way_back c d a b w h.0 h.1 k.0 y k.1 j))))

pub components_stay : (c d : List (List ℕ)) (a b : List ℕ) → Swap c d a b → components d ≡ components c
components_stay c d a b w = let x = fewer c d a b w in let y = fewer d c b a (back c d a b w) in omega (arith, x, y)
