-- The vertices after a flip.
use Rattle.std.proofs.Common.{◌≡◌, ℕ, ◌<◌, Bool, true, false, cond, ◌&&◌, List, [], ◌∷◌, length, refl, sym, ◌∙◌, subst, inl, inr, arith, leb, Option, Some, None}
use Rattle.std.specs.Prelude.{nat_lt, option_map}
use Rattle.std.specs.List.{list_all}
use Rattle.std.specs.FinMap.{nat_cmp-IsAntisymmetric}
use Rattle.std.proofs.lemmas.Cmp.{nat_cmp_total}
use Rattle.simplex.specs.declared.flip.Flip.{Flip}
use Rattle.simplex.specs.Simplex.{is_simplex, is_within, union, without, label_limit}
use Rattle.simplex.proofs.Filled.{rising_of}
use Rattle.simplex.proofs.Members.{In, in_filter, same_sets}
use Rattle.simplex.proofs.SimplexLaws.{in_union, from_union, in_without, from_without}
use Rattle.facet_set.specs.Complex.{is_complex, verts}
use Rattle.facet_set.specs.Flips.{allowed, flip, least_missing}
use Rattle.facet_set.proofs.ComplexLaws.{is_set, verts_increase}
use Rattle.facet_set.proofs.FlipLaws.{Parts, parts_of, length-without, in_ball, from_ball, in_flip, some_label, flips_back_lem}
use Rattle.facet_set.proofs.OptionLaws.{in_verts, from_verts}
use Rattle.flip_table.specs.Kept.{new_point}
use Rattle.flip_table.proofs.FollowingLaws.{size_same}

-- where A has two labels or more, each vertex stays
stays : (c : List (List ℕ)) (a b : List ℕ) → is_set a ≡ true → Parts c a b → 1 < length a → (x : ℕ) → In x (verts c) → In x (verts (flip c a b))
stays c a b up p more x i =
    let t = from_verts c x i in
    elim (is_within a t.0) as (λ v. is_within a t.0 ≡ v → In x (verts (flip c a b))) [
      | false ↦ λ e. in_verts (flip c a b) t.0 x (in_flip c a b t.0 (inl (t.1, e))) t.2
      | true ↦ λ e.
          let r = from_ball a b t.0 (subst (λ l. In t.0 l) p.star (in_filter (is_within a) t.0 c t.1 e)) in
          elim (from_union a (without b r.0) x (subst (λ u. In x u) r.2 t.2)) [
            | inl j ↦ (let less = length-without x a up j in
                let y = some_label (without a x) (omega arith) in
                let z = from_without a x y.0 y.1 in
                in_verts (flip c a b) (union b (without a y.0)) x (in_flip c a b (union b (without a y.0)) (inr (in_ball b a y.0 z.0))) (in_union b (without a y.0) x (inr (in_without a y.0 x j (λ f. z.1 (sym f))))))
            | inr j ↦ (let y = some_label a (omega arith) in
                in_verts (flip c a b) (union b (without a y.0)) x (in_flip c a b (union b (without a y.0)) (inr (in_ball b a y.0 y.1))) (in_union b (without a y.0) x (inl (from_without b r.0 x j).0)))
          ]
    ] refl

abbrev fresh_by : List ℕ → Option ℕ
fresh_by vs = let a = least_missing 1 vs in cond (leb a label_limit) (Some a) None

abbrev point_by : Bool → ℕ → List ℕ → Option (List ℕ)
point_by pure n vs = cond (pure && nat_lt 0 n) (option_map (λ x. x ∷ []) (fresh_by vs)) None

-- where both sets have, the vertices are the same, and so is the new point
pub same_point : (c : List (List ℕ)) (m : Flip) → list_all is_simplex c ≡ true → is_complex c ≡ true → is_simplex m.a ≡ true → is_simplex m.b ≡ true → allowed c m.a m.b ≡ true
    → 1 < length m.a → 1 < length m.b → new_point c ≡ new_point (flip c m.a m.b)
same_point c m simple cx sa sb ok la lb =
    let d = flip c m.a m.b in
    let p = parts_of c m.a m.b ok in
    let k = flips_back_lem c m.a m.b simple cx sa sb ok in
    let q = parts_of d m.b m.a k.0 in
    let vertices : verts c ≡ verts d =
    same_sets nat_cmp_total nat_cmp-IsAntisymmetric (verts c) (verts d) (verts_increase c) (verts_increase d)
    (λ x i. stays c m.a m.b (rising_of m.a sa) p la x i)
    (λ x i. subst (λ e. In x (verts e)) k.1 (stays d m.b m.a (rising_of m.b sb) q lb x i)) in
    (λ z. point_by ((p.pure ∙ sym q.pure) z) (sym (size_same c m simple cx sa sb ok) z) (vertices z))
