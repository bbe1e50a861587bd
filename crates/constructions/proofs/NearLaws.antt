-- Labels that are near one another.
use Rattle.std.proofs.Common.{◌≡◌, ℕ, Bool, true, false, ◌&&◌, ◌||◌, List, refl, sym, ◌∙◌}
use Rattle.std.specs.List.{list_any}
use Rattle.simplex.specs.Simplex.{has}
use Rattle.simplex.proofs.InOrderLaws.{and_left, and_right, and_both}
use Rattle.simplex.proofs.Members.{any_from, any_at}
use Rattle.simplex.proofs.SimplexLaws.{has_at, has_from}
use Rattle.simplex.proofs.Decided.{agree, or_right}
use Rattle.facet_set.specs.Complex.{verts}
use Rattle.facet_set.specs.Connection.{is_edge}
use Rattle.facet_set.proofs.OptionLaws.{in_verts}
use Rattle.constructions.specs.Nearness.{is_near}
use Rattle.constructions.specs.Twins.{has_beside}

-- the labels have a vertex that is joined to both, where they are near
near_at : (c : List (List ℕ)) (a b : ℕ) (test : ℕ → Bool) → ((v : ℕ) → test v ≡ is_edge c a v) → is_near c a b ≡ true → list_any (has_beside test b) c ≡ true
near_at c a b test f h = by (is_edge c a b) direct h
  where
    beside : (v : ℕ) → is_edge c a v ≡ true → is_edge c v b ≡ true → list_any (has_beside test b) c ≡ true
    beside v e g =
        let r = any_at (λ s. has s v && has s b) c g in
        any_from (has_beside test b) r.0 c r.1 (and_both _ _ (and_right (has r.0 v) _ r.2) (any_from test v r.0 (has_at r.0 v (and_left _ _ r.2)) (f v ∙ e)))

    direct : is_edge c a b ≡ true → list_any (has_beside test b) c ≡ true
    direct e =
        let r = any_at (λ s. has s a && has s b) c e in
        let there = and_right (has r.0 a) (has r.0 b) r.2 in
        any_from (has_beside test b) r.0 c r.1 (and_both _ _ there (any_from test b r.0 (has_at r.0 b there) (f b ∙ e)))

    by : (v : Bool) → (v ≡ true → list_any (has_beside test b) c ≡ true) → (v || list_any (λ v. is_edge c a v && is_edge c v b) (verts c)) ≡ true → list_any (has_beside test b) c ≡ true
    by true g k = g refl
    by false g k = let r = any_at (λ v. is_edge c a v && is_edge c v b) (verts c) k in beside r.0 (and_left _ _ r.2) (and_right (is_edge c a r.0) _ r.2)

near_from : (c : List (List ℕ)) (a b : ℕ) (test : ℕ → Bool) → ((v : ℕ) → test v ≡ is_edge c a v) → list_any (has_beside test b) c ≡ true → is_near c a b ≡ true
near_from c a b test f h =
    let r = any_at (has_beside test b) c h in
    let there = and_left (has r.0 b) (list_any test r.0) r.2 in
    let q = any_at test r.0 (and_right (has r.0 b) (list_any test r.0) r.2) in
    or_right (is_edge c a b) _
    (any_from (λ v. is_edge c a v && is_edge c v b) q.0 (verts c) (in_verts c r.0 q.0 r.1 q.1)
    (and_both _ _ (sym (f q.0) ∙ q.2) (any_from (λ s. has s q.0 && has s b) r.0 c r.1 (and_both _ _ (has_from r.0 q.0 q.1) there))))

pub near_is : (c : List (List ℕ)) (a b : ℕ) (test : ℕ → Bool) → ((v : ℕ) → test v ≡ is_edge c a v) → list_any (has_beside test b) c ≡ is_near c a b
near_is c a b test f = agree _ _ (near_from c a b test f) (near_at c a b test f)
