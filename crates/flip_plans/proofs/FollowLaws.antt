-- Who asks after a flip.
use Rattle.std.proofs.Common.{◌≡◌, ℕ, Bool, true, false, not, cond, List, [], ◌∷◌, ◌++◌, map, Some, refl, sym, ap, ◌∙◌, subst, inl, inr}
use Rattle.std.specs.Prelude.{nat_eq}
use Rattle.std.specs.Cmp.{unsigned_Decides}
use Rattle.std.specs.Cmp.Lexicographic.{pointwise, pointwise_decides}
use Rattle.std.specs.List.{filter}
use Rattle.simplex.specs.Simplex.{has, is_simplex}
use Rattle.simplex.proofs.Decided.{false_at, not_true, not_from}
use Rattle.simplex.proofs.InOrderLaws.{and_left}
use Rattle.simplex.proofs.Members.{In, first, later, in_filter, from_filter, in_left, in_right, in_either, in_map, from_map}
use Rattle.simplex.proofs.SimplexLaws.{has_at, has_from}
use Rattle.facet_set.specs.ClassLaws.{IsOnce}
use Rattle.facet_set.specs.Flips.{flip}
use Rattle.flip_plans.specs.declared.plan.Asking.{Asking}
use Rattle.flip_plans.specs.Askers.{asks, asks_for}
use Rattle.flip_plans.specs.Plans.{AskersFollow, IsAsker, askers_among}

equal_at : (s t : List ℕ) → pointwise nat_eq s t ≡ true → s ≡ t
equal_at s t h = (pointwise_decides unsigned_Decides s t).0 h

equal_itself : (s : List ℕ) → pointwise nat_eq s s ≡ true
equal_itself s = (pointwise_decides unsigned_Decides s s).1 refl

pub in_among : (xs : List Asking) (i : ℕ) (b : List ℕ) → In (record { asker = i; set = b }) xs → In i (askers_among xs b)
in_among xs i b j = in_map (λ (x : Asking). x.asker) (record { asker = i; set = b }) (filter (λ (x : Asking). pointwise nat_eq x.set b) xs)
    (in_filter (λ (x : Asking). pointwise nat_eq x.set b) (record { asker = i; set = b }) xs j (equal_itself b))

pub from_among : (xs : List Asking) (i : ℕ) (b : List ℕ) → In i (askers_among xs b) → In (record { asker = i; set = b }) xs
from_among xs i b j =
    let r = from_map (λ (x : Asking). x.asker) i (filter (λ (x : Asking). pointwise nat_eq x.set b) xs) j in
    let q = from_filter (λ (x : Asking). pointwise nat_eq x.set b) r.0 xs r.1 in
    let e : r.0.set ≡ b = equal_at r.0.set b q.1 in
    let f = r.2 in
    subst (λ (x : Asking). In x xs) (λ k. record { asker = sym f k; set = e k }) q.0

once_filter : {X : Type 0} (p : X → Bool) (xs : List X) → IsOnce X xs → IsOnce X (filter p xs)
once_filter p [] h = tt
once_filter p (x ∷ xs) h =
    elim (p x) as (λ v. IsOnce _ (cond v (x ∷ filter p xs) (filter p xs))) [
      | true ↦ (λ i. h.0 (from_filter p x xs i).0, once_filter p xs h.1)
      | false ↦ once_filter p xs h.1
    ]

once_mapped : (p : Asking → Bool) (xs : List Asking) → IsOnce ℕ (map (λ (x : Asking). x.asker) xs) → IsOnce ℕ (map (λ (x : Asking). x.asker) (filter p xs))
once_mapped p [] h = tt
once_mapped p (x ∷ xs) h =
    elim (p x) as (λ v. IsOnce ℕ (map (λ (x : Asking). x.asker) (cond v (x ∷ filter p xs) (filter p xs)))) [
      | true ↦ (
        λ i. (let r = from_map (λ (y : Asking). y.asker) x.asker (filter p xs) i in
            h.0 (subst (λ k. In k (map (λ (y : Asking). y.asker) xs)) (sym r.2) (in_map (λ (y : Asking). y.asker) r.0 xs (from_filter p r.0 xs r.1).0))),
        once_mapped p xs h.1,
      )
      | false ↦ once_mapped p xs h.1
    ]

once_append : (xs ys : List ℕ) → IsOnce ℕ xs → IsOnce ℕ ys → ((x : ℕ) → In x xs → In x ys → ⊥) → IsOnce ℕ (xs ++ ys)
once_append [] ys h k f = k
once_append (x ∷ xs) ys h k f = (λ i. elim (in_either x xs ys i) [ inl j ↦ h.0 j | inr j ↦ f x first j ], once_append xs ys h.1 k (λ y i j. f y (later i) j))

pub askers_follow_lem : AskersFollow
askers_follow_lem c m id_of next_id askers_of next_askers go come changes p old one stays e = record { asks = λ i b. (there i b, back i b); once = once }
  where
    d : List (List ℕ)
    d = flip c m.a m.b

    there : (i : ℕ) (b : List ℕ) → In i (next_askers b) → IsAsker (flip c m.a m.b) next_id i b
    there i b j =
        let r = from_filter (λ a. not (has (askers_among go b) a)) i (askers_of b ++ askers_among come b) (subst (λ l. In i l) (e b) j) in
        elim (in_either i (askers_of b) (askers_among come b) r.0) [
          | inl k ↦ (let a = (old.asks i b).0 k in
              let asked : asks_for (flip c m.a m.b) a.0 b ≡ true = still i b a.0 a.1 a.2 a.3 (λ g. false_at (has (askers_among go b) i) (not_true (has (askers_among go b) i) r.1) (has_from (askers_among go b) i (in_among go i b g))) in
              (a.0, a.1, stays a.0 a.1 (and_left (asks (flip c m.a m.b) a.0) _ asked) ∙ a.2, asked))
          | inr k ↦ (let a = (p.come i b).0 (from_among come i b k) in (a.0, a.1, stays a.0 a.1 (and_left (asks (flip c m.a m.b) a.0) _ a.3) ∙ a.2, a.3))
        ]
      where
        still : (i : ℕ) (b a : List ℕ) → is_simplex a ≡ true → id_of a ≡ Some i → asks_for c a b ≡ true → (In (record { asker = i; set = b }) go → ⊥) → asks_for (flip c m.a m.b) a b ≡ true
        still i b a sa f k stands =
            elim (asks_for (flip c m.a m.b) a b) as (λ v. asks_for (flip c m.a m.b) a b ≡ v → v ≡ true) [
              | true ↦ λ q. refl
              | false ↦ λ q. absurd (stands ((p.go i b).1 (a, sa, f, k, q)))
            ] refl

    back : (i : ℕ) (b : List ℕ) → IsAsker (flip c m.a m.b) next_id i b → In i (next_askers b)
    back i b r =
        let f : id_of r.0 ≡ Some i = sym (stays r.0 r.1 (and_left (asks (flip c m.a m.b) r.0) _ r.3)) ∙ r.2 in
        let here : In i (askers_of b ++ askers_among come b) =
        elim (asks_for c r.0 b) as (λ v. asks_for c r.0 b ≡ v → In i (askers_of b ++ askers_among come b)) [
          | true ↦ λ k. in_left i (askers_of b) (askers_among come b) ((old.asks i b).1 (r.0, r.1, f, k))
          | false ↦ λ k. in_right i (askers_of b) (askers_among come b) (in_among come i b ((p.come i b).1 (r.0, r.1, f, r.3, k)))
        ] refl in
        subst (λ l. In i l) (sym (e b)) (in_filter (λ a. not (has (askers_among go b) a)) i (askers_of b ++ askers_among come b) here
        (not_from (has (askers_among go b) i) (λ k.
        let q = (p.go i b).0 (from_among go i b (has_at (askers_among go b) i k)) in
        false_at (asks_for (flip c m.a m.b) q.0 b) q.4 (ap (λ s. asks_for (flip c m.a m.b) s b) (one q.0 r.0 i q.2 f) ∙ r.3))))

    once : (b : List ℕ) → IsOnce ℕ (next_askers b)
    once b = subst (λ l. IsOnce ℕ l) (sym (e b)) (once_filter (λ a. not (has (askers_among go b) a)) (askers_of b ++ askers_among come b)
        (once_append (askers_of b) (askers_among come b) (old.once b) (once_mapped (λ (x : Asking). pointwise nat_eq x.set b) come p.come_once) (λ i j k.
        let a = (old.asks i b).0 j in
        let q = (p.come i b).0 (from_among come i b k) in
        false_at (asks_for c q.0 b) q.4 (ap (λ s. asks_for c s b) (one q.0 a.0 i q.2 a.2) ∙ a.3))))
