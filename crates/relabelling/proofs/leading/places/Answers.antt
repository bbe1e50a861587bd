use Rattle.std.proofs.Common.{◌≡◌, List, ℕ, ap, sym, subst}
use Rattle.std.proofs.lemmas.List.Sorted.{Contains-permutation, IsPermutation-sym}
use Rattle.simplex.specs.Members.{In}
use Rattle.simplex.proofs.Members.{contains_in, in_contains, in_flat_map, from_flat_map, in_map, from_map}
use Rattle.relabelling.specs.Least.{with_each}
use Rattle.relabelling.proofs.leading.places.Goals as goal

pub returns-clause-all : goal.returns-clause-all
returns-clause-all c = λ a s i j.
    contains_in c.sort_unstable.new.self.items (a, s) (Contains-permutation c.in_ok-places.places.items c.sort_unstable.new.self.items (a, s) c.sort_unstable.ensures.permutation
    (in_contains c.in_ok-places.places.items (a, s) (subst (λ l. In (a, s) l) (sym c.in_ok-places.ensures) (in_flat_map with_each s (a, s) c.args.simplices.now i (in_map (λ (b : ℕ). (b, s)) a s j)))))

pub returns-clause-only : goal.returns-clause-only
returns-clause-only c = λ a s i.
    let here = contains_in c.in_ok-places.places.items (a, s) (Contains-permutation c.sort_unstable.new.self.items c.in_ok-places.places.items (a, s) (IsPermutation-sym _ _ c.sort_unstable.ensures.permutation) (in_contains c.sort_unstable.new.self.items (a, s) i)) in
    let t = from_flat_map with_each (a, s) c.args.simplices.now (subst (λ l. In (a, s) l) c.in_ok-places.ensures here) in
    let b = from_map (λ (b : ℕ). (b, t.0)) (a, s) t.0 t.2 in
    let label : a ≡ b.0 = ap (λ (p : ℕ × List ℕ). p.0) b.2 in
    let facet : s ≡ t.0 = ap (λ (p : ℕ × List ℕ). p.1) b.2 in
    (subst (λ z. In z c.args.simplices.now) (sym facet) t.1, subst (λ z. In a z) (sym facet) (subst (λ z. In z t.0) (sym label) b.1))
