-- A flip keeps a complex closed.
use Rattle.std.proofs.Common.{◌≡◌, ℕ, ◌+◌, Bool, true, false, List, [], ◌∷◌, length, refl, ◌∙◌, arith}
use Rattle.std.specs.Prelude.{◌==◌}
use Rattle.simplex.specs.Simplex.{is_within, union}
use Rattle.simplex.proofs.Decided.{agree, equal_at, equal_from, false_at}
use Rattle.simplex.proofs.Filled.{rising_of}
use Rattle.simplex.proofs.InOrderLaws.{and_right, and_both}
use Rattle.simplex.proofs.Members.{In, first, all_at, all_from, in_filter, from_filter}
use Rattle.simplex.proofs.SimplexLaws.{in_within, within_in, within_trans, in_union, from_union, label_beside}
use Rattle.facet_set.specs.Complex.{faces, facets_with}
use Rattle.facet_set.specs.Connection.{is_closed}
use Rattle.facet_set.specs.Numbers.{degree, is_pure, size}
use Rattle.facet_set.specs.Parts.{ridges}
use Rattle.facet_set.proofs.ComplexLaws.{from_faces, sets_of}
use Rattle.invariants.proofs.Between.{face_between}
use Rattle.invariants.proofs.Degrees.{IsInJoin, swapped, lacking, none_lacking, some_lacking, inside_degree, outside_degree}
use Rattle.invariants.proofs.Euler.{face_stays}
use Rattle.invariants.proofs.Swaps.{Swap, star_of, none_with, back, after_is, size_same}

pub two_at : (c : List (List ℕ)) (r : List ℕ) → is_closed c ≡ true → In r (faces c) → length r + 1 ≡ size c → degree c r ≡ 2
two_at c r h i e =
    equal_at (degree c r) 2 (all_at (λ r. degree c r == 2) r (ridges c) (and_right (is_pure c) _ h) (in_filter (λ r. length r + 1 == size c) r (faces c) i (equal_from (length r + 1) (size c) e)))

pub closed_from : (c : List (List ℕ)) → is_pure c ≡ true → ((r : List ℕ) → In r (faces c) → length r + 1 ≡ size c → degree c r ≡ 2) → is_closed c ≡ true
closed_from c p f = and_both _ _ p (all_from (λ r. degree c r == 2) (ridges c) (λ r i.
    let q = from_filter (λ r. length r + 1 == size c) r (faces c) i in
    equal_from (degree c r) 2 (f r q.0 (equal_at (length r + 1) (size c) q.1))))

no_member : (l : List (List ℕ)) → ((t : List ℕ) → In t l → ⊥) → length l ≡ 0
no_member [] f = refl
no_member (t ∷ l) f = absurd (f t first)

closed_on : (c d : List (List ℕ)) (a b : List ℕ) → Swap c d a b → is_closed c ≡ true → is_closed d ≡ true
closed_on c d a b w h = closed_from d (after_is c d a b w).pure (λ r i e. by r i e (is_within b r) refl)
  where
    v : Swap d c b a
    v = back c d a b w

    by : (r : List ℕ) → In r (faces d) → length r + 1 ≡ size d → (t : Bool) → is_within b r ≡ t → degree d r ≡ 2
    by r i e true f =
        let join = swapped b a r (face_between d b a (sets_of d v.before.simplices) (star_of d c b a v) r i f).inside in
        let turn = inside_degree c d a b r w join in
        let none = none_lacking b r f in
        let new : degree c r ≡ 0 = no_member (facets_with c r) (λ t j. let q = from_filter (is_within r) t c j in none_with c a b (star_of c d a b w) t q.0 (within_trans b r t f q.1)) in
        let whole = lacking a b r (rising_of a w.gone) (rising_of b w.come) (from_faces d r (sets_of d v.before.simplices) i).0 w.parts.apart join in
        let n = w.parts.sizes.2 in
        let same = size_same c d a b w in
        omega (arith, turn, none, new, whole, n, same)
    by r i e false f =
        let stays = face_stays d c b a r v i f in
        let same = size_same c d a b w in
        let two = two_at c r h stays.0 (omega (arith, e, same)) in
        within (is_within r (union a b)) refl stays.1 two
      where
        within : (t : Bool) → is_within r (union a b) ≡ t → is_within a r ≡ false → degree c r ≡ 2 → degree d r ≡ 2
        within true g k two =
            let join : IsInJoin a b r = λ x j. from_union a b x (within_in r (union a b) x g j) in
            let turn = inside_degree c d a b r w join in
            let x = label_beside a r k in
            let y = label_beside b r f in
            let some_a = some_lacking a r x.0 x.1 x.2 in
            let some_b = some_lacking b r y.0 y.1 y.2 in
            let whole = lacking a b r (rising_of a w.gone) (rising_of b w.come) (from_faces d r (sets_of d v.before.simplices) i).0 w.parts.apart join in
            let n = w.parts.sizes.2 in
            let same = size_same c d a b w in
            omega (arith, turn, some_a, some_b, whole, n, same, two, e)
        within false g k two = outside_degree c d a b r w (λ join. false_at (is_within r (union a b)) g (in_within r (union a b) (λ x j. in_union a b x (join x j)))) ∙ two

pub closed_stays : (c d : List (List ℕ)) (a b : List ℕ) → Swap c d a b → is_closed d ≡ is_closed c
closed_stays c d a b w = agree (is_closed d) (is_closed c) (closed_on d c b a (back c d a b w)) (closed_on c d a b w)
