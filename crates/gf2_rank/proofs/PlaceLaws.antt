-- Sets of things, and the sets of their places in a list of names, have one rank.
use Rattle.std.proofs.Common.{◌≡◌, ℕ, ◌+◌, ◌<◌, true, false, ◌||◌, cond, List, [], ◌∷◌, length, get_or, refl, sym, ap, ◌∙◌, inl, inr}
use Rattle.std.specs.Ordering.{nat_cmp}
use Rattle.std.specs.FinMap.{nat_cmp-IsAntisymmetric, slice_cmp-IsAntisymmetric}
use Rattle.std.specs.List.{AllZip, Contains}
use Rattle.std.specs.Cmp.Lexicographic.{nat_list_cmp_total}
use Rattle.std.proofs.lemmas.Cmp.{nat_cmp_total}
use Rattle.simplex.specs.InOrder.{is_member}
use Rattle.simplex.specs.Simplex.{simplex_cmp}
use Rattle.simplex.proofs.InOrderLaws.{itself}
use Rattle.simplex.proofs.Members.{contains_in, in_contains, is_member_from, is_member_at}
use Rattle.simplex.proofs.Decided.{agree}
use Rattle.gf2_rank.specs.Laws.{IsNamed}
use Rattle.gf2_rank.specs.Span.{is_empty, difference, is_in_span, rank}
use Rattle.gf2_rank.proofs.SpanLaws.{odd, is_member-difference, odd_some, number_difference}

-- the same by tests
record IsPlaced (names : List (List ℕ)) (s : List ℕ) (x : List (List ℕ)) : Type 0 where
  places : (k : ℕ) → is_member nat_cmp k s ≡ true → k < length names
  values : (y : List ℕ) → is_member simplex_cmp y x ≡ true → Contains names y
  same : (k : ℕ) (d : List ℕ) → k < length names → is_member nat_cmp k s ≡ is_member simplex_cmp (get_or names k d) x

number_at : (k : ℕ) (s : List ℕ) → is_member nat_cmp k s ≡ true → Contains s k
number_at k s h = in_contains s k (is_member_at nat_cmp_total nat_cmp-IsAntisymmetric k s h)

number_from : (k : ℕ) (s : List ℕ) → Contains s k → is_member nat_cmp k s ≡ true
number_from k s h = is_member_from nat_cmp_total nat_cmp-IsAntisymmetric k s (contains_in s k h)

name_at : (y : List ℕ) (x : List (List ℕ)) → is_member simplex_cmp y x ≡ true → Contains x y
name_at y x h = in_contains x y (is_member_at nat_list_cmp_total (slice_cmp-IsAntisymmetric nat_cmp-IsAntisymmetric) y x h)

name_from : (y : List ℕ) (x : List (List ℕ)) → Contains x y → is_member simplex_cmp y x ≡ true
name_from y x h = is_member_from nat_list_cmp_total (slice_cmp-IsAntisymmetric nat_cmp-IsAntisymmetric) y x (contains_in x y h)

placed_from : (names : List (List ℕ)) (s : List ℕ) (x : List (List ℕ)) → IsNamed names s x → IsPlaced names s x
placed_from names s x h =
    record {
      places = λ k e. h.places k (number_at k s e);
      values = λ y e. h.values y (name_at y x e);
      same = λ k d l. agree (is_member nat_cmp k s) (is_member simplex_cmp (get_or names k d) x)
          (λ e. name_from (get_or names k d) x ((h.same k d l).0 (number_at k s e))) (λ e. number_from k s ((h.same k d l).1 (name_at (get_or names k d) x e)));
    }

name_difference : (q : List ℕ) (s t : List (List ℕ)) → is_member simplex_cmp q (difference simplex_cmp s t) ≡ odd (is_member simplex_cmp q s) (is_member simplex_cmp q t)
name_difference q s t = is_member-difference nat_list_cmp_total (slice_cmp-IsAntisymmetric nat_cmp-IsAntisymmetric) q s t

placed_difference : (names : List (List ℕ)) (s t : List ℕ) (x y : List (List ℕ)) → IsPlaced names s x → IsPlaced names t y → IsPlaced names (difference nat_cmp s t) (difference simplex_cmp x y)
placed_difference names s t x y h k =
    record {
      places = λ q e. elim (odd_some (is_member nat_cmp q s) (is_member nat_cmp q t) (sym (number_difference q s t) ∙ e)) [ inl a ↦ h.places q a | inr a ↦ k.places q a ];
      values = λ q e. elim (odd_some (is_member simplex_cmp q x) (is_member simplex_cmp q y) (sym (name_difference q x y) ∙ e)) [ inl a ↦ h.values q a | inr a ↦ k.values q a ];
      same = λ q d l. number_difference q s t ∙ ap (λ v. odd v (is_member nat_cmp q t)) (h.same q d l) ∙ ap (λ v. odd (is_member simplex_cmp (get_or names q d) x) v) (k.same q d l)
          ∙ sym (name_difference (get_or names q d) x y);
    }

placed_empty : (names : List (List ℕ)) (s : List ℕ) (x : List (List ℕ)) → IsPlaced names s x → is_empty s ≡ is_empty x
placed_empty names [] [] h = refl
placed_empty names [] (y ∷ x) h =
    let member : is_member simplex_cmp y (y ∷ x) ≡ true = ap (λ v. v || is_member simplex_cmp y x) (itself nat_list_cmp_total y) in
    let at = h.values y member in
    let none : false ≡ is_member simplex_cmp y (y ∷ x) = h.same at.0 y at.1 ∙ ap (λ z. is_member simplex_cmp z (y ∷ x)) at.2 in
    absurd (cc (none ∙ member))
placed_empty names (k ∷ s) [] h =
    let member : is_member nat_cmp k (k ∷ s) ≡ true = ap (λ v. v || is_member nat_cmp k s) (itself nat_cmp_total k) in
    let none : is_member nat_cmp k (k ∷ s) ≡ false = h.same k [] (h.places k member) in
    absurd (cc (sym none ∙ member))
placed_empty names (k ∷ s) (y ∷ x) h = refl

placed_span : (names : List (List ℕ)) (ts : List (List ℕ)) (xs : List (List (List ℕ))) (s : List ℕ) (x : List (List ℕ)) → AllZip (IsNamed names) ts xs → IsPlaced names s x
    → is_in_span simplex_cmp xs x ≡ is_in_span nat_cmp ts s
placed_span names [] [] s x all h = sym (placed_empty names s x h)
placed_span names [] (y ∷ xs) s x all h = absurd all
placed_span names (t ∷ ts) [] s x all h = absurd all
placed_span names (t ∷ ts) (y ∷ xs) s x all h =
    ap (λ v. v || is_in_span simplex_cmp xs (difference simplex_cmp x y)) (placed_span names ts xs s x all.1 h)
    ∙ ap (λ v. is_in_span nat_cmp ts s || v) (placed_span names ts xs (difference nat_cmp s t) (difference simplex_cmp x y) all.1 (placed_difference names s t x y h (placed_from names t y all.0)))

pub places_lem : (names : List (List ℕ)) (ts : List (List ℕ)) (xs : List (List (List ℕ))) → AllZip (IsNamed names) ts xs → rank simplex_cmp xs ≡ rank nat_cmp ts
places_lem names [] [] all = refl
places_lem names [] (y ∷ xs) all = absurd all
places_lem names (t ∷ ts) [] all = absurd all
places_lem names (t ∷ ts) (y ∷ xs) all =
    ap (λ v. cond v (rank simplex_cmp xs) (rank simplex_cmp xs + 1)) (placed_span names ts xs t y all.1 (placed_from names t y all.0))
    ∙ ap (λ n. cond (is_in_span nat_cmp ts t) n (n + 1)) (places_lem names ts xs all.1)
