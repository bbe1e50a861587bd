-- Boundaries have no boundary, and so the ranks of two dimensions in a row fit the faces between them.
use Rattle.std.proofs.Common.{◌≡◌, ℕ, ◌+◌, ◌<◌, ◌≤◌, Bool, true, false, ◌&&◌, cond, eqb, List, [], ◌∷◌, map, refl, sym, ap, ◌∙◌, subst, ◌⊎◌, inl, inr, arith}
use mathlib.Core.Bool.{true≢false}
use Rattle.std.specs.Prelude.{not}
use Rattle.std.specs.Ordering.{is_eq, is_lt}
use Rattle.std.specs.declared.cmp.Ordering.{Ordering}
use Rattle.std.specs.declared.cmp.Ordering.TheVariants.{Less, Equal, Greater}
use Rattle.std.specs.FinMap.{nat_cmp-IsAntisymmetric}
use Rattle.std.specs.List.{list_any, list_all}
use Rattle.std.specs.Cmp.Lexicographic.{nat_list_cmp_total}
use Rattle.std.proofs.lemmas.Cmp.{nat_cmp_total}
use Rattle.std.proofs.lemmas.Bool.Decides.{nat_tests}
use Rattle.simplex.specs.InOrder.{is_member, is_increasing}
use Rattle.simplex.specs.Simplex.{is_simplex, is_same, simplex_cmp, without}
use Rattle.simplex.proofs.InOrderLaws.{and_left, and_right, and_both}
use Rattle.simplex.proofs.Members.{In, first, later, cases, none, any_from, any_at, all_at, in_map, from_map, is_member_from, is_member_at, same_sets}
use Rattle.simplex.proofs.SimplexLaws.{in_without, from_without}
use Rattle.simplex.proofs.Decided.{agree, false_from, eqb_equal, eqb_apart}
use Rattle.facet_set.specs.Numbers.{face_count, faces_of_size}
use Rattle.facet_set.proofs.ComplexLaws.{exact, is_set, same_from, same_itself, without_set}
use Rattle.gf2_rank.specs.Span.{rank}
use Rattle.gf2_rank.proofs.SpanLaws.{odd, odd_some}
use Rattle.gf2_rank.proofs.KernelLaws.{parity, parity-odd, parity-same, AreRelations, kernel}
use Rattle.betti_tables.specs.Ranks.{column, rank_at}
use Rattle.betti_tables.proofs.FaceLaws.{column_faces, rising_faces, set_of}

not_both : (r : Ordering) → is_lt r ≡ true → is_eq r ≡ true → ⊥
not_both Less h e = true≢false (sym e)
not_both Equal h e = true≢false (sym h)
not_both Greater h e = true≢false (sym h)

parity_none : (p : List ℕ → Bool) (xs : List (List ℕ)) → ((x : List ℕ) → In x xs → p x ≡ false) → parity p xs ≡ false
parity_none p [] f = refl
parity_none p (x ∷ xs) f = ap (λ v. odd v (parity p xs)) (f x first) ∙ parity_none p xs (λ y i. f y (later i))

-- a member of an increasing list is there once
parity_one : (y : List ℕ) (xs : List (List ℕ)) → is_increasing simplex_cmp xs ≡ true → In y xs → parity (is_same y) xs ≡ true
parity_one y [] h i = absurd (none y i)
parity_one y (x ∷ xs) h i =
    let below : (z : List ℕ) → In z xs → is_same x z ≡ false = λ z j. false_from (is_same x z) (not_both (simplex_cmp x z) (all_at (λ w. is_lt (simplex_cmp x w)) z xs (and_left _ _ h) j)) in
    elim (cases i) [
      | inl e ↦
          ap (λ v. odd v (parity (is_same y) xs)) (subst (λ z. is_same y z ≡ true) e (same_itself y))
          ∙ ap (odd true) (parity_none (is_same y) xs (λ z j. ap (λ w. is_same w z) e ∙ below z j))
      | inr j ↦
          ap (λ v. odd v (parity (is_same y) xs)) (false_from (is_same y x) (λ t. true≢false (sym (same_itself x) ∙ ap (is_same x) (sym (same_from y x t)) ∙ below y j)))
          ∙ parity_one y xs (and_right (list_all (λ w. is_lt (simplex_cmp x w)) xs) _ h) j
    ]

member_at : (x : List ℕ) (xs : List (List ℕ)) → is_member simplex_cmp x xs ≡ true → In x xs
member_at x xs h = is_member_at nat_list_cmp_total exact x xs h

member_from : (x : List ℕ) (xs : List (List ℕ)) → In x xs → is_member simplex_cmp x xs ≡ true
member_from x xs i = is_member_from nat_list_cmp_total exact x xs i

turned_in : (s : List ℕ) (a b x : ℕ) → In x (without (without s a) b) → In x (without (without s b) a)
turned_in s a b x i =
    let r = from_without (without s a) b x i in
    let q = from_without s a x r.0 in
    in_without (without s b) a x (in_without s b x q.0 r.1) q.1

turned : (s : List ℕ) (a b : ℕ) → is_set s ≡ true → without (without s a) b ≡ without (without s b) a
turned s a b h =
    same_sets nat_cmp_total nat_cmp-IsAntisymmetric (without (without s a) b) (without (without s b) a) (without_set (without s a) b (without_set s a h)) (without_set (without s b) a (without_set s b h))
    (λ x i. turned_in s a b x i) (λ x i. turned_in s b a x i)

-- whether q has one label less than x, and x one less than s
is_between : List ℕ → List ℕ → List ℕ → Bool
is_between s q x = is_member simplex_cmp x (column s) && is_member simplex_cmp q (column x)

-- the two labels that s has more than q
record Two (s q : List ℕ) (a b : ℕ) : Type 0 where
  in_a : In a s
  in_b : In b s
  other : a ≡ b → ⊥
  same : q ≡ without (without s a) b

between_from : (s q : List ℕ) (a b : ℕ) → Two s q a b → is_between s q (without s a) ≡ true
unfolding is_between
between_from s q a b h =
    and_both _ _ (member_from (without s a) (column s) (in_map (without s) a s h.in_a))
    (member_from q (column (without s a)) (subst (λ z. In z (column (without s a))) (sym h.same) (in_map (without (without s a)) b (without s a) (in_without s a b h.in_b (λ e. h.other (sym e))))))

record Between (s q x : List ℕ) : Type 0 where
  a : ℕ
  b : ℕ
  is : x ≡ without s a
  two : Two s q a b

between_at : (s q x : List ℕ) → is_between s q x ≡ true → Between s q x
unfolding is_between
between_at s q x h =
    let r = from_map (without s) x s (member_at x (column s) (and_left _ _ h)) in
    let k = from_map (without x) q x (member_at q (column x) (and_right (is_member simplex_cmp x (column s)) _ h)) in
    let inside = from_without s r.0 k.0 (subst (In k.0) r.2 k.1) in
    record {
      a = r.0;
      b = k.0;
      is = r.2;
      two = record { in_a = r.1; in_b = inside.0; other = λ e. inside.1 (sym e); same = k.2 ∙ ap (λ z. without z k.0) r.2 };
    }

-- a label that is not in q is one of the two
one_of_two : (s q : List ℕ) (a b e : ℕ) → Two s q a b → In e s → (In e q → ⊥) → (e ≡ a) ⊎ (e ≡ b)
one_of_two s q a b e h i out =
    elim (eqb e a) as (λ v. eqb e a ≡ v → (e ≡ a) ⊎ (e ≡ b)) [
      | true ↦ λ k. inl (eqb_equal e a k)
      | false ↦ λ k. elim (eqb e b) as (λ v. eqb e b ≡ v → (e ≡ a) ⊎ (e ≡ b)) [
        | true ↦ λ l. inr (eqb_equal e b l)
        | false ↦ λ l. absurd (out (subst (In e) (sym h.same) (in_without (without s a) b e (in_without s a e i (eqb_apart e a k)) (eqb_apart e b l))))
      ] refl
    ] refl

first_out : (s q : List ℕ) (a b : ℕ) → Two s q a b → In a q → ⊥
first_out s q a b h i = (from_without s a a (from_without (without s a) b a (subst (In a) h.same i)).0).1 refl

other_two : (s q : List ℕ) (a b : ℕ) → is_set s ≡ true → Two s q a b → Two s q b a
other_two s q a b up h = record { in_a = h.in_b; in_b = h.in_a; other = λ e. h.other (sym e); same = h.same ∙ turned s a b up }

apart_sets : (s q : List ℕ) (a b : ℕ) → Two s q a b → is_same (without s a) (without s b) ≡ false
apart_sets s q a b h =
    false_from (is_same (without s a) (without s b))
    (λ t. (from_without s b b (subst (In b) (same_from (without s a) (without s b) t) (in_without s a b h.in_b (λ e. h.other (sym e))))).1 refl)

-- just two sets lie between
between_is : (s q : List ℕ) (a b : ℕ) → is_set s ≡ true → Two s q a b → (x : List ℕ) → is_between s q x ≡ odd (is_same (without s a) x) (is_same (without s b) x)
between_is s q a b up h x =
    let k : Two s q b a = other_two s q a b up h in
    agree (is_between s q x) (odd (is_same (without s a) x) (is_same (without s b) x))
    (λ e.
    let r = between_at s q x e in
    elim (one_of_two s q a b r.a h r.two.in_a (first_out s q r.a r.b r.two)) [
      | inl m ↦ subst (λ z. odd (is_same (without s a) z) (is_same (without s b) z) ≡ true) (sym (r.is ∙ ap (without s) m))
          (ap (λ v. odd v (is_same (without s b) (without s a))) (same_itself (without s a)) ∙ ap (odd true) (apart_sets s q b a k))
      | inr m ↦ subst (λ z. odd (is_same (without s a) z) (is_same (without s b) z) ≡ true) (sym (r.is ∙ ap (without s) m))
          (ap (λ v. odd v (is_same (without s b) (without s b))) (apart_sets s q a b h) ∙ same_itself (without s b))
    ])
    (λ e. elim (odd_some (is_same (without s a) x) (is_same (without s b) x) e) [
      | inl m ↦ subst (λ z. is_between s q z ≡ true) (same_from (without s a) x m) (between_from s q a b h)
      | inr m ↦ subst (λ z. is_between s q z ≡ true) (same_from (without s b) x m) (between_from s q b a k)
    ])

-- the boundary of a boundary is empty
no_boundary : (c : List (List ℕ)) (n : ℕ) (s q : List ℕ) → list_all is_simplex c ≡ true → In s (faces_of_size c (n + 1)) → parity (is_between s q) (faces_of_size c n) ≡ false
no_boundary c n s q h i =
    let p : List ℕ → Bool = is_between s q in
    let xs : List (List ℕ) = faces_of_size c n in
    let up : is_set s ≡ true = set_of c (n + 1) s h i in
    elim (list_any p xs) as (λ v. list_any p xs ≡ v → parity p xs ≡ false) [
      | true ↦ λ e.
          let some = any_at p xs e in
          let r = between_at s q some.0 some.2 in
          let one : (a b : ℕ) → Two s q a b → parity (is_same (without s a)) xs ≡ true =
          λ a b two. parity_one (without s a) xs (rising_faces c n) (column_faces c n s (without s a) h i (in_map (without s) a s two.in_a)) in
          parity-same p (λ x. odd (is_same (without s r.a) x) (is_same (without s r.b) x)) xs (between_is s q r.a r.b up r.two)
          ∙ parity-odd (is_same (without s r.a)) (is_same (without s r.b)) xs
          ∙ ap (λ v. odd v (parity (is_same (without s r.b)) xs)) (one r.a r.b r.two) ∙ ap (odd true) (one r.b r.a (other_two s q r.a r.b up r.two))
      | false ↦ λ e. parity_none p xs (λ x j. false_from (p x) (λ t. true≢false (sym (any_from p x xs j t) ∙ e)))
    ] refl

columns : List (List ℕ) → ℕ → List (List (List ℕ))
columns c n = map column (faces_of_size c n)

relations : (c : List (List ℕ)) (n : ℕ) → list_all is_simplex c ≡ true → AreRelations nat_list_cmp_total exact nat_list_cmp_total exact column (faces_of_size c n) (columns c (n + 1))
unfolding columns is_between
relations c n h =
    record {
      inside = λ t x i m.
          let at = from_map column t (faces_of_size c (n + 1)) i in
          column_faces c n at.0 x h at.1 (subst (In x) at.2 (member_at x t m));
      nothing = λ t q i.
          let at = from_map column t (faces_of_size c (n + 1)) i in
          ap (λ z. parity (λ x. is_member simplex_cmp x z && is_member simplex_cmp q (column x)) (faces_of_size c n)) at.2 ∙ no_boundary c n at.0 q h at.1;
    }

-- the rank of the columns of the faces with n labels and of those with one more
fit : (c : List (List ℕ)) (n : ℕ) → list_all is_simplex c ≡ true → rank simplex_cmp (map column (faces_of_size c n)) + rank simplex_cmp (map column (faces_of_size c (n + 1))) ≤ face_count c n
unfolding columns
fit c n h = kernel nat_list_cmp_total exact nat_list_cmp_total exact column (faces_of_size c n) (map column (faces_of_size c (n + 1))) (relations c n h)

pub rank_above : (c : List (List ℕ)) (k : ℕ) → 0 < k → rank_at c k ≡ rank simplex_cmp (map column (faces_of_size c (k + 1)))
unfolding rank_at
rank_above c k h =
    let e : eqb k 0 ≡ false = grind (arith, nat_tests) in
    ap (λ v. cond v 0 (rank simplex_cmp (map column (faces_of_size c (k + 1))))) e

pub rank_zero : (c : List (List ℕ)) → rank_at c 0 ≡ 0
unfolding rank_at
rank_zero c = refl

pub ranks_fit_lem : (c : List (List ℕ)) (k : ℕ) → list_all is_simplex c ≡ true → rank_at c k + rank_at c (k + 1) ≤ face_count c (k + 1)
ranks_fit_lem c k h =
    let both = fit c (k + 1) h in
    let high = rank_above c (k + 1) (omega arith) in
    elim (eqb k 0) as (λ v. eqb k 0 ≡ v → rank_at c k + rank_at c (k + 1) ≤ face_count c (k + 1)) [
      | true ↦ λ e. let low = ap (rank_at c) (eqb_equal k 0 e) ∙ rank_zero c in omega (arith, both, high, low)
      | false ↦ λ e. let some : 0 < k = grind (arith, nat_tests) in let low = rank_above c k some in omega (arith, both, high, low)
    ] refl
