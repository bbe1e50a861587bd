-- The keys in use are the faces.
use Rattle.std.proofs.Common.{◌≡◌, ℕ, ◌<◌, ◌≤◌, ◌⊎◌, inl, inr, Bool, true, false, cond, ◌&&◌, List, [], ◌∷◌, length, get_or, ltb, Option, Some, None, IsSome, is_some, refl, sym, ap, ◌∙◌, subst, arith}
use mathlib.Core.Bool.{true≢false}
use Rattle.std.specs.Bool.{IsTrue}
use Rattle.std.specs.Prelude.{◌==◌}
use Rattle.std.specs.Map.{keys_of}
use Rattle.std.specs.Option.{option_map}
use Rattle.std.specs.List.{list_all, filter, IsDistinct}
use Rattle.std.specs.List.Sorted.{IsPermutation, IsSorted}
use Rattle.std.proofs.lemmas.Bool.Decides.{nat_tests}
use Rattle.std.proofs.lemmas.Map.Views.{Contains-keys_from_lookup}
use Rattle.simplex.specs.InOrder.{in_order}
use Rattle.simplex.specs.Simplex.{is_simplex, simplex_cmp}
use Rattle.simplex.proofs.Members.{In, first, later, in_filter, from_filter, contains_in, all_at}
use Rattle.simplex.proofs.Decided.{equal_from}
use Rattle.simplex.proofs.Filled.{rising_of, short_of}
use Rattle.simplex.proofs.SimplexLaws.{within_itself, within_length}
use Rattle.facet_set.specs.Complex.{faces}
use Rattle.facet_set.specs.Numbers.{faces_of_size, face_count, size}
use Rattle.facet_set.proofs.ComplexLaws.{face_at, face_from, from_faces, in_faces, sets_of}
use Rattle.facet_set.proofs.FaceLaws.{face_simplex}
use Rattle.facet_set.proofs.FaceTables.{distinct-filter, sorted_is, faces_of_keys}
use Rattle.facet_set.proofs.GeneratedLaws.{same_at}
use Rattle.face_lattice.specs.Cells.{same, cell_of}
use Rattle.face_lattice.specs.Slots.{SlabState, cell_at, seen, AreCellsOf}
use Rattle.face_lattice.specs.States.{CellState, shown, is_in_use}
use Rattle.face_lattice.proofs.ViewLaws.{id_from}

both : {X : Type 0} (p q : X → Bool) (xs : List X) → filter (λ x. p x && q x) xs ≡ filter p (filter q xs)
both p q [] = refl
both p q (x ∷ xs) = by (p x) (q x) refl refl (both p q xs)
  where
    by : (a b : Bool) → p x ≡ a → q x ≡ b → filter (λ x. p x && q x) xs ≡ filter p (filter q xs) → cond (a && b) (x ∷ filter (λ x. p x && q x) xs) (filter (λ x. p x && q x) xs) ≡ filter p (cond b (x ∷ filter q xs) (filter q xs))
    by true true e f h = ap (λ ys. x ∷ ys) h ∙ sym (ap (λ v. cond v (x ∷ filter p (filter q xs)) (filter p (filter q xs))) e)
    by true false e f h = h
    by false true e f h = h ∙ sym (ap (λ v. cond v (x ∷ filter p (filter q xs)) (filter p (filter q xs))) e)
    by false false e f h = h

-- a cell in use is seen
use_seen : (o : Option CellState) → is_in_use o ≡ true → IsSome (seen (option_map shown o))
use_seen None h = absurd (true≢false (sym h))
use_seen (Some x) h = let l : 0 < x.degree = grind (arith, nat_tests) in let e : (x.degree == 0) ≡ false = grind (arith, nat_tests) in ap (λ b. is_some (cond b None (Some (shown x)))) e

seen_use : (o : Option CellState) → IsSome (seen (option_map shown o)) → (is_in_use o ≡ true) × (IsSome o)
seen_use None h = absurd (true≢false (sym h))
seen_use (Some x) h = by (x.degree == 0) refl h
  where
    by : (b : Bool) → (x.degree == 0) ≡ b → IsSome (cond b None (Some (shown x))) → (is_in_use (Some x) ≡ true) × (IsSome (Some x))
    by true e h = absurd (true≢false (sym h))
    by false e h = (let l : ltb 0 x.degree ≡ true = grind (arith, nat_tests) in l, refl)

module _ (c : List (List ℕ)) (v : SlabState) (simplices : IsTrue (list_all is_simplex c)) (are : AreCellsOf c (cell_at v)) where
  keys_are : (n : ℕ) → in_order simplex_cmp (filter (λ s. length s == n) (filter (λ s. is_in_use (cell_at v s)) (keys_of v.ids))) ≡ faces_of_size c n
  keys_are n =
      faces_of_keys c (filter (λ s. is_in_use (cell_at v s)) (keys_of v.ids)) (λ s. seen (option_map shown (cell_at v s))) (cell_of c) n simplices (λ s e. are.seen s)
      (λ s i. use_seen (cell_at v s) (from_filter (λ s. is_in_use (cell_at v s)) s (keys_of v.ids) i).1)
      (λ s k. let u = seen_use (cell_at v s) k in in_filter (λ s. is_in_use (cell_at v s)) s (keys_of v.ids) (contains_in (keys_of v.ids) s (Contains-keys_from_lookup same_at s v.ids (id_from v s u.1))) u.0)

  pub faces_are : IsDistinct same (keys_of v.ids) → (n : ℕ) (xs ys : List (List ℕ)) → xs ≡ filter (λ s. length s == n && is_in_use (cell_at v s)) (keys_of v.ids) → IsPermutation xs ys → IsSorted simplex_cmp ys → ys ≡ faces_of_size c n
  faces_are u n xs ys e p s =
      sorted_is xs ys (subst (IsDistinct same) (sym e) (distinct-filter (λ s. length s == n && is_in_use (cell_at v s)) (keys_of v.ids) u)) p s
      ∙ ap (in_order simplex_cmp) (e ∙ both (λ s. length s == n) (λ s. is_in_use (cell_at v s)) (keys_of v.ids)) ∙ keys_are n

-- ---- the size
empty_list : (xs : List (List ℕ)) → ((s : List ℕ) → In s xs → ⊥) → length xs ≡ 0
empty_list [] f = refl
empty_list (x ∷ xs) f = absurd (f x first)

-- no face has more than twelve labels
pub none_longer : (c : List (List ℕ)) (n : ℕ) → IsTrue (list_all is_simplex c) → 12 < n → face_count c n ≡ 0
none_longer c n h l = empty_list (faces_of_size c n) (λ s i.
    let r = from_filter (λ s. length s == n) s (faces c) i in
    let f = from_faces c s (sets_of c h) r.0 in
    let k = short_of s (face_simplex c s h f.0 f.1) in
    let e : length s ≡ n = grind (arith, nat_tests, r.1) in
    absurd (omega (arith, k, e, l)))

within_size : (c : List (List ℕ)) (t : List ℕ) → In t c → length t ≤ size c
within_size [] t i = elim i [ ]
within_size (s ∷ c) t first = omega arith
within_size (s ∷ c) t (later i) = let h = within_size c t i in omega (arith, h)

-- a size with faces is at most that of the largest facet
size_above : (c : List (List ℕ)) (n : ℕ) → IsTrue (list_all is_simplex c) → 0 < face_count c n → n ≤ size c
size_above c n h l = by (faces_of_size c n) l (λ s i. i)
  where
    by : (xs : List (List ℕ)) → 0 < length xs → ((s : List ℕ) → In s xs → In s (faces_of_size c n)) → n ≤ size c
    by [] k f = absurd (omega (arith, k))
    by (x ∷ xs) k f =
        let r = from_filter (λ s. length s == n) x (faces c) (f x first) in
        let g = from_faces c x (sets_of c h) r.0 in
        let t = face_at c x g.1 in
        let e : length x ≡ n = grind (arith, nat_tests, r.1) in
        let b = within_length x t.0 (rising_of x (face_simplex c x h g.0 g.1)) (rising_of t.0 (all_at is_simplex t.0 c h t.1)) t.2 in
        omega (arith, e, b, within_size c t.0 t.1)

-- the largest facet is a face
largest : (s : List ℕ) (c : List (List ℕ)) → (t : List ℕ) × In t (s ∷ c) × (length t ≡ size (s ∷ c))
largest s [] = (s, first, omega arith)
largest s (u ∷ c) =
    let r = largest u c in
    elim (ltb (length s) (size (u ∷ c))) as (λ v. ltb (length s) (size (u ∷ c)) ≡ v → (t : List ℕ) × In t (s ∷ u ∷ c) × (length t ≡ size (s ∷ u ∷ c))) [
      | true ↦ λ e. let l : length s < size (u ∷ c) = grind (arith, nat_tests) in (r.0, later r.1, omega (arith, l, r.2))
      | false ↦ λ e. let l : size (u ∷ c) ≤ length s = grind (arith, nat_tests) in (s, first, omega (arith, l))
    ] refl

some_in : (xs : List (List ℕ)) (s : List ℕ) → In s xs → 0 < length xs
some_in [] s i = elim i [ ]
some_in (x ∷ xs) s i = omega arith

size_counts : (s : List ℕ) (c : List (List ℕ)) → IsTrue (list_all is_simplex (s ∷ c)) → 0 < face_count (s ∷ c) (size (s ∷ c))
size_counts s c h =
    let t = largest s c in
    let simplex = all_at is_simplex t.0 (s ∷ c) h t.1 in
    some_in (faces_of_size (s ∷ c) (size (s ∷ c))) t.0 (in_filter (λ u. length u == size (s ∷ c)) t.0 (faces (s ∷ c)) (in_faces (s ∷ c) t.0 (sets_of (s ∷ c) h) (rising_of t.0 simplex) (face_from (s ∷ c) t.0 t.0 t.1 (within_itself t.0))) (equal_from (length t.0) (size (s ∷ c)) t.2))

pub size_is : (c : List (List ℕ)) (counts : List ℕ) (n : ℕ) → IsTrue (list_all is_simplex c) → ((m : ℕ) → get_or counts m 0 ≡ face_count c m) → ((m : ℕ) → m < 13 → 0 < get_or counts m 0 → m ≤ n)
    → (n ≡ 0) ⊎ (0 < get_or counts n 0) → n ≡ size c
size_is [] counts n h k all some = elim some [ inl e ↦ e | inr l ↦ absurd (omega (arith, l, k n)) ]
size_is (s ∷ c) counts n h k all some =
    let top = size_counts s c h in
    let low : size (s ∷ c) < 13 = elim (ltb 12 (size (s ∷ c))) as (λ v. ltb 12 (size (s ∷ c)) ≡ v → size (s ∷ c) < 13) [
      | true ↦ λ e. let l : 12 < size (s ∷ c) = grind (arith, nat_tests) in absurd (omega (arith, top, none_longer (s ∷ c) (size (s ∷ c)) h l))
      | false ↦ λ e. let l : size (s ∷ c) ≤ 12 = grind (arith, nat_tests) in omega (arith, l)
    ] refl in
    let up = all (size (s ∷ c)) low (omega (arith, top, k (size (s ∷ c)))) in
    elim some [ inl e ↦ omega (arith, e, up) | inr l ↦ let down = size_above (s ∷ c) n h (omega (arith, l, k n)) in omega (arith, up, down) ]
