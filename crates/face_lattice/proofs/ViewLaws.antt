-- The facets read off the cells.
use Rattle.std.proofs.Common.{◌≡◌, ℕ, ◌<◌, ◌^◌, Bool, true, false, cond, ◌&&◌, List, [], ◌∷◌, length, Option, Some, None, IsSome, refl, sym, ap, ◌∙◌, subst, arith}
use mathlib.Core.Bool.{true≢false}
use Rattle.std.specs.Bool.{IsTrue}
use Rattle.std.specs.Prelude.{◌==◌, nat_lt, slice_index_or}
use Rattle.std.specs.Map.{keys_of}
use Rattle.std.specs.Option.{option_map}
use Rattle.std.specs.List.{filter, list_all, list_any, IsDistinct, AllByRecursion}
use Rattle.std.specs.Ordering.{is_lt}
use Rattle.std.proofs.lemmas.Bool.Decides.{nat_tests}
use Rattle.std.proofs.lemmas.Cmp.{nat_list_cmp_total}
use Rattle.std.proofs.lemmas.Map.Views.{Contains-keys_from_lookup}
use Rattle.simplex.specs.InOrder.{is_increasing}
use Rattle.simplex.specs.Simplex.{has, is_same, is_simplex, is_within, simplex_cmp, subset_at}
use Rattle.simplex.proofs.Decided.{agree, equal_at, equal_from, false_from, not_from}
use Rattle.simplex.proofs.Filled.{rising_of}
use Rattle.simplex.proofs.InOrderLaws.{and_left, and_right, and_both, is_increasing-in_order}
use Rattle.simplex.proofs.Members.{In, first, none, any_at, any_from, all_at, in_filter, from_filter, contains_in, is_member_at, is_member_from, in_order_in, from_in_order, same_sets}
use Rattle.simplex.proofs.SimplexLaws.{in_within, has_at, has_from, same_labels, within_itself}
use Rattle.simplex.proofs.SubsetLaws.{number_of}
use Rattle.facet_set.specs.Complex.{is_complex, is_face, is_maximal_in, is_proper_face, stands_in}
use Rattle.facet_set.specs.Flips.{link_vertices}
use Rattle.facet_set.proofs.ComplexLaws.{exact, face_at, face_from, maximal_at, same_from as set_from}
use Rattle.facet_set.proofs.FacetLaws.{below_apart}
use Rattle.facet_set.proofs.GeneratedLaws.{same_at}
use Rattle.face_lattice.specs.Cells.{FaceCell, same, cell_of, kept_at}
use Rattle.face_lattice.specs.Lattice.{facets_in, is_facet_cell}
use Rattle.face_lattice.specs.Slots.{SlabState, no_slot, id_of, cell_at, seen, AreCellsOf}
use Rattle.face_lattice.specs.States.{CellState, shown}
use Rattle.face_lattice.proofs.ListLaws.{linked_at, linked_from, none_is, or_this, seen_some}

nothing_in : (xs : List ℕ) → length xs ≡ 0 → (y : ℕ) → In y xs → ⊥
nothing_in [] e y i = none y i
nothing_in (x ∷ xs) e y i = absurd (omega (arith, e))

empty_where : (xs : List ℕ) → ((y : ℕ) → In y xs → ⊥) → length xs ≡ 0
empty_where [] f = refl
empty_where (x ∷ xs) f = absurd (f x first)

-- the cell of a facet, as it is seen
record IsFacetSeen (o : Option CellState) : Type 0 where
  cell : FaceCell
  is : seen (option_map shown o) ≡ Some cell
  last : length cell.up ≡ 0

facet_seen : (o : Option CellState) → is_facet_cell o ≡ true → IsFacetSeen o
facet_seen None h = absurd (true≢false (sym h))
facet_seen (Some x) h =
    let some : 0 < x.degree = let l = and_left (nat_lt 0 x.degree) _ h in grind (arith, nat_tests) in
    let e : (x.degree == 0) ≡ false = grind (arith, nat_tests) in
    record { cell = shown x; is = ap (λ b. cond b None (Some (shown x))) e; last = equal_at (length x.up) 0 (and_right (nat_lt 0 x.degree) _ h) }

-- a face that is kept
record IsKeptFace (c : List (List ℕ)) (s : List ℕ) (y : FaceCell) : Type 0 where
  simplex : is_simplex s ≡ true
  face : is_face c s ≡ true
  cell : cell_of c s ≡ y

kept_face : (c : List (List ℕ)) (s : List ℕ) (y : FaceCell) → kept_at c s ≡ Some y → IsKeptFace c s y
kept_face c s y e = by (is_simplex s) refl (is_face c s) refl e
  where
    by : (v : Bool) → is_simplex s ≡ v → (w : Bool) → is_face c s ≡ w → cond (v && w) (Some (cell_of c s)) None ≡ Some y → IsKeptFace c s y
    by true p true q e = record { simplex = p; face = q; cell = ap (or_this y) e }
    by true p false q e = absurd (none_is y e)
    by false p w q e = absurd (none_is y e)

pub some_from : {X Y : Type 0} (f : X → Y) (o : Option X) → IsSome (option_map f o) → IsSome o
some_from f None h = h
some_from f (Some x) h = refl

pub id_from : (v : SlabState) (s : List ℕ) → IsSome (cell_at v s) → IsSome (id_of v s)
id_from v s h = some_from (λ i. (slice_index_or v.slots i no_slot).cell) (id_of v s) h

larger_not : (s t : List ℕ) (y : ℕ) → is_within s t ≡ true → In y t → has s y ≡ false → is_proper_face s t ≡ false → ⊥
larger_not s t y w i b e = true≢false (sym (and_both (is_within s t) _ w (not_from (is_same s t) (λ q. true≢false (sym (has_from s y (subst (λ u. In y u) (sym (set_from s t q)) i)) ∙ b)))) ∙ e)

module _ (c : List (List ℕ)) (v : SlabState) (simplices : list_all is_simplex c ≡ true) (complex : is_complex c ≡ true) (are : AreCellsOf c (cell_at v)) where
  -- a face with no link vertex is a facet
  facet_from : (s : List ℕ) → is_facet_cell (cell_at v s) ≡ true → In s c
  facet_from s h =
      let o = facet_seen (cell_at v s) h in
      let k = kept_face c s o.cell (sym (are.seen s) ∙ o.is) in
      let t = face_at c s k.face in
      let empty : length (link_vertices c s) ≡ 0 = ap (λ y. length y.up) k.cell ∙ o.last in
      let all : is_within t.0 s ≡ true = in_within t.0 s (λ y i. has_at s y (elim (has s y) as (λ b. has s y ≡ b → has s y ≡ true) [
        | true ↦ λ e. e
        | false ↦ λ e. absurd (nothing_in (link_vertices c s) empty y (linked_from c s t.0 y t.1 t.2 i e))
      ] refl)) in
      let simplex_t = all_at is_simplex t.0 c simplices t.1 in
      subst (λ u. In u c) (sym (same_labels s t.0 (rising_of s k.simplex) (rising_of t.0 simplex_t) t.2 all)) t.1

  face_kept : (s : List ℕ) → is_simplex s ≡ true → is_face c s ≡ true → kept_at c s ≡ Some (cell_of c s)
  face_kept s h f = ap (λ b. cond b (Some (cell_of c s)) None) (and_both (is_simplex s) (is_face c s) h f)

  -- a facet has no link vertex
  facet_at : (s : List ℕ) → In s c → is_facet_cell (cell_at v s) ≡ true
  facet_at s i =
      let h = all_at is_simplex s c simplices i in
      let o = seen_some (cell_at v s) (cell_of c s) (are.seen s ∙ face_kept s h (face_from c s s i (within_itself s))) in
      let empty : length (link_vertices c s) ≡ 0 = empty_where (link_vertices c s) (λ y j.
      let l = linked_at c s y j in
      let small = maximal_at c s l.facet (all_at (is_maximal_in c) s c (and_right _ _ complex) i) l.among in
      larger_not s l.facet y l.within l.in_facet l.beside small) in
      let up : length o.cell.up ≡ 0 = ap (λ y. length y.up) o.shows ∙ empty in
      ap is_facet_cell o.is ∙ and_both (nat_lt 0 o.cell.degree) _ (let l : 0 < o.cell.degree = o.some in grind (arith, nat_tests)) (equal_from (length o.cell.up) 0 up)

  pub facet_is : (s : List ℕ) → is_facet_cell (cell_at v s) ≡ stands_in c s
  facet_is s = agree _ _ (λ h. is_member_from nat_list_cmp_total exact s c (facet_from s h)) (λ h. facet_at s (is_member_at nat_list_cmp_total exact s c h))

  has_id : (s : List ℕ) → is_simplex s ≡ true → is_face c s ≡ true → IsSome (id_of v s)
  has_id s h f = id_from v s (let o = seen_some (cell_at v s) (cell_of c s) (are.seen s ∙ face_kept s h f) in subst (λ x. IsSome x) (sym o.is) refl)

  pub face_key : (s : List ℕ) → is_simplex s ≡ true → is_face c s ≡ true → IsSome (id_of v s)
  face_key = has_id

  pub facets_are : facets_in v ≡ c
  facets_are =
      same_sets nat_list_cmp_total exact (facets_in v) c (is_increasing-in_order nat_list_cmp_total (filter (λ s. is_facet_cell (cell_at v s)) (keys_of v.ids))) (and_left _ _ complex)
      (λ s i. facet_from s (from_filter (λ s. is_facet_cell (cell_at v s)) s (keys_of v.ids) (from_in_order nat_list_cmp_total exact s _ i)).1)
      (λ s i. in_order_in nat_list_cmp_total exact s _ (in_filter (λ s. is_facet_cell (cell_at v s)) s (keys_of v.ids)
      (contains_in (keys_of v.ids) s (Contains-keys_from_lookup same_at s v.ids (has_id s (all_at is_simplex s c simplices i) (face_from c s s i (within_itself s))))) (facet_at s i)))

-- ---- how many faces there are
apart_all : (x : List ℕ) (xs : List (List ℕ)) → list_all (λ y. is_lt (simplex_cmp x y)) xs ≡ true → AllByRecursion (λ y. same x y ≡ false) xs
apart_all x [] h = tt
apart_all x (y ∷ ys) h = (false_from (same x y) (λ e. below_apart x y (and_left _ _ h) (same_at x y e)), apart_all x ys (and_right (is_lt (simplex_cmp x y)) _ h))

pub distinct_of : (xs : List (List ℕ)) → is_increasing simplex_cmp xs ≡ true → IsDistinct same xs
unfolding IsDistinct
distinct_of [] h = tt
distinct_of (x ∷ xs) h = (apart_all x xs (and_left _ _ h), distinct_of xs (and_right (list_all (λ y. is_lt (simplex_cmp x y)) xs) _ h))

-- ---- a facet in a simplex
pub facet_within : (c : List (List ℕ)) (f t : List ℕ) → stands_in c t ≡ true → is_within t f ≡ true → list_any (λ s. is_within s f) c ≡ true
facet_within c f t h w = any_from (λ s. is_within s f) t c (is_member_at nat_list_cmp_total exact t c h) w

pub none_within : (c : List (List ℕ)) (f : List ℕ) (n : ℕ) → IsTrue (list_all is_simplex c) → IsTrue (is_simplex f) → n ≡ 2 ^ length f → ((k : ℕ) → k < n → stands_in c (subset_at f k) ≡ false) → list_any (λ s. is_within s f) c ≡ false
none_within c f n h s e k = false_from _ (λ a.
    let t = any_at (λ s. is_within s f) c a in
    let q = number_of f t.0 (rising_of f s) (rising_of t.0 (all_at is_simplex t.0 c h t.1)) t.2 in
    true≢false (sym (is_member_from nat_list_cmp_total exact t.0 c t.1) ∙ ap (stands_in c) (sym q.2) ∙ k q.0 (omega (arith, q.1, e))))
