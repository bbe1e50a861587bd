-- What a lattice keeps while facets come and go.
use Rattle.std.proofs.Common.{◌≡◌, ℕ, zero, suc, ◌≤◌, ◌<◌, ◌+◌, ◌^◌, Bool, true, false, cond, ◌&&◌, List, [], ◌∷◌, ◌++◌, length, get_or, Option, Some, None, IsSome, IfSome, refl, sym, ap, ◌∙◌, subst, arith}
use Rattle.std.specs.Bool.{IsTrue}
use Rattle.std.specs.Prelude.{◌==◌, slice_index_or}
use Rattle.std.specs.List.{flat_map, list_all, list_any}
use Rattle.std.specs.Option.{option_map}
use Rattle.std.specs.Cmp.Lexicographic.{nat_list_eq_equiv}
use Rattle.std.proofs.lemmas.Cmp.{nat_list_cmp_total}
use Rattle.std.proofs.lemmas.Map.Steps.{length-le_from_keys}
use Rattle.simplex.specs.InOrder.{is_increasing, put}
use Rattle.simplex.specs.Simplex.{is_simplex, is_within, simplex_cmp, subset_at, subsets}
use Rattle.simplex.proofs.Decided.{equal_at}
use Rattle.simplex.proofs.InOrderLaws.{and_left, and_right, is_increasing-in_order}
use Rattle.simplex.proofs.Members.{In, any_at, all_at, from_filter}
use Rattle.simplex.proofs.SimplexLaws.{is_increasing-filter, within_itself}
use Rattle.facet_set.specs.Complex.{faces, is_face}
use Rattle.facet_set.specs.Numbers.{face_count, faces_of_size}
use Rattle.facet_set.proofs.ComplexLaws.{from_faces, face_from, sets_of}
use Rattle.facet_set.proofs.FaceLaws.{face_simplex}
use Rattle.facet_set.proofs.GeneratedLaws.{same_at}
use Rattle.face_lattice.specs.Cells.{same, cell_of}
use Rattle.face_lattice.specs.Counts.{blank_count}
use Rattle.face_lattice.specs.Lattice.{IsLatticeOf, all_but, facets_in}
use Rattle.face_lattice.specs.Slots.{SlabState, no_slot, id_of, cell_at, seen, after_more, after_less, AreCellsOf, AreNoted}
use Rattle.face_lattice.specs.States.{CellState, shown}
use Rattle.face_lattice.proofs.ChangeLaws.{cells_put, cells_end, complex_put, complex_rest, no_facet, not_in_rest, rest_put, simplices_put, simplices_rest}
use Rattle.face_lattice.proofs.CountLaws.{count_more}
use Rattle.face_lattice.proofs.ListLaws.{comes, goes}
use Rattle.face_lattice.proofs.ViewLaws.{distinct_of, face_key, facets_are}

-- ---- the facets read off the cells are those of which the lattice keeps what it keeps
pub record IsMade (c : List (List ℕ)) (v : SlabState) (counts : List ℕ) : Type 0 where
  pub facets : facets_in v ≡ c
  pub kept : IsLatticeOf (facets_in v) v counts

pub made : (c : List (List ℕ)) (v : SlabState) (counts : List ℕ) → IsLatticeOf c v counts → IsMade c v counts
made c v counts h =
    let e = facets_are c v h.simplices h.complex h.cells in
    record { facets = e; kept = subst (λ d. IsLatticeOf d v counts) (sym e) h }

-- while no face changes
pub kept_still : (v w : SlabState) (counts : List ℕ) → IsLatticeOf (facets_in v) v counts → ((c : List (List ℕ)) → AreCellsOf c (cell_at v) → AreCellsOf c (cell_at w)) → IsMade (facets_in v) w counts
kept_still v w counts h k = made (facets_in v) w counts (record { simplices = h.simplices; complex = h.complex; cells = k (facets_in v) h.cells; sizes = h.sizes; counts_are = h.counts_are })

-- ---- no facet
all_zero : (xs : List ℕ) → list_all (λ x. x == 0) xs ≡ true → (n : ℕ) → get_or xs n 0 ≡ 0
all_zero [] h n = refl
all_zero (x ∷ xs) h zero = equal_at x 0 (and_left (x == 0) _ h)
all_zero (x ∷ xs) h (suc n) = all_zero xs (and_right (x == 0) _ h) n

none_kept : (v : SlabState) (t : List ℕ) (o : Option ℕ) → o ≡ None → option_map (λ i. (slice_index_or v.slots i no_slot).cell) o ≡ None
none_kept v t o e = ap (option_map (λ i. (slice_index_or v.slots i no_slot).cell)) e

no_face : (b : Bool) (t : List ℕ) → cond (b && false) (Some (cell_of [] t)) None ≡ None
no_face true t = refl
no_face false t = refl

pub void_kept : (v : SlabState) (counts : List ℕ) → ((s : List ℕ) → id_of v s ≡ None) → length counts ≡ 13 → list_all (λ x. x == 0) counts ≡ true → IsMade [] v counts
void_kept v counts h n z = made [] v counts (record {
  simplices = refl;
  complex = refl;
  cells = record {
    seen = λ t. ap (λ o. seen (option_map shown o)) (none_kept v t (id_of v t) (h t)) ∙ sym (no_face (is_simplex t) t);
    blank = λ t. subst (λ o. IfSome o (λ (x : CellState). x.degree ≡ 0 → x.up ≡ [])) (sym (none_kept v t (id_of v t) (h t))) tt;
  };
  sizes = n;
  counts_are = λ k. all_zero counts z k;
})

-- ---- noted faces have cells
pub cell_there : (v : SlabState) (f : List ℕ) (gap : ℕ) (ids : List ℕ) → AreNoted v f gap ids → (k : ℕ) → k < 2 ^ length f → IsSome (cell_at v (subset_at f k))
cell_there v f gap ids n k l = subst (λ o. IsSome (option_map (λ i. (slice_index_or v.slots i no_slot).cell) o)) (sym (n.at k l).id) refl

-- ---- how many faces and facets there are
module _ (c : List (List ℕ)) (v : SlabState) (counts : List ℕ) (h : IsLatticeOf c v counts) where
  pub faces_few : (n : ℕ) → face_count c n ≤ length v.ids
  faces_few n = length-le_from_keys nat_list_eq_equiv (faces_of_size c n) v.ids (distinct_of (faces_of_size c n) (is_increasing-filter simplex_cmp (λ s. length s == n) (faces c) (is_increasing-in_order nat_list_cmp_total (flat_map subsets c))))
      (λ q m.
      let a = any_at (same q) (faces_of_size c n) m in
      let r = from_filter (λ s. length s == n) a.0 (faces c) a.1 in
      let f = from_faces c a.0 (sets_of c h.simplices) r.0 in
      subst (λ s. IsSome (id_of v s)) (sym (same_at q a.0 a.2)) (face_key c v h.simplices h.complex h.cells a.0 (face_simplex c a.0 h.simplices f.0 f.1) f.1))

  pub facets_few : length c ≤ length v.ids
  facets_few = length-le_from_keys nat_list_eq_equiv c v.ids (distinct_of c (and_left _ _ h.complex))
      (λ q m.
      let a = any_at (same q) c m in
      subst (λ s. IsSome (id_of v s)) (sym (same_at q a.0 a.2)) (face_key c v h.simplices h.complex h.cells a.0 (all_at is_simplex a.0 c h.simplices a.1) (face_from c a.0 a.0 a.1 (within_itself a.0))))

  -- ---- one facet more
  pub put_kept : (w : SlabState) (f : List ℕ) (gap : ℕ) (ids more : List ℕ) → IsTrue (is_simplex f) → is_face c f ≡ false → list_any (λ s. is_within s f) c ≡ false → AreNoted v f gap ids
      → ((t : List ℕ) → cell_at w t ≡ after_more f t (cell_at v t)) → length more ≡ 13
      → ((n : ℕ) → get_or more n 0 ≡ get_or counts n 0 + blank_count f (cell_at v) n (2 ^ length f)) → IsLatticeOf (put simplex_cmp f c) w more
  put_kept w f gap ids more s new above noted k len g =
      let up = and_left _ _ h.complex in
      record {
        simplices = simplices_put c f up s h.simplices;
        complex = complex_put c f h.complex new above;
        cells = cells_put c f up (no_facet c f (within_itself f) new) (cell_at w) (comes c f (cell_at v) (cell_at w) h.cells k);
        sizes = len;
        counts_are = λ n. g n ∙ ap (λ m. m + blank_count f (cell_at v) n (2 ^ length f)) (h.counts_are n) ∙ sym (count_more c f (cell_at v) h.simplices s h.cells up (cell_there v f gap ids noted) n);
      }

  -- ---- one facet less
  module _ (f : List ℕ) (i : In f c) where
    is_put : put simplex_cmp f (all_but f c) ≡ c
    is_put = rest_put c f (and_left _ _ h.complex) i

    rest_up : is_increasing simplex_cmp (all_but f c) ≡ true
    rest_up = and_left _ _ (complex_rest c f h.complex)

    simplex_f : IsTrue (is_simplex f)
    simplex_f = all_at is_simplex f c h.simplices i

    -- the facet as the last of the list
    pub cells_last : AreCellsOf (all_but f c ++ f ∷ []) (cell_at v)
    cells_last = cells_end (all_but f c) f rest_up (not_in_rest f c) (cell_at v) (subst (λ d. AreCellsOf d (cell_at v)) (sym is_put) h.cells)

    pub cells_left : (w : SlabState) → ((t : List ℕ) → cell_at w t ≡ after_less f (cell_at v) t) → AreCellsOf (all_but f c) (cell_at w)
    cells_left w k = goes (all_but f c) f (cell_at v) (cell_at w) simplex_f cells_last k

    pub count_left : (w : SlabState) (gap : ℕ) (ids : List ℕ) → AreNoted w f gap ids → ((t : List ℕ) → cell_at w t ≡ after_less f (cell_at v) t)
        → (n : ℕ) → get_or counts n 0 ≡ face_count (all_but f c) n + blank_count f (cell_at w) n (2 ^ length f)
    count_left w gap ids noted k n =
        h.counts_are n ∙ ap (λ d. face_count d n) (sym is_put)
        ∙ count_more (all_but f c) f (cell_at w) (simplices_rest c f h.simplices) simplex_f (cells_left w k) rest_up (cell_there w f gap ids noted) n

    pub take_kept : (w u : SlabState) (gap : ℕ) (ids fewer : List ℕ) → AreNoted w f gap ids → ((t : List ℕ) → cell_at w t ≡ after_less f (cell_at v) t) → AreCellsOf (all_but f c) (cell_at u) → length fewer ≡ 13
        → ((n : ℕ) → get_or fewer n 0 + blank_count f (cell_at w) n (2 ^ length f) ≡ get_or counts n 0) → IsLatticeOf (all_but f c) u fewer
    take_kept w u gap ids fewer noted k are len g = record {
      simplices = simplices_rest c f h.simplices;
      complex = complex_rest c f h.complex;
      cells = are;
      sizes = len;
      counts_are = λ n. let a = g n in let b = count_left w gap ids noted k n in omega (arith, a, b);
    }
