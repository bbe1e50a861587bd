-- The cells of a list of facets under one facet more or less.
use Rattle.std.proofs.Common.{◌≡◌, ℕ, ◌<◌, ◌+◌, ◌-◌, ◌^◌, Bool, true, false, not, cond, ◌&&◌, List, [], ◌∷◌, ◌++◌, length, length-append, get_or, Option, Some, None, IfSome, refl, sym, ap, ◌∙◌, subst, inl, inr, arith}
use mathlib.Core.Bool.{true≢false}
use Rattle.std.specs.Bool.{IsTrue}
use Rattle.std.specs.Prelude.{◌==◌}
use Rattle.std.specs.Option.{option_map}
use Rattle.std.specs.Ordering.{nat_cmp}
use Rattle.std.specs.List.{filter, flat_map}
use Rattle.std.specs.FinMap.{nat_cmp-IsAntisymmetric}
use Rattle.std.proofs.lemmas.Bool.Decides.{nat_tests}
use Rattle.std.proofs.lemmas.Cmp.{nat_cmp_total}
use Rattle.std.proofs.lemmas.List.{get_or_default}
use Rattle.std.proofs.lemmas.List.Elements.{filter-append}
use Rattle.simplex.specs.InOrder.{is_increasing, put, in_order}
use Rattle.simplex.specs.Simplex.{has, is_simplex, is_within, minus, union, subset_at}
use Rattle.simplex.proofs.InOrderLaws.{and_left, and_right, and_both, is_increasing-in_order, in_order_again}
use Rattle.simplex.proofs.Members.{In, first, later, cases, none, in_filter, from_filter, in_left, in_right, in_either, in_flat_map, from_flat_map, in_contains, in_order_in, from_in_order, same_sets}
use Rattle.simplex.proofs.SimplexLaws.{is_increasing-filter, within_in, in_within, has_from, has_at}
use Rattle.simplex.proofs.SubsetLaws.{number_of, subset_within}
use Rattle.simplex.proofs.Filled.{rising_of, simplex-subset_at}
use Rattle.simplex.proofs.Decided.{equal_at, equal_from, not_from, not_true}
use Rattle.facet_set.specs.Complex.{is_face, facets_with, verts}
use Rattle.facet_set.specs.Flips.{link_vertices}
use Rattle.facet_set.specs.Numbers.{degree}
use Rattle.facet_set.proofs.ComplexLaws.{face_at, face_from}
use Rattle.face_lattice.specs.Cells.{FaceCell, cell_of, kept_at, put_facet, after_facet}
use Rattle.face_lattice.proofs.CellLaws.{cells_more, no_facet_no_face_lem}
use Rattle.face_lattice.specs.States.{CellState, shown, more, put_more, put_less, has_degree, emptied}
use Rattle.face_lattice.specs.Slots.{seen, beside}
use Rattle.face_lattice.specs.Slots.{AreCellsOf}
use Rattle.face_lattice.proofs.Statements.{FacetComes, FacetGoes}
use Rattle.face_lattice.proofs.MaskLaws.{one_bit}

-- ---- one facet more
seen_more : (f t : List ℕ) (o : Option CellState) → IfSome o (λ x. x.degree ≡ 0 → x.up ≡ []) → seen (option_map shown (Some (put_more f t o))) ≡ Some (put_facet f t (seen (option_map shown o)))
seen_more f t None h = refl
seen_more f t (Some x) h = some_degree ∙ by (x.degree == 0) refl
  where
    some_degree : seen (Some (shown (more f t x))) ≡ Some (shown (more f t x))
    some_degree = let e : (x.degree + 1 == 0) ≡ false = grind (arith, nat_tests) in ap (λ b. cond b None (Some (shown (more f t x)))) e

    by : (b : Bool) → (x.degree == 0) ≡ b → Some (shown (more f t x)) ≡ Some (put_facet f t (cond b None (Some (shown x))))
    by true e = let z : x.degree ≡ 0 = grind (arith, nat_tests) in λ i. Some (record { degree = z i + 1; up = union (h z i) (minus f t) })
    by false e = refl

blank_more : (f t : List ℕ) (o : Option CellState) → (put_more f t o).degree ≡ 0 → (put_more f t o).up ≡ []
blank_more f t None z = absurd (omega (arith, z))
blank_more f t (Some x) z = absurd (omega (arith, z))

pub comes : FacetComes
comes c f old new h k = record {
  seen = λ t. ap (λ o. seen (option_map shown o)) (k t) ∙ by t (is_simplex t && is_within t f) ∙ ap (after_facet f t) (h.seen t) ∙ sym (cells_more c f t);
  blank = λ t. subst (λ o. IfSome o (λ (x : CellState). x.degree ≡ 0 → x.up ≡ [])) (sym (k t)) (none_left t (is_simplex t && is_within t f));
}
  where
    by : (t : List ℕ) (b : Bool) → seen (option_map shown (cond b (Some (put_more f t (old t))) (old t))) ≡ cond b (Some (put_facet f t (seen (option_map shown (old t))))) (seen (option_map shown (old t)))
    by t true = seen_more f t (old t) (h.blank t)
    by t false = refl

    none_left : (t : List ℕ) (b : Bool) → IfSome (cond b (Some (put_more f t (old t))) (old t)) (λ x. x.degree ≡ 0 → x.up ≡ [])
    none_left t true = blank_more f t (old t)
    none_left t false = h.blank t

-- ---- one facet less
pub record IsSeen (o : Option CellState) (y : FaceCell) : Type 0 where
  pub cell : CellState
  pub is : o ≡ Some cell
  pub shows : shown cell ≡ y
  pub some : 0 < cell.degree

abbrev is_there : Option FaceCell → Bool
is_there None = false
is_there (Some x) = true

pub none_is : (y : FaceCell) → None ≡ Some y → ⊥
none_is y e = true≢false (sym (ap is_there e))

abbrev pub or_this : FaceCell → Option FaceCell → FaceCell
or_this d None = d
or_this d (Some x) = x

pub seen_some : (o : Option CellState) (y : FaceCell) → seen (option_map shown o) ≡ Some y → IsSeen o y
seen_some None y e = absurd (none_is y e)
seen_some (Some x) y e = by (x.degree == 0) refl e
  where
    by : (b : Bool) → (x.degree == 0) ≡ b → cond b None (Some (shown x)) ≡ Some y → IsSeen (Some x) y
    by true q g = absurd (none_is y g)
    by false q g = let l : 0 < x.degree = grind (arith, nat_tests) in record { cell = x; is = refl; shows = ap (or_this y) g; some = l }

-- the link vertices by their members
pub record IsLinked (fs : List (List ℕ)) (s : List ℕ) (y : ℕ) : Type 0 where
  pub facet : List ℕ
  pub among : In facet fs
  pub within : is_within s facet ≡ true
  pub in_facet : In y facet
  pub beside : has s y ≡ false

pub linked_at : (c : List (List ℕ)) (s : List ℕ) (y : ℕ) → In y (link_vertices c s) → IsLinked c s y
linked_at c s y i =
    let r = from_filter (λ a. not (has s a)) y (verts (facets_with c s)) i in
    let g = from_flat_map (λ t. t) y (facets_with c s) (from_in_order nat_cmp_total nat_cmp-IsAntisymmetric y _ r.0) in
    let w = from_filter (is_within s) g.0 c g.1 in
    record { facet = g.0; among = w.0; within = w.1; in_facet = g.2; beside = not_true (has s y) r.1 }

pub linked_from : (c : List (List ℕ)) (s g : List ℕ) (y : ℕ) → In g c → is_within s g ≡ true → In y g → has s y ≡ false → In y (link_vertices c s)
linked_from c s g y i w j n =
    in_filter (λ a. not (has s a)) y (verts (facets_with c s))
    (in_order_in nat_cmp_total nat_cmp-IsAntisymmetric y _ (in_flat_map (λ u. u) g y (facets_with c s) (in_filter (is_within s) g c i w) j))
    (ap not n)

pub link_rising : (c : List (List ℕ)) (s : List ℕ) → is_increasing nat_cmp (link_vertices c s) ≡ true
link_rising c s = is_increasing-filter nat_cmp (λ a. not (has s a)) (verts (facets_with c s)) (is_increasing-in_order nat_cmp_total (flat_map (λ t. t) (facets_with c s)))

-- a set with one label more
put_is : (y : ℕ) (s : List ℕ) → is_increasing nat_cmp s ≡ true → put nat_cmp y s ≡ in_order nat_cmp (y ∷ s)
put_is y s h = ap (put nat_cmp y) (sym (in_order_again nat_cmp_total nat_cmp-IsAntisymmetric s h))

put_within : (y : ℕ) (s g : List ℕ) → is_increasing nat_cmp s ≡ true → is_within s g ≡ true → In y g → is_within (put nat_cmp y s) g ≡ true
put_within y s g h w i = in_within (put nat_cmp y s) g (λ z j. elim (cases (from_in_order nat_cmp_total nat_cmp-IsAntisymmetric z (y ∷ s) (subst (λ t. In z t) (put_is y s h) j))) [
  | inl e ↦ subst (λ x. In x g) (sym e) i
  | inr k ↦ within_in s g z w k
])

within_put : (y : ℕ) (s g : List ℕ) → is_increasing nat_cmp s ≡ true → is_within (put nat_cmp y s) g ≡ true → is_within s g ≡ true × In y g
within_put y s g h w =
    let there = λ (z : ℕ) (j : In z (y ∷ s)). let r : In z g = within_in (put nat_cmp y s) g z w (subst (λ t. In z t) (sym (put_is y s h)) (in_order_in nat_cmp_total nat_cmp-IsAntisymmetric z (y ∷ s) j)) in r in
    (in_within s g (λ z j. there z (later j)), there y first)

-- degrees
degree_more : (c : List (List ℕ)) (f t : List ℕ) → is_within t f ≡ true → degree (c ++ f ∷ []) t ≡ degree c t + 1
degree_more c f t w =
    ap length (filter-append (is_within t) c (f ∷ [])) ∙ length-append (facets_with c t) (filter (is_within t) (f ∷ [])) ∙ ap (λ b. degree c t + length (cond b (f ∷ []) [])) w

kept_face : (c : List (List ℕ)) (f t : List ℕ) → is_simplex t ≡ true → is_within t f ≡ true → kept_at (c ++ f ∷ []) t ≡ Some (cell_of (c ++ f ∷ []) t)
kept_face c f t h w =
    ap (λ b. cond b (Some (cell_of (c ++ f ∷ []) t)) None)
    (and_both (is_simplex t) (is_face (c ++ f ∷ []) t) h (face_from (c ++ f ∷ []) t f (in_right f c (f ∷ []) first) w))

record IsLarger (f : List ℕ) (t : List ℕ) (y : ℕ) : Type 0 where
  simplex : is_simplex (put nat_cmp y t) ≡ true
  within : is_within (put nat_cmp y t) f ≡ true

larger : (f t : List ℕ) (y : ℕ) → IsTrue (is_simplex f) → is_simplex t ≡ true → is_within t f ≡ true → In y f → has t y ≡ false → IsLarger f t y
larger f t y h st w i n =
    let m = number_of f t (rising_of f h) (rising_of t st) w in
    let q = in_contains f y i in
    let same_y : get_or f q.0 0 ≡ y = get_or_default f q.0 0 y q.1 ∙ q.2 in
    let more = one_bit f m.0 q.0 (rising_of f h) q.1 m.1 ((λ k. has (m.2 k) (same_y k)) ∙ n) in
    let e : subset_at f (m.0 + 2 ^ q.0) ≡ put nat_cmp y t = more.subset ∙ (λ k. put nat_cmp (same_y k) (m.2 k)) in
    record {
      simplex = subst (λ u. is_simplex u ≡ true) e (simplex-subset_at f (m.0 + 2 ^ q.0) h);
      within = subst (λ u. is_within u f ≡ true) e (subset_within f (m.0 + 2 ^ q.0));
    }

module _ (c : List (List ℕ)) (f : List ℕ) (old : List ℕ → Option CellState) (s : IsTrue (is_simplex f)) (are : AreCellsOf (c ++ f ∷ []) old) where
  pub old_at : (t : List ℕ) → is_simplex t ≡ true → is_within t f ≡ true → IsSeen (old t) (cell_of (c ++ f ∷ []) t)
  old_at t h w = seen_some (old t) (cell_of (c ++ f ∷ []) t) (are.seen t ∙ kept_face c f t h w)

  -- the degree is 1 where no other facet has the face
  ends_at : (t : List ℕ) → is_simplex t ≡ true → is_within t f ≡ true → has_degree 1 (old t) ≡ (degree c t == 0)
  ends_at t h w =
      let o = old_at t h w in
      let d : o.cell.degree ≡ degree c t + 1 = ap (λ x. x.degree) o.shows ∙ degree_more c f t w in
      ap (has_degree 1) o.is ∙ ap (λ n. n == 1) d ∙ next_one (degree c t)
    where
      next_one : (n : ℕ) → (n + 1 == 1) ≡ (n == 0)
      next_one n = grind (arith, nat_tests)

  lost : List ℕ → List ℕ
  lost t = beside 1 f old t

  still_linked : (t : List ℕ) (y : ℕ) → is_simplex t ≡ true → is_within t f ≡ true → In y (minus (link_vertices (c ++ f ∷ []) t) (beside 1 f old t)) → In y (link_vertices c t)
  still_linked t y h w i =
      let r = from_filter (λ a. not (has (beside 1 f old t) a)) y (link_vertices (c ++ f ∷ []) t) i in
      let l = linked_at (c ++ f ∷ []) t y r.0 in
      elim (in_either l.facet c (f ∷ []) l.among) [
        | inl j ↦ linked_from c t l.facet y j l.within l.in_facet l.beside
        | inr j ↦
            let e : l.facet ≡ f = elim (cases j) [ inl e ↦ e | inr n ↦ absurd (none l.facet n) ] in
            let in_f : In y f = subst (λ g. In y g) e l.in_facet in
            let u = larger f t y s h w in_f l.beside in
            elim (degree c (put nat_cmp y t) == 0) as (λ v. (degree c (put nat_cmp y t) == 0) ≡ v → In y (link_vertices c t)) [
              | true ↦ λ z. absurd (true≢false (sym (has_from (beside 1 f old t) y (in_filter (λ x. not (has t x) && has_degree 1 (old (put nat_cmp x t))) y f in_f (and_both (not (has t y)) _ (ap not l.beside) (ends_at (put nat_cmp y t) u.simplex u.within ∙ z)))) ∙ not_true _ r.1))
              | false ↦ λ z.
                  let face : is_face c (put nat_cmp y t) ≡ true = is_face_at (is_face c (put nat_cmp y t)) refl z in
                  let g = face_at c (put nat_cmp y t) face in
                  let p = within_put y t g.0 (rising_of t h) g.2 in
                  linked_from c t g.0 y g.1 p.0 p.1 l.beside
            ] refl
      ]
    where
      is_face_at : (v : Bool) → is_face c (put nat_cmp y t) ≡ v → (degree c (put nat_cmp y t) == 0) ≡ false → is_face c (put nat_cmp y t) ≡ true
      is_face_at true e z = e
      is_face_at false e z = absurd (true≢false (sym (equal_from _ _ ((no_facet_no_face_lem c (put nat_cmp y t)).1 e)) ∙ z))

  linked_still : (t : List ℕ) (y : ℕ) → is_simplex t ≡ true → is_within t f ≡ true → In y (link_vertices c t) → In y (minus (link_vertices (c ++ f ∷ []) t) (beside 1 f old t))
  linked_still t y h w i =
      let l = linked_at c t y i in
      in_filter (λ a. not (has (beside 1 f old t) a)) y (link_vertices (c ++ f ∷ []) t)
      (linked_from (c ++ f ∷ []) t l.facet y (in_left l.facet c (f ∷ []) l.among) l.within l.in_facet l.beside)
      (not_from (has (beside 1 f old t) y) (λ b.
      let q = from_filter (λ x. not (has t x) && has_degree 1 (old (put nat_cmp x t))) y f (has_at (beside 1 f old t) y b) in
      let u = larger f t y s h w q.0 l.beside in
      let z : (degree c (put nat_cmp y t) == 0) ≡ true = sym (ends_at (put nat_cmp y t) u.simplex u.within) ∙ and_right (not (has t y)) _ q.1 in
      let no = (no_facet_no_face_lem c (put nat_cmp y t)).0 (equal_at _ _ z) in
      true≢false (sym (face_from c (put nat_cmp y t) l.facet l.among (put_within y t l.facet (rising_of t h) l.within l.in_facet)) ∙ no)))

  link_less : (t : List ℕ) → is_simplex t ≡ true → is_within t f ≡ true → minus (link_vertices (c ++ f ∷ []) t) (beside 1 f old t) ≡ link_vertices c t
  link_less t h w =
      same_sets nat_cmp_total nat_cmp-IsAntisymmetric (minus (link_vertices (c ++ f ∷ []) t) (beside 1 f old t)) (link_vertices c t)
      (is_increasing-filter nat_cmp (λ a. not (has (beside 1 f old t) a)) (link_vertices (c ++ f ∷ []) t) (link_rising (c ++ f ∷ []) t)) (link_rising c t)
      (λ y i. still_linked t y h w i) (λ y i. linked_still t y h w i)

  -- what is left at a face of the facet
  left_at : (t : List ℕ) → is_simplex t ≡ true → is_within t f ≡ true → seen (option_map shown (Some (put_less (beside 1 f old t) (old t)))) ≡ kept_at c t
  left_at t h w =
      let o = old_at t h w in
      let d : o.cell.degree ≡ degree c t + 1 = ap (λ x. x.degree) o.shows ∙ degree_more c f t w in
      let up : minus o.cell.up (beside 1 f old t) ≡ link_vertices c t = ap (λ x. minus x.up (beside 1 f old t)) o.shows ∙ link_less t h w in
      ap (λ x. seen (option_map shown (Some (put_less (beside 1 f old t) x)))) o.is
      ∙ by o.cell d up (o.cell.degree == 1) refl (is_face c t) refl
      ∙ sym (ap (λ b. cond (b && is_face c t) (Some (cell_of c t)) None) h)
    where
      by : (x : CellState) → x.degree ≡ degree c t + 1 → minus x.up (beside 1 f old t) ≡ link_vertices c t → (b : Bool) → (x.degree == 1) ≡ b → (v : Bool) → is_face c t ≡ v
          → seen (Some (shown (cond b (emptied x) (record x { degree = x.degree - 1; up = minus x.up (beside 1 f old t) })))) ≡ cond v (Some (cell_of c t)) None
      by x d u true q true e =
          let z : degree c t ≡ 0 = let r : x.degree ≡ 1 = grind (arith, nat_tests) in omega (arith, d, r) in
          absurd (true≢false (sym e ∙ (no_facet_no_face_lem c t).0 z))
      by x d u true q false e = refl
      by x d u false q true e =
          let z : (x.degree - 1 == 0) ≡ false = grind (arith, nat_tests) in
          let g : x.degree - 1 ≡ degree c t = omega (arith, d) in
          ap (λ v. cond v None (Some (record { degree = x.degree - 1; up = minus x.up (beside 1 f old t) }))) z ∙ (λ i. Some (record { degree = g i; up = u i }))
      by x d u false q false e =
          let z : degree c t ≡ 0 = (no_facet_no_face_lem c t).1 e in
          absurd (true≢false (sym (equal_from x.degree 1 (omega (arith, d, z))) ∙ q))

  blank_less : (l : List ℕ) (o : Option CellState) → IfSome o (λ x. x.degree ≡ 0 → x.up ≡ []) → (put_less l o).degree ≡ 0 → (put_less l o).up ≡ []
  blank_less l None g z = refl
  blank_less l (Some x) g z = by (x.degree == 1) refl z
    where
      by : (b : Bool) → (x.degree == 1) ≡ b → (cond b (emptied x) (record x { degree = x.degree - 1; up = minus x.up l })).degree ≡ 0 → (cond b (emptied x) (record x { degree = x.degree - 1; up = minus x.up l })).up ≡ []
      by true q z = refl
      by false q z =
          let none : x.degree ≡ 0 = grind (arith, nat_tests) in
          ap (λ xs. minus xs l) (g none)

pub goes : FacetGoes
goes c f old new s h k = record {
  seen = λ t. ap (λ o. seen (option_map shown o)) (k t) ∙ by t (is_simplex t && is_within t f) refl;
  blank = λ t. subst (λ o. IfSome o (λ (x : CellState). x.degree ≡ 0 → x.up ≡ [])) (sym (k t)) (none_left t (is_simplex t && is_within t f));
}
  where
    by : (t : List ℕ) (b : Bool) → (is_simplex t && is_within t f) ≡ b → seen (option_map shown (cond b (Some (put_less (beside 1 f old t) (old t))) (old t))) ≡ kept_at c t
    by t true e = left_at c f old s h t (and_left (is_simplex t) (is_within t f) e) (and_right (is_simplex t) (is_within t f) e)
    by t false e = h.seen t ∙ cells_more c f t ∙ ap (λ b. cond b (Some (put_facet f t (kept_at c t))) (kept_at c t)) e

    none_left : (t : List ℕ) (b : Bool) → IfSome (cond b (Some (put_less (beside 1 f old t) (old t))) (old t)) (λ x. x.degree ≡ 0 → x.up ≡ [])
    none_left t true = blank_less c f old s h (beside 1 f old t) (old t) (h.blank t)
    none_left t false = h.blank t
