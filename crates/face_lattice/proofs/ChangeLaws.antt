-- The list of the facets with one facet more or less.
use Rattle.std.proofs.Common.{◌≡◌, ℕ, ◌+◌, Bool, true, false, not, cond, ◌&&◌, List, [], ◌∷◌, ◌++◌, length, length-append, refl, sym, ap, ◌∙◌, subst, inl, inr, ◌⊎◌, arith}
use mathlib.Core.Bool.{true≢false}
use Rattle.std.specs.Ordering.{match_ordering}
use Rattle.std.specs.declared.cmp.Ordering.TheVariants.{Less, Equal, Greater}
use Rattle.std.specs.List.{filter, list_any, list_all}
use Rattle.std.specs.FinMap.{nat_cmp-IsAntisymmetric}
use Rattle.std.proofs.lemmas.Cmp.{nat_cmp_total, nat_list_cmp_total}
use Rattle.std.proofs.lemmas.List.Elements.{filter-append}
use Rattle.simplex.specs.InOrder.{is_increasing, in_order, put}
use Rattle.simplex.specs.Simplex.{is_simplex, is_same, is_within, simplex_cmp}
use Rattle.simplex.proofs.Decided.{agree, false_from, false_at, not_true}
use Rattle.simplex.proofs.InOrderLaws.{and_left, and_right, and_both, in_order_again, is_increasing-put}
use Rattle.simplex.proofs.Members.{In, first, later, at_head, cases, none, any_from, all_at, all_from, in_filter, from_filter, in_left, in_right, in_either, in_order_in, from_in_order, same_sets}
use Rattle.simplex.proofs.SimplexLaws.{is_increasing-filter}
use Rattle.facet_set.specs.Complex.{is_complex, is_face, is_maximal_in, is_proper_face}
use Rattle.facet_set.specs.Flips.{link_vertices}
use Rattle.facet_set.specs.Numbers.{degree}
use Rattle.facet_set.proofs.ComplexLaws.{exact, face_at, face_from, maximal_at, maximal_from, same_from, same_itself}
use Rattle.face_lattice.specs.Cells.{kept_at}
use Rattle.face_lattice.specs.Lattice.{all_but}
use Rattle.face_lattice.specs.Slots.{AreCellsOf}
use Rattle.face_lattice.specs.States.{CellState}
use Rattle.face_lattice.proofs.CellLaws.{cell_is}
use Rattle.face_lattice.proofs.ListLaws.{linked_at, linked_from, link_rising}
use Rattle.std.specs.Prelude.{Option, Some, None}

-- how many pass a test, with one more in its place
pub filter_put : (p : List ℕ → Bool) (x : List ℕ) (ys : List (List ℕ)) → (In x ys → ⊥) → length (filter p (put simplex_cmp x ys)) ≡ length (filter p ys) + cond (p x) 1 0
filter_put p x [] f = by (p x)
  where
    by : (b : Bool) → length (cond b (x ∷ []) []) ≡ 0 + cond b 1 0
    by true = refl
    by false = refl
filter_put p x (y ∷ ys) f =
    elim (simplex_cmp x y) as (λ r. simplex_cmp x y ≡ r → length (filter p (match_ordering r (x ∷ y ∷ ys) (y ∷ ys) (y ∷ put simplex_cmp x ys))) ≡ length (filter p (y ∷ ys)) + cond (p x) 1 0) [
      | Less ↦ λ e. one_first (p x) (filter p (y ∷ ys))
      | Equal ↦ λ e. absurd (f (at_head x y ys (exact x y e)))
      | Greater ↦ λ e. one_later (p y) (filter p (put simplex_cmp x ys)) (filter p ys) (cond (p x) 1 0) (filter_put p x ys (λ i. f (later i)))
    ] refl
  where
    one_first : (b : Bool) (zs : List (List ℕ)) → length (cond b (x ∷ zs) zs) ≡ length zs + cond b 1 0
    one_first true zs = omega arith
    one_first false zs = omega arith

    one_later : (b : Bool) (vs zs : List (List ℕ)) (n : ℕ) → length vs ≡ length zs + n → length (cond b (y ∷ vs) vs) ≡ length (cond b (y ∷ zs) zs) + n
    one_later true vs zs n e = omega (arith, e)
    one_later false vs zs n e = e

module _ (c : List (List ℕ)) (f : List ℕ) (up : is_increasing simplex_cmp c ≡ true) where
  put_is : put simplex_cmp f c ≡ in_order simplex_cmp (f ∷ c)
  put_is = ap (put simplex_cmp f) (sym (in_order_again nat_list_cmp_total exact c up))

  pub from_put : (s : List ℕ) → In s (put simplex_cmp f c) → (s ≡ f) ⊎ In s c
  from_put s i = cases (from_in_order nat_list_cmp_total exact s (f ∷ c) (subst (λ l. In s l) put_is i))

  pub put_has : In f (put simplex_cmp f c)
  put_has = subst (λ l. In f l) (sym put_is) (in_order_in nat_list_cmp_total exact f (f ∷ c) first)

  pub put_keeps : (s : List ℕ) → In s c → In s (put simplex_cmp f c)
  put_keeps s i = subst (λ l. In s l) (sym put_is) (in_order_in nat_list_cmp_total exact s (f ∷ c) (later i))

  pub put_rises : is_increasing simplex_cmp (put simplex_cmp f c) ≡ true
  put_rises = is_increasing-put nat_list_cmp_total f c up

  to_end : (s : List ℕ) → In s (put simplex_cmp f c) → In s (c ++ f ∷ [])
  to_end s i = elim (from_put s i) [ inl e ↦ in_right s c (f ∷ []) (at_head s f [] e) | inr j ↦ in_left s c (f ∷ []) j ]

  from_end : (s : List ℕ) → In s (c ++ f ∷ []) → In s (put simplex_cmp f c)
  from_end s i = elim (in_either s c (f ∷ []) i) [
    | inl j ↦ put_keeps s j
    | inr j ↦ elim (cases j) [ inl e ↦ subst (λ t. In t (put simplex_cmp f c)) (sym e) put_has | inr n ↦ absurd (none s n) ]
  ]

  face_put : (t : List ℕ) → is_face (put simplex_cmp f c) t ≡ is_face (c ++ f ∷ []) t
  face_put t = agree _ _
      (λ h. let g = face_at (put simplex_cmp f c) t h in face_from (c ++ f ∷ []) t g.0 (to_end g.0 g.1) g.2)
      (λ h. let g = face_at (c ++ f ∷ []) t h in face_from (put simplex_cmp f c) t g.0 (from_end g.0 g.1) g.2)

  link_put : (t : List ℕ) → link_vertices (put simplex_cmp f c) t ≡ link_vertices (c ++ f ∷ []) t
  link_put t = same_sets nat_cmp_total nat_cmp-IsAntisymmetric (link_vertices (put simplex_cmp f c) t) (link_vertices (c ++ f ∷ []) t) (link_rising (put simplex_cmp f c) t) (link_rising (c ++ f ∷ []) t)
      (λ y i. let l = linked_at (put simplex_cmp f c) t y i in linked_from (c ++ f ∷ []) t l.facet y (to_end l.facet l.among) l.within l.in_facet l.beside)
      (λ y i. let l = linked_at (c ++ f ∷ []) t y i in linked_from (put simplex_cmp f c) t l.facet y (from_end l.facet l.among) l.within l.in_facet l.beside)

  degree_put : (In f c → ⊥) → (t : List ℕ) → degree (put simplex_cmp f c) t ≡ degree (c ++ f ∷ []) t
  degree_put n t = filter_put (is_within t) f c n ∙ sym (ap length (filter-append (is_within t) c (f ∷ [])) ∙ length-append (filter (is_within t) c) (filter (is_within t) (f ∷ [])) ∙ ap (λ k. length (filter (is_within t) c) + k) (one (is_within t f)))
    where
      one : (b : Bool) → length (cond b (f ∷ []) []) ≡ cond b 1 0
      one true = refl
      one false = refl

  kept_put : (In f c → ⊥) → (t : List ℕ) → kept_at (put simplex_cmp f c) t ≡ kept_at (c ++ f ∷ []) t
  kept_put n t =
      let cell = cell_is _ _ _ _ (degree_put n t) (link_put t) in
      λ i. cond (is_simplex t && face_put t i) (Some (cell i)) None

  -- the place of the facet in the list does not matter to the cells
  pub cells_put : (In f c → ⊥) → (cells : List ℕ → Option CellState) → AreCellsOf (c ++ f ∷ []) cells → AreCellsOf (put simplex_cmp f c) cells
  cells_put n cells h = record { seen = λ t. h.seen t ∙ sym (kept_put n t); blank = h.blank }

  pub cells_end : (In f c → ⊥) → (cells : List ℕ → Option CellState) → AreCellsOf (put simplex_cmp f c) cells → AreCellsOf (c ++ f ∷ []) cells
  cells_end n cells h = record { seen = λ t. h.seen t ∙ kept_put n t; blank = h.blank }

  pub simplices_put : is_simplex f ≡ true → list_all is_simplex c ≡ true → list_all is_simplex (put simplex_cmp f c) ≡ true
  simplices_put h k = all_from is_simplex (put simplex_cmp f c) (λ s i. elim (from_put s i) [ inl e ↦ ap is_simplex e ∙ h | inr j ↦ all_at is_simplex s c k j ])

-- what is no face is no facet
pub no_facet : (c : List (List ℕ)) (f : List ℕ) → is_within f f ≡ true → is_face c f ≡ false → In f c → ⊥
no_facet c f w n i = true≢false (sym (face_from c f f i w) ∙ n)

-- what is no face and contains no facet makes a complex with the facets
pub complex_put : (c : List (List ℕ)) (f : List ℕ) → is_complex c ≡ true → is_face c f ≡ false → list_any (λ s. is_within s f) c ≡ false → is_complex (put simplex_cmp f c) ≡ true
complex_put c f h new above = and_both _ _ (put_rises c f up) (all_from (is_maximal_in (put simplex_cmp f c)) (put simplex_cmp f c) (λ s i. maximal_from (put simplex_cmp f c) s (λ t j. proper s t (from_put c f up s i) (from_put c f up t j))))
  where
    up : is_increasing simplex_cmp c ≡ true
    up = and_left _ _ h

    proper : (s t : List ℕ) → (s ≡ f) ⊎ In s c → (t ≡ f) ⊎ In t c → is_proper_face s t ≡ false
    proper s t (inl e) (inl g) = false_from _ (λ p. false_at (is_same s t) (not_true _ (and_right (is_within s t) _ p)) (subst (λ u. is_same s u ≡ true) (e ∙ sym g) (same_itself s)))
    proper s t (inl e) (inr j) = false_from _ (λ p. true≢false (sym (face_from c f t j (subst (λ u. is_within u t ≡ true) e (and_left (is_within s t) _ p))) ∙ new))
    proper s t (inr i) (inl g) = false_from _ (λ p. true≢false (sym (any_from (λ u. is_within u f) s c i (subst (λ u. is_within s u ≡ true) g (and_left (is_within s t) _ p))) ∙ above))
    proper s t (inr i) (inr j) = maximal_at c s t (all_at (is_maximal_in c) s c (and_right _ _ h) i) j

-- ---- one facet less
pub from_rest : (f s : List ℕ) (c : List (List ℕ)) → In s (all_but f c) → In s c
from_rest f s c i = (from_filter (λ t. not (is_same f t)) s c i).0

pub not_in_rest : (f : List ℕ) (c : List (List ℕ)) → In f (all_but f c) → ⊥
not_in_rest f c i = false_at (is_same f f) (not_true _ (from_filter (λ t. not (is_same f t)) f c i).1) (same_itself f)

-- the facet put back
pub rest_put : (c : List (List ℕ)) (f : List ℕ) → is_increasing simplex_cmp c ≡ true → In f c → put simplex_cmp f (all_but f c) ≡ c
rest_put c f up i =
    let low = is_increasing-filter simplex_cmp (λ s. not (is_same f s)) c up in
    same_sets nat_list_cmp_total exact (put simplex_cmp f (all_but f c)) c (put_rises (all_but f c) f low) up
    (λ s j. elim (from_put (all_but f c) f low s j) [ inl e ↦ subst (λ t. In t c) (sym e) i | inr k ↦ from_rest f s c k ])
    (λ s j. elim (is_same f s) as (λ v. is_same f s ≡ v → In s (put simplex_cmp f (all_but f c))) [
      | true ↦ λ e. subst (λ t. In t (put simplex_cmp f (all_but f c))) (same_from f s e) (put_has (all_but f c) f low)
      | false ↦ λ e. put_keeps (all_but f c) f low s (in_filter (λ t. not (is_same f t)) s c j (ap not e))
    ] refl)

pub complex_rest : (c : List (List ℕ)) (f : List ℕ) → is_complex c ≡ true → is_complex (all_but f c) ≡ true
complex_rest c f h = and_both _ _ (is_increasing-filter simplex_cmp (λ s. not (is_same f s)) c (and_left _ _ h))
    (all_from (is_maximal_in (all_but f c)) (all_but f c) (λ s i. maximal_from (all_but f c) s (λ t j. maximal_at c s t (all_at (is_maximal_in c) s c (and_right _ _ h) (from_rest f s c i)) (from_rest f t c j))))

pub simplices_rest : (c : List (List ℕ)) (f : List ℕ) → list_all is_simplex c ≡ true → list_all is_simplex (all_but f c) ≡ true
simplices_rest c f h = all_from is_simplex (all_but f c) (λ s i. all_at is_simplex s c h (from_rest f s c i))
