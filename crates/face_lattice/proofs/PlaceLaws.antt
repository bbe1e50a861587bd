-- Room for simplices that are to come.
use Rattle.std.proofs.Common.{◌≡◌, ℕ, ◌<◌, ◌^◌, Bool, true, false, not, cond, ◌&&◌, List, [], length, Option, Some, None, IsSome, IfSome, IsSomeAnd, refl, sym, subst, inl, inr, arith}
use mathlib.Core.Bool.{true≢false}
use Rattle.std.specs.Bool.{IsTrue}
use Rattle.std.specs.Option.{option_map}
use Rattle.std.specs.FinMap.{nat_cmp-IsAntisymmetric}
use Rattle.std.proofs.lemmas.Cmp.{nat_cmp_total}
use Rattle.simplex.specs.Simplex.{has, is_simplex, is_within, minus, union, subset_at}
use Rattle.simplex.proofs.Filled.{rising_of, simplex-subset_at}
use Rattle.simplex.proofs.InOrderLaws.{and_right}
use Rattle.simplex.proofs.Members.{In, in_filter, from_filter, in_flat_map, from_flat_map, in_order_in, from_in_order}
use Rattle.simplex.proofs.SimplexLaws.{is_increasing-union, in_within, within_in, within_length, in_union, from_union}
use Rattle.simplex.proofs.SubsetLaws.{number_of, subset_within}
use Rattle.facet_set.specs.Complex.{facets_with, verts}
use Rattle.facet_set.proofs.ComplexLaws.{face_at, face_from}
use Rattle.face_lattice.specs.Lattice.{IsRoomOf, all_but}
use Rattle.face_lattice.specs.Slots.{SlabState, id_of, cell_at, kept, after_more, AreNoted, IsReady, KeepsIds, Stays}
use Rattle.face_lattice.specs.States.{CellState, HasRoom, put_more, shown}
use Rattle.face_lattice.proofs.ChangeLaws.{from_rest}
use Rattle.face_lattice.proofs.LatticeLaws.{cell_there}
use Rattle.face_lattice.proofs.ListLaws.{none_is}
use Rattle.face_lattice.proofs.SlabLaws.{still_all_noted}
use Rattle.face_lattice.proofs.ViewLaws.{id_from}

-- ---- room for more labels is room for fewer
room_less : (v w s : List ℕ) (x : CellState) → ((y : ℕ) → In y w → In y v) → HasRoom v s x → HasRoom w s x
room_less v w s x sub h =
    let l = within_length (union x.up (minus w s)) (union x.up (minus v s)) (is_increasing-union x.up (minus w s)) (is_increasing-union x.up (minus v s))
    (in_within _ _ (λ y i. elim (from_union x.up (minus w s) y i) [
      | inl j ↦ in_union x.up (minus v s) y (inl j)
      | inr j ↦ let r = from_filter (λ a. not (has s a)) y w j in in_union x.up (minus v s) y (inr (in_filter (λ a. not (has s a)) y v (sub y r.0) r.1))
    ])) in
    omega (arith, l, h)

some_less : (v w s : List ℕ) (o : Option CellState) → ((y : ℕ) → In y w → In y v) → IsSomeAnd o (HasRoom v s) → IsSomeAnd o (HasRoom w s)
some_less v w s None sub h = h
some_less v w s (Some x) sub h = room_less v w s x sub h

pub if_some : {X : Type 0} (P : X → Type 0) (o : Option X) → IsSomeAnd o P → IfSome o P
if_some P None h = tt
if_some P (Some x) h = h

pub is_some_and : {X : Type 0} (P : X → Type 0) (o : Option X) → IsSomeAnd o P → IsSome o
is_some_and P None h = absurd h
is_some_and P (Some x) h = refl

-- the labels of the simplices that contain a face
vert_in : (c : List (List ℕ)) (t s : List ℕ) (y : ℕ) → In s c → is_within t s ≡ true → In y s → In y (verts (facets_with c t))
vert_in c t s y i w j = in_order_in nat_cmp_total nat_cmp-IsAntisymmetric y _ (in_flat_map (λ u. u) s y (facets_with c t) (in_filter (is_within t) s c i w) j)

record IsVertOf (c : List (List ℕ)) (t : List ℕ) (y : ℕ) : Type 0 where
  simplex : List ℕ
  among : In simplex c
  above : is_within t simplex ≡ true
  label : In y simplex

vert_at : (c : List (List ℕ)) (t : List ℕ) (y : ℕ) → In y (verts (facets_with c t)) → IsVertOf c t y
vert_at c t y i =
    let g = from_flat_map (λ u. u) y (facets_with c t) (from_in_order nat_cmp_total nat_cmp-IsAntisymmetric y _ i) in
    let w = from_filter (is_within t) g.0 c g.1 in
    record { simplex = g.0; among = w.0; above = w.1; label = g.2 }

-- ---- room is made
pub room_from : (list : List (List ℕ)) (labels : List ℕ) (cells : List ℕ → Option CellState) → ((s : List ℕ) → In s list → IsTrue (is_within s labels))
    → ((s : List ℕ) → In s list → (t : List ℕ) → IsTrue (is_simplex t) → IsTrue (is_within t s) → IsSomeAnd (cells t) (HasRoom labels t)) → IsRoomOf list cells
room_from list labels cells all ready t h f =
    let s = face_at list t f in
    some_less labels (verts (facets_with list t)) t (cells t) (λ y i. let g = vert_at list t y i in within_in g.simplex labels y (all g.simplex g.among) g.label) (ready s.0 s.1 t h s.2)

-- ---- what a facet needs that has room
module _ (room : List (List ℕ)) (v : SlabState) (f : List ℕ) (h : IsRoomOf room (cell_at v)) (i : In f room) (s : IsTrue (is_simplex f)) where
  ready_at : (k : ℕ) → IsSomeAnd (cell_at v (subset_at f k)) (HasRoom (verts (facets_with room (subset_at f k))) (subset_at f k))
  ready_at k = h (subset_at f k) (simplex-subset_at f k s) (face_from room (subset_at f k) f i (subset_within f k))

  pub ids_there : (k : ℕ) → k < 2 ^ length f → IsSome (id_of v (subset_at f k))
  ids_there k l = id_from v (subset_at f k) (is_some_and _ _ (ready_at k))

  pub ready_for : IsReady v f f
  ready_for k l = if_some (HasRoom f (subset_at f k)) _ (some_less (verts (facets_with room (subset_at f k))) f (subset_at f k) (cell_at v (subset_at f k)) (λ y j. vert_in room (subset_at f k) f y i (subset_within f k) j) (ready_at k))

-- ---- room that is left for the others
module _ (room : List (List ℕ)) (f : List ℕ) (old new : List ℕ → Option CellState) (h : IsRoomOf room old) (i : In f room) (k : (t : List ℕ) → new t ≡ after_more f t (old t)) where
  fewer : (t : List ℕ) (y : ℕ) → In y (verts (facets_with (all_but f room) t)) → In y (verts (facets_with room t))
  fewer t y j = let g = vert_at (all_but f room) t y j in vert_in room t g.simplex y (from_rest f g.simplex room g.among) g.above g.label

  pub room_rest : IsRoomOf (all_but f room) new
  room_rest t st ft =
      let g = face_at (all_but f room) t ft in
      let was = h t st (face_from room t g.0 (from_rest f g.0 room g.1) g.2) in
      subst (λ o. IsSomeAnd o (HasRoom (verts (facets_with (all_but f room) t)) t)) (sym (k t)) (by (is_simplex t && is_within t f) refl (old t) was)
    where
      more : (t : List ℕ) (x : CellState) → is_within t f ≡ true → HasRoom (verts (facets_with room t)) t x → HasRoom (verts (facets_with (all_but f room) t)) t (put_more f t (Some x))
      more t x w r =
          let big = union x.up (minus f t) in
          let l = within_length (union big (minus (verts (facets_with (all_but f room) t)) t)) (union x.up (minus (verts (facets_with room t)) t)) (is_increasing-union big (minus (verts (facets_with (all_but f room) t)) t)) (is_increasing-union x.up (minus (verts (facets_with room t)) t))
          (in_within _ _ (λ y j. elim (from_union big (minus (verts (facets_with (all_but f room) t)) t) y j) [
            | inl a ↦ elim (from_union x.up (minus f t) y a) [
              | inl b ↦ in_union x.up (minus (verts (facets_with room t)) t) y (inl b)
              | inr b ↦ let q = from_filter (λ a. not (has t a)) y f b in in_union x.up (minus (verts (facets_with room t)) t) y (inr (in_filter (λ a. not (has t a)) y (verts (facets_with room t)) (vert_in room t f y i w q.0) q.1))
            ]
            | inr a ↦ let q = from_filter (λ a. not (has t a)) y (verts (facets_with (all_but f room) t)) a in in_union x.up (minus (verts (facets_with room t)) t) y (inr (in_filter (λ a. not (has t a)) y (verts (facets_with room t)) (fewer t y q.0) q.1))
          ])) in
          omega (arith, l, r)

      by : (b : Bool) → (is_simplex t && is_within t f) ≡ b → (o : Option CellState) → IsSomeAnd o (HasRoom (verts (facets_with room t)) t) → IsSomeAnd (cond b (Some (put_more f t o)) o) (HasRoom (verts (facets_with (all_but f room) t)) t)
      by b e None r = absurd r
      by true e (Some x) r = more t x (and_right (is_simplex t) _ e) r
      by false e (Some x) r = room_less (verts (facets_with room t)) (verts (facets_with (all_but f room) t)) t x (λ y j. fewer t y j) r

-- no simplices need no room
pub no_room : (cells : List ℕ → Option CellState) → IsRoomOf [] cells
no_room cells t h f = absurd (true≢false (sym f))

-- a label of one of the simplices
pub verts_above : (list : List (List ℕ)) (labels : List ℕ) → labels ≡ verts list → (s : List ℕ) → In s list → IsTrue (is_within s labels)
verts_above list labels e s i = subst (λ l. is_within s l ≡ true) (sym e) (in_within s (verts list) (λ y j. in_order_in nat_cmp_total nat_cmp-IsAntisymmetric y _ (in_flat_map (λ u. u) s y list i j)))

-- room at the faces by their numbers is room at the faces
pub ready_parts : (v w : SlabState) (s : List ℕ) (gap : ℕ) (ids labels : List ℕ) → IsTrue (is_simplex s) → AreNoted v s gap ids → KeepsIds v w → IsReady w s labels
    → (t : List ℕ) → IsTrue (is_simplex t) → IsTrue (is_within t s) → IsSomeAnd (cell_at w t) (HasRoom labels t)
ready_parts v w s gap ids labels ss n k r t st tw =
    let q = number_of s t (rising_of s ss) (rising_of t st) tw in
    let here : IsSomeAnd (cell_at w (subset_at s q.0)) (HasRoom labels (subset_at s q.0)) = some_where (HasRoom labels (subset_at s q.0)) (cell_at w (subset_at s q.0)) (cell_there w s gap ids (still_all_noted v w s gap ids k n) q.0 q.1) (r q.0 q.1) in
    subst (λ u. IsSomeAnd (cell_at w u) (HasRoom labels u)) q.2 here
  where
    some_where : {X : Type 0} (P : X → Type 0) (o : Option X) → IsSome o → IfSome o P → IsSomeAnd o P
    some_where P None h p = absurd (true≢false (sym h))
    some_where P (Some x) h p = p

-- room lasts while ids are made and room is
pub some_stays : (u v w : SlabState) (t f : List ℕ) → Stays u v → ((t : List ℕ) → kept w t ≡ kept v t) → ((t f s : List ℕ) → IfSome (cell_at v t) (HasRoom f s) → IfSome (cell_at w t) (HasRoom f s))
    → IsSomeAnd (cell_at u t) (HasRoom f t) → IsSomeAnd (cell_at w t) (HasRoom f t)
some_stays u v w t f st k r h =
    let there = id_from u t (is_some_and (HasRoom f t) (cell_at u t) h) in
    let here : IsSomeAnd (cell_at v t) (HasRoom f t) = subst (λ o. IsSomeAnd o (HasRoom f t)) (sym (st t there).1) h in
    by (cell_at w t) (cell_at v t) here (k t) (r t f t (if_some (HasRoom f t) (cell_at v t) here))
  where
    by : (o p : Option CellState) → IsSomeAnd p (HasRoom f t) → option_map shown o ≡ option_map shown p → IfSome o (HasRoom f t) → IsSomeAnd o (HasRoom f t)
    by None None a e b = a
    by None (Some x) a e b = absurd (none_is (shown x) e)
    by (Some y) p a e b = b
