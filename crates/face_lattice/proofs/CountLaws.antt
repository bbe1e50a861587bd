-- How many faces there are with one facet more.
use Rattle.std.proofs.Common.{◌≡◌, ℕ, zero, suc, ◌≤◌, ◌<◌, ◌+◌, ◌^◌, Bool, true, false, not, cond, if◌then◌else◌, ◌&&◌, List, length, get_or, set, ltb, Option, Some, None, IsSome, refl, sym, ap, ◌∙◌, subst, inl, inr, ◌⊎◌, arith}
use mathlib.Core.Bool.{true≢false}
use Rattle.std.specs.Prelude.{◌==◌}
use Rattle.std.specs.List.{filter, flat_map, list_all}
use Rattle.std.proofs.Math.Numerals.{add-one}
use Rattle.std.proofs.lemmas.Bool.Decides.{nat_tests}
use Rattle.std.proofs.lemmas.Cmp.{nat_list_cmp_total}
use Rattle.std.proofs.lemmas.List.{get_or-set_same, get_or-set_other}
use Rattle.simplex.specs.InOrder.{is_increasing, put}
use Rattle.simplex.specs.Simplex.{is_simplex, is_within, simplex_cmp, subset_at, subsets}
use Rattle.simplex.proofs.Decided.{equal_at, equal_from}
use Rattle.simplex.proofs.Filled.{rising_of, simplex-subset_at}
use Rattle.simplex.proofs.InOrderLaws.{is_increasing-in_order}
use Rattle.simplex.proofs.Members.{In, same_sets}
use Rattle.simplex.proofs.SubsetLaws.{number_of, one_number, subset_within}
use Rattle.facet_set.specs.Complex.{faces, is_face}
use Rattle.facet_set.specs.Numbers.{face_count}
use Rattle.facet_set.proofs.ComplexLaws.{exact, face_at, face_from, from_faces, in_faces, sets_of}
use Rattle.face_lattice.specs.Counts.{blank_count, passing}
use Rattle.face_lattice.specs.Slots.{AreCellsOf}
use Rattle.face_lattice.specs.States.{CellState, has_degree}
use Rattle.face_lattice.proofs.ChangeLaws.{filter_put, from_put, put_has, put_keeps, put_rises, simplices_put}
use Rattle.face_lattice.proofs.ReadLaws.{degree_or, read_of, some_degree}

-- ---- numbers that pass a test
pub passing_next : (p : ℕ → Bool) (n : ℕ) → passing p (n + 1) ≡ passing p n + (if p n then 1 else 0)
passing_next p n = ap (passing p) (add-one n)

pub passing_most : (p : ℕ → Bool) (n : ℕ) → passing p n ≤ n
passing_most p zero = omega arith
passing_most p (suc n) = by (p n) (passing_most p n)
  where
    by : (b : Bool) → passing p n ≤ n → passing p n + cond b 1 0 ≤ suc n
    by true h = omega (arith, h)
    by false h = omega (arith, h)

pub passing_rises : (p : ℕ → Bool) (m n : ℕ) → m ≤ n → passing p m ≤ passing p n
passing_rises p m zero h = let e : m ≡ 0 = omega (arith, h) in subst (λ k. passing p k ≤ 0) (sym e) (omega arith)
passing_rises p m (suc n) h =
    elim (ltb n m) as (λ v. ltb n m ≡ v → passing p m ≤ passing p (suc n)) [
      | true ↦ λ e. let q : m ≡ suc n = let l : n < m = grind (arith, nat_tests) in omega (arith, l, h) in subst (λ k. passing p m ≤ passing p k) q (omega arith)
      | false ↦ λ e. let l : m ≤ n = grind (arith, nat_tests) in let r = passing_rises p m n l in omega (arith, r)
    ] refl

and_is : (a b : Bool) → b ≡ true → (a && b) ≡ a
and_is true b e = e
and_is false b e = refl

and_not : (a b : Bool) → b ≡ false → (a && b) ≡ false
and_not true b e = e
and_not false b e = refl

-- ---- one count more or less
module _ (f : List ℕ) (cells : List ℕ → Option CellState) (counts first : List ℕ) (size m i v : ℕ) where
  count_is : (b : Bool) → has_degree 0 (cells (subset_at f m)) ≡ b → blank_count f cells size (m + 1) ≡ blank_count f cells size m + cond (length (subset_at f m) == size && b) 1 0
  count_is b e = passing_next (λ k. length (subset_at f k) == size && has_degree 0 (cells (subset_at f k))) m ∙ ap (λ w. blank_count f cells size m + cond (length (subset_at f m) == size && w) 1 0) e

  none_at : (b : Bool) → let n : ℕ = cond (b && false) 1 0 in n ≡ 0
  none_at true = refl
  none_at false = refl

  set_is : i ≡ length (subset_at f m) → i < length counts → (b : Bool) → (length (subset_at f m) == size) ≡ b → get_or (set counts i v) size 0 ≡ cond b v (get_or counts size 0)
  set_is e l true q = let n : size ≡ i = sym (equal_at _ _ q) ∙ sym e in ap (λ k. get_or (set counts i v) k 0) n ∙ get_or-set_same counts i v 0 l
  set_is e l false q = get_or-set_other counts i size v 0 (λ n. true≢false (sym (equal_from _ _ (sym e ∙ sym n)) ∙ q))

  pub raised : i ≡ length (subset_at f m) → i < length counts → has_degree 0 (cells (subset_at f m)) ≡ true → v ≡ get_or counts i 0 + 1
      → ((n : ℕ) → get_or counts n 0 ≡ get_or first n 0 + blank_count f cells n m) → get_or (set counts i v) size 0 ≡ get_or first size 0 + blank_count f cells size (m + 1)
  raised e l z w h = set_is e l (length (subset_at f m) == size) refl ∙ by (length (subset_at f m) == size) refl ∙ ap (λ k. get_or first size 0 + k) (sym (count_is true z ∙ ap (λ b. blank_count f cells size m + cond b 1 0) (and_is (length (subset_at f m) == size) true refl)))
    where
      by : (b : Bool) → (length (subset_at f m) == size) ≡ b → cond b v (get_or counts size 0) ≡ get_or first size 0 + (blank_count f cells size m + cond b 1 0)
      by true q = let n : i ≡ size = e ∙ equal_at _ _ q in let g = h size in let k : get_or counts i 0 ≡ get_or counts size 0 = ap (λ j. get_or counts j 0) n in omega (arith, w, g, k)
      by false q = let g = h size in omega (arith, g)

  pub lowered : i ≡ length (subset_at f m) → i < length counts → has_degree 0 (cells (subset_at f m)) ≡ true → v + 1 ≡ get_or counts i 0
      → ((n : ℕ) → get_or counts n 0 + blank_count f cells n m ≡ get_or first n 0) → get_or (set counts i v) size 0 + blank_count f cells size (m + 1) ≡ get_or first size 0
  lowered e l z w h = (λ j. set_is e l (length (subset_at f m) == size) refl j + (count_is true z ∙ ap (λ b. blank_count f cells size m + cond b 1 0) (and_is (length (subset_at f m) == size) true refl)) j) ∙ by (length (subset_at f m) == size) refl
    where
      by : (b : Bool) → (length (subset_at f m) == size) ≡ b → cond b v (get_or counts size 0) + (blank_count f cells size m + cond b 1 0) ≡ get_or first size 0
      by true q = let n : i ≡ size = e ∙ equal_at _ _ q in let g = h size in let k : get_or counts i 0 ≡ get_or counts size 0 = ap (λ j. get_or counts j 0) n in omega (arith, w, g, k)
      by false q = let g = h size in omega (arith, g)

  pub unchanged : has_degree 0 (cells (subset_at f m)) ≡ false → blank_count f cells size (m + 1) ≡ blank_count f cells size m
  unchanged z = count_is false z ∙ ap (λ k. blank_count f cells size m + k) (none_at (length (subset_at f m) == size)) ∙ (let e : blank_count f cells size m + 0 ≡ blank_count f cells size m = omega arith in e)

-- a count that is still to fall
pub one_left : (f : List ℕ) (cells : List ℕ → Option CellState) (counts first : List ℕ) (m i : ℕ) → i ≡ length (subset_at f m) → has_degree 0 (cells (subset_at f m)) ≡ true → m < 2 ^ length f
    → get_or counts i 0 + blank_count f cells i m ≡ get_or first i 0 → blank_count f cells i (2 ^ length f) ≤ get_or first i 0 → 1 ≤ get_or counts i 0
one_left f cells counts first m i e z l h b =
    let up : blank_count f cells i (m + 1) ≤ blank_count f cells i (2 ^ length f) = passing_rises (λ k. length (subset_at f k) == i && has_degree 0 (cells (subset_at f k))) (m + 1) (2 ^ length f) (omega (arith, l)) in
    let one : blank_count f cells i (m + 1) ≡ blank_count f cells i m + 1 =
    count_is f cells counts first i m 0 0 true z ∙ ap (λ v. blank_count f cells i m + cond v 1 0) (and_is (length (subset_at f m) == i) true refl ∙ equal_from (length (subset_at f m)) i (sym e)) in
    omega (arith, up, one, h, b)

-- ---- the faces with those of one facet more
abbrev grown : List (List ℕ) → List ℕ → ℕ → List (List ℕ)
grown fs f zero = fs
grown fs f (suc m) = put simplex_cmp (subset_at f m) (grown fs f m)

grown_rises : (fs : List (List ℕ)) (f : List ℕ) (m : ℕ) → is_increasing simplex_cmp fs ≡ true → is_increasing simplex_cmp (grown fs f m) ≡ true
grown_rises fs f zero up = up
grown_rises fs f (suc m) up = put_rises (grown fs f m) (subset_at f m) (grown_rises fs f m up)

record IsGrown (fs : List (List ℕ)) (f s : List ℕ) (m : ℕ) : Type 0 where
  number : ℕ
  below : number < m
  is : s ≡ subset_at f number

from_grown : (fs : List (List ℕ)) (f s : List ℕ) (m : ℕ) → is_increasing simplex_cmp fs ≡ true → In s (grown fs f m) → In s fs ⊎ IsGrown fs f s m
from_grown fs f s zero up i = inl i
from_grown fs f s (suc m) up i = elim (from_put (grown fs f m) (subset_at f m) (grown_rises fs f m up) s i) [
  | inl e ↦ inr (record { number = m; below = omega arith; is = e })
  | inr j ↦ elim (from_grown fs f s m up j) [ inl k ↦ inl k | inr g ↦ inr (record { number = g.number; below = omega (arith, g.below); is = g.is }) ]
]

grown_old : (fs : List (List ℕ)) (f s : List ℕ) (m : ℕ) → is_increasing simplex_cmp fs ≡ true → In s fs → In s (grown fs f m)
grown_old fs f s zero up i = i
grown_old fs f s (suc m) up i = put_keeps (grown fs f m) (subset_at f m) (grown_rises fs f m up) s (grown_old fs f s m up i)

grown_new : (fs : List (List ℕ)) (f : List ℕ) (m k : ℕ) → is_increasing simplex_cmp fs ≡ true → k < m → In (subset_at f k) (grown fs f m)
grown_new fs f zero k up l = absurd (omega (arith, l))
grown_new fs f (suc m) k up l =
    elim (ltb k m) as (λ v. ltb k m ≡ v → In (subset_at f k) (grown fs f (suc m))) [
      | true ↦ λ e. let b : k < m = grind (arith, nat_tests) in put_keeps (grown fs f m) (subset_at f m) (grown_rises fs f m up) (subset_at f k) (grown_new fs f m k up b)
      | false ↦ λ e. let q : k ≡ m = let b : m ≤ k = grind (arith, nat_tests) in omega (arith, l, b) in subst (λ j. In (subset_at f j) (grown fs f (suc m))) (sym q) (put_has (grown fs f m) (subset_at f m) (grown_rises fs f m up))
    ] refl

-- what is there already changes nothing
put_same : (c : List (List ℕ)) (s : List ℕ) → is_increasing simplex_cmp c ≡ true → In s c → put simplex_cmp s c ≡ c
put_same c s up i = same_sets nat_list_cmp_total exact (put simplex_cmp s c) c (put_rises c s up) up
    (λ t j. elim (from_put c s up t j) [ inl e ↦ subst (λ u. In u c) (sym e) i | inr k ↦ k ])
    (λ t j. put_keeps c s up t j)

module _ (c : List (List ℕ)) (f : List ℕ) (cells : List ℕ → Option CellState) (simplices : list_all is_simplex c ≡ true) (s : is_simplex f ≡ true) (are : AreCellsOf c cells) where
  -- a blank cell is that of no face
  blank_at : (t : List ℕ) → is_simplex t ≡ true → IsSome (cells t) → has_degree 0 (cells t) ≡ not (is_face c t)
  blank_at t h there = by (cells t) there (some_degree c t (degree_or (cells t)) (read_of c cells t are h).degree_is)
    where
      by : (o : Option CellState) → IsSome o → ltb 0 (degree_or o) ≡ is_face c t → has_degree 0 o ≡ not (is_face c t)
      by None h e = absurd (true≢false (sym h))
      by (Some x) h e = (let z : (x.degree == 0) ≡ not (ltb 0 x.degree) = zero_or x.degree in z) ∙ ap not e
        where
          zero_or : (n : ℕ) → (n == 0) ≡ not (ltb 0 n)
          zero_or zero = refl
          zero_or (suc n) = grind (arith, nat_tests)

  all_up : is_increasing simplex_cmp (faces c) ≡ true
  all_up = is_increasing-in_order nat_list_cmp_total (flat_map subsets c)

  grown_count : (there : (k : ℕ) → k < 2 ^ length f → IsSome (cells (subset_at f k))) (n m : ℕ) → m ≤ 2 ^ length f
      → length (filter (λ t. length t == n) (grown (faces c) f m)) ≡ face_count c n + blank_count f cells n m
  grown_count there n zero l = omega arith
  grown_count there n (suc m) l = by (is_face c (subset_at f m)) refl (grown_count there n m (omega (arith, l)))
    where
      st : is_simplex (subset_at f m) ≡ true
      st = simplex-subset_at f m s

      blank : has_degree 0 (cells (subset_at f m)) ≡ not (is_face c (subset_at f m))
      blank = blank_at (subset_at f m) st (there m (omega (arith, l)))

      by : (b : Bool) → is_face c (subset_at f m) ≡ b → length (filter (λ t. length t == n) (grown (faces c) f m)) ≡ face_count c n + blank_count f cells n m
          → length (filter (λ t. length t == n) (put simplex_cmp (subset_at f m) (grown (faces c) f m))) ≡ face_count c n + (blank_count f cells n m + cond (length (subset_at f m) == n && has_degree 0 (cells (subset_at f m))) 1 0)
      by true e h =
          ap (λ x. length (filter (λ t. length t == n) x)) (put_same (grown (faces c) f m) (subset_at f m) (grown_rises (faces c) f m all_up)
          (grown_old (faces c) f (subset_at f m) m all_up (in_faces c (subset_at f m) (sets_of c simplices) (rising_of (subset_at f m) st) e)))
          ∙ h ∙ ap (λ k. face_count c n + k) (let z : blank_count f cells n m ≡ blank_count f cells n m + 0 = omega arith in z ∙ ap (λ v. blank_count f cells n m + cond v 1 0) (sym (and_not (length (subset_at f m) == n) _ (blank ∙ ap not e))))
      by false e h =
          filter_put (λ t. length t == n) (subset_at f m) (grown (faces c) f m) (λ i. elim (from_grown (faces c) f (subset_at f m) m all_up i) [
            | inl j ↦ true≢false (sym (from_faces c (subset_at f m) (sets_of c simplices) j).1 ∙ e)
            | inr g ↦ let q = one_number f g.number m (rising_of f s) (omega (arith, g.below, l)) (omega (arith, l)) (sym g.is) in absurd (omega (arith, q, g.below))
          ])
          ∙ (let a : length (filter (λ t. length t == n) (grown (faces c) f m)) + cond (length (subset_at f m) == n) 1 0 ≡ face_count c n + (blank_count f cells n m + cond (length (subset_at f m) == n) 1 0) = omega (arith, h) in a)
          ∙ ap (λ v. face_count c n + (blank_count f cells n m + cond v 1 0)) (sym (and_is (length (subset_at f m) == n) _ (blank ∙ ap not e)))

  module _ (up : is_increasing simplex_cmp c ≡ true) where
    simplices_more : list_all is_simplex (put simplex_cmp f c) ≡ true
    simplices_more = simplices_put c f up s simplices

    all_faces : grown (faces c) f (2 ^ length f) ≡ faces (put simplex_cmp f c)
    all_faces = same_sets nat_list_cmp_total exact (grown (faces c) f (2 ^ length f)) (faces (put simplex_cmp f c)) (grown_rises (faces c) f (2 ^ length f) all_up) (is_increasing-in_order nat_list_cmp_total (flat_map subsets (put simplex_cmp f c)))
        (λ t i. elim (from_grown (faces c) f t (2 ^ length f) all_up i) [
          | inl j ↦ let r = from_faces c t (sets_of c simplices) j in let g = face_at c t r.1 in in_faces (put simplex_cmp f c) t (sets_of (put simplex_cmp f c) simplices_more) r.0 (face_from (put simplex_cmp f c) t g.0 (put_keeps c f up g.0 g.1) g.2)
          | inr g ↦ subst (λ u. In u (faces (put simplex_cmp f c))) (sym g.is) (in_faces (put simplex_cmp f c) (subset_at f g.number) (sets_of (put simplex_cmp f c) simplices_more) (rising_of (subset_at f g.number) (simplex-subset_at f g.number s)) (face_from (put simplex_cmp f c) (subset_at f g.number) f (put_has c f up) (subset_within f g.number)))
        ])
        (λ t i.
        let r = from_faces (put simplex_cmp f c) t (sets_of (put simplex_cmp f c) simplices_more) i in
        let g = face_at (put simplex_cmp f c) t r.1 in
        elim (from_put c f up g.0 g.1) [
          | inl e ↦ let q = number_of f t (rising_of f s) r.0 (subst (λ u. is_within t u ≡ true) e g.2) in subst (λ u. In u (grown (faces c) f (2 ^ length f))) q.2 (grown_new (faces c) f (2 ^ length f) q.0 all_up q.1)
          | inr j ↦ grown_old (faces c) f t (2 ^ length f) all_up (in_faces c t (sets_of c simplices) r.0 (face_from c t g.0 j g.2))
        ])

    -- the faces that come are those that had a blank cell
    pub count_more : ((k : ℕ) → k < 2 ^ length f → IsSome (cells (subset_at f k))) → (n : ℕ) → face_count (put simplex_cmp f c) n ≡ face_count c n + blank_count f cells n (2 ^ length f)
    count_more there n = sym (ap (λ x. length (filter (λ t. length t == n) x)) all_faces) ∙ grown_count there n (2 ^ length f) (omega arith)
