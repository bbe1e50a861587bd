-- Joins: their facets are maximal, and how many and how large they are.
use Rattle.std.proofs.Common.{◌≡◌, ℕ, zero, suc, ◌+◌, ◌*◌, ◌^◌, ◌≤◌, ◌<◌, Bool, true, false, ◌||◌, cond, Option, Some, None, List, [], ◌∷◌, ◌++◌, map, length, length-append, max, min, refl, sym, ap, ◌∙◌, subst, ◌⊎◌, inl, inr, arith}
use Rattle.std.specs.Prelude.{◌==◌, nat_le}
use Rattle.std.specs.Ordering.{is_lt}
use Rattle.std.specs.List.{list_all, flat_map, fold, range_with_len}
use Rattle.std.proofs.lemmas.Bool.{leb-true, le-leb}
use Rattle.std.proofs.lemmas.Bool.Decides.{nat_tests}
use Rattle.std.proofs.lemmas.Cmp.{nat_list_cmp_total}
use Rattle.simplex.specs.FirstFailing.{first_failing}
use Rattle.simplex.specs.InOrder.{is_increasing}
use Rattle.simplex.specs.Simplex.{is_simplex, is_within, is_same, simplex_cmp, union, label_limit}
use Rattle.simplex.proofs.InOrderLaws.{and_left, and_right}
use Rattle.simplex.proofs.Members.{In, first, later, cases, none, all_at, all_from, in_map, from_map, in_flat_map, from_flat_map, in_either}
use Rattle.simplex.proofs.SimplexLaws.{within_in, in_within, in_union, from_union, disjoint_from, within_itself}
use Rattle.simplex.proofs.Ranges.{from_range, range_rising}
use Rattle.simplex.proofs.Decided.{false_from, false_at, not_true}
use Rattle.facet_set.specs.ClassLaws.{IsOnce}
use Rattle.facet_set.specs.Complex.{simplices, generated, is_complex, is_proper_face, verts}
use Rattle.facet_set.specs.Maps.{image, image_of, is_distinct, relabelled}
use Rattle.facet_set.specs.Numbers.{size, weight, greatest}
use Rattle.facet_set.proofs.ComplexLaws.{exact, is_set, same_itself, maximal_from, in_simplices, from_simplices, is_complex-generated, sets_of}
use Rattle.facet_set.proofs.FlipLaws.{length-union}
use Rattle.facet_set.proofs.OptionLaws.{in_verts}
use Rattle.facet_set.proofs.VertexLaws.{fold_append}
use Rattle.facet_set.proofs.MapLaws.{seconds, Renames, image_pair, from_relabelled, length_relabelled, within_back, facet_same, all_maximal, image_is, in_image, from_image}
use Rattle.facet_set.proofs.SetLaws.{length_images, set_up, increasing_distinct}
use Rattle.facet_set.proofs.Counting.{count-put}
use Rattle.facet_set.proofs.FacetLaws.{not_below_itself}
use Rattle.constructions.specs.Joins.{moved, join, fit_tests, join_tests}
use Rattle.constructions.specs.declared.make_fault.MakeFault.TheVariants.{DimLimit, LabelRange, Size}
use Rattle.constructions.specs.Relabelling.{renumbering}
use Rattle.constructions.proofs.NumberLaws.{firsts_renumbering, seconds_renumbering}

-- ---- the greatest label
above : (a : ℕ) (xs : List ℕ) → In a xs → a ≤ fold max 0 xs
above a [] i = absurd (none a i)
above a (x ∷ xs) i =
    let whole : fold max 0 (x ∷ xs) ≡ max (fold max 0 (x ∷ [])) (fold max 0 xs) = fold_append (x ∷ []) xs in
    elim (cases i) [ inl e ↦ omega (arith, whole, e) | inr j ↦ (let below = above a xs j in omega (arith, whole, below)) ]

pub above_greatest : (c : List (List ℕ)) (s : List ℕ) (a : ℕ) → In s c → In a s → a ≤ greatest c
above_greatest c s a i j = above a (verts c) (in_verts c s a i j)

-- ---- numbers of members
pub size_above : (c : List (List ℕ)) (s : List ℕ) → In s c → length s ≤ size c
size_above [] s i = absurd (none s i)
size_above (t ∷ c) s i = elim (cases i) [ inl e ↦ (let same = ap length e in omega (arith, same)) | inr j ↦ (let below = size_above c s j in omega (arith, below)) ]

pub size_below : (c : List (List ℕ)) (n : ℕ) → ((s : List ℕ) → In s c → length s ≤ n) → size c ≤ n
size_below [] n f = omega arith
size_below (t ∷ c) n f = let here = f t first in let rest = size_below c n (λ s i. f s (later i)) in omega arith

-- a facet of the greatest length
largest : (c : List (List ℕ)) (s : List ℕ) → In s c → (t : List ℕ) × In t c × (size c ≤ length t)
largest [] s i = absurd (none s i)
largest (t ∷ []) s i = (t, first, omega arith)
largest (t ∷ u ∷ c) s i =
    let r = largest (u ∷ c) u first in
    elim (longer (length t) (size (u ∷ c))) [ inl h ↦ (t, first, omega (arith, h)) | inr h ↦ (r.0, later r.1, omega (arith, h, r.2)) ]
  where
    longer : (m n : ℕ) → (n ≤ m) ⊎ (m ≤ n)
    longer zero n = inr (omega arith)
    longer (suc m) zero = inl (omega arith)
    longer (suc m) (suc n) = elim (longer m n) [ inl h ↦ inl (omega arith) | inr h ↦ inr (omega arith) ]

pub count_simplices : (l : List (List ℕ)) → IsOnce (List ℕ) l → length (simplices l) ≡ length l
count_simplices [] h = refl
count_simplices (s ∷ l) h = count-put nat_list_cmp_total exact s (simplices l) (λ i. h.0 (from_simplices s l i)) ∙ ap suc (count_simplices l h.1)

-- ---- lists with no member twice
pub once_increasing : (c : List (List ℕ)) → is_increasing simplex_cmp c ≡ true → IsOnce (List ℕ) c
once_increasing [] h = tt
once_increasing (s ∷ c) h = (λ i. not_below_itself s (all_at (λ t. is_lt (simplex_cmp s t)) s c (and_left _ _ h) i), once_increasing c (and_right (list_all (λ t. is_lt (simplex_cmp s t)) c) _ h))

once_map : (f : List ℕ → List ℕ) (c : List (List ℕ)) → ((s t : List ℕ) → In s c → In t c → f s ≡ f t → s ≡ t) → IsOnce (List ℕ) c → IsOnce (List ℕ) (map f c)
once_map f [] g h = tt
once_map f (s ∷ c) g h = (
  λ i. let r = from_map f (f s) c i in h.0 (subst (λ t. In t c) (sym (g s r.0 first (later r.1) r.2)) r.1),
  once_map f c (λ s t i j. g s t (later i) (later j)) h.1,
)

once_append : (xs ys : List (List ℕ)) → IsOnce (List ℕ) xs → IsOnce (List ℕ) ys → ((s : List ℕ) → In s xs → In s ys → ⊥) → IsOnce (List ℕ) (xs ++ ys)
once_append [] ys h k f = k
once_append (x ∷ xs) ys h k f = (λ i. elim (in_either x xs ys i) [ inl j ↦ h.0 j | inr j ↦ f x first j ], once_append xs ys h.1 k (λ s i j. f s (later i) j))

-- ---- unions of a member of each list
abbrev pub unions : List (List ℕ) → List (List ℕ) → List (List ℕ)
unions xs ys = flat_map (λ s. map (union s) ys) xs

pub length_unions : (xs ys : List (List ℕ)) → length (unions xs ys) ≡ length xs * length ys
length_unions [] ys = omega arith
length_unions (s ∷ xs) ys = length-append (map (union s) ys) (unions xs ys) ∙ sum (length (map (union s) ys)) (length ys) (length (unions xs ys)) (length xs) (length_images (union s) ys) (length_unions xs ys)
  where
    sum : (a n b k : ℕ) → a ≡ n → b ≡ k * n → a + b ≡ suc k * n
    sum a n b k e f = grind (arith, e, f)

pub from_unions : (xs ys : List (List ℕ)) (u : List ℕ) → In u (unions xs ys) → (s : List ℕ) × (t : List ℕ) × In s xs × In t ys × (u ≡ union s t)
from_unions xs ys u i =
    let r = from_flat_map (λ s. map (union s) ys) u xs i in
    let q = from_map (union r.0) u ys r.2 in
    (r.0, q.0, r.1, q.1, q.2)

pub in_unions : (xs ys : List (List ℕ)) (s t : List ℕ) → In s xs → In t ys → In (union s t) (unions xs ys)
in_unions xs ys s t i j = in_flat_map (λ s. map (union s) ys) s (union s t) xs i (in_map (union s) t ys j)

-- two complexes, the labels of the first up to g and those of the second above it
pub record IsSplit (g : ℕ) (x m : List (List ℕ)) : Type 0 where
  pub sets_below : list_all is_set x ≡ true
  pub sets_above : list_all is_set m ≡ true
  pub complex_below : is_complex x ≡ true
  pub complex_above : is_complex m ≡ true
  pub low : (s : List ℕ) (a : ℕ) → In s x → In a s → a ≤ g
  pub high : (t : List ℕ) (a : ℕ) → In t m → In a t → g < a

module _ (g : ℕ) (x m : List (List ℕ)) (h : IsSplit g x m) where
  parts_within : (s t u v : List ℕ) → In s x → In t m → In u x → In v m → is_within (union s t) (union u v) ≡ true → (is_within s u ≡ true) × (is_within t v ≡ true)
  parts_within s t u v i j k l w = (
    in_within s u (λ a p. elim (from_union u v a (within_in (union s t) (union u v) a w (in_union s t a (inl p)))) [
      | inl q ↦ q
      | inr q ↦ let low = h.low s a i p in let high = h.high v a l q in absurd (omega arith)
    ]),
    in_within t v (λ a p. elim (from_union u v a (within_in (union s t) (union u v) a w (in_union s t a (inr p)))) [
      | inl q ↦ let high = h.high t a j p in let low = h.low u a k q in absurd (omega arith)
      | inr q ↦ q
    ]),
  )

  parts_same : (s t u v : List ℕ) → In s x → In t m → In u x → In v m → is_within (union s t) (union u v) ≡ true → (s ≡ u) × (t ≡ v)
  parts_same s t u v i j k l w =
      let r = parts_within s t u v i j k l w in
      (facet_same x s u h.complex_below i k r.0, facet_same m t v h.complex_above j l r.1)

  -- no union lies properly in another
  pub split_maximal : generated (unions x m) ≡ simplices (unions x m)
  split_maximal = all_maximal (unions x m) (λ u i. maximal_from (unions x m) u (λ v j. false_from (is_proper_face u v) (λ p.
      let a = from_unions x m u i in
      let b = from_unions x m v j in
      let w : is_within (union a.0 a.1) (union b.0 b.1) ≡ true = ap (λ y. is_within y (union b.0 b.1)) (sym a.4) ∙ ap (is_within u) (sym b.4) ∙ and_left _ _ p in
      let e = parts_same a.0 a.1 b.0 b.1 a.2 a.3 b.2 b.3 w in
      let f : u ≡ v = a.4 ∙ (λ k. union (e.0 k) (e.1 k)) ∙ sym b.4 in
      false_at (is_same u v) (not_true (is_same u v) (and_right (is_within u v) _ p)) (ap (is_same u) (sym f) ∙ same_itself u))))

  once_unions : (xs : List (List ℕ)) → ((s : List ℕ) → In s xs → In s x) → IsOnce (List ℕ) xs → IsOnce (List ℕ) (unions xs m)
  once_unions [] f o = tt
  once_unions (s ∷ xs) f o =
      once_append (map (union s) m) (unions xs m)
      (once_map (union s) m (λ t v i j e. (parts_same s t s v (f s first) i (f s first) j (ap (is_within (union s t)) (sym e) ∙ within_itself (union s t))).1) (once_increasing m (and_left _ _ h.complex_above)))
      (once_unions xs (λ t i. f t (later i)) o.1)
      (λ u i j. let a = from_map (union s) u m i in let b = from_unions xs m u j in
      let w : is_within (union s a.0) (union b.0 b.1) ≡ true = ap (is_within (union s a.0)) (sym b.4 ∙ a.2) ∙ within_itself (union s a.0) in
      let e = parts_same s a.0 b.0 b.1 (f s first) a.1 (f b.0 (later b.2)) b.3 w in
      o.0 (subst (λ y. In y xs) (sym e.0) b.2))

  pub count_unions : length (simplices (unions x m)) ≡ length x * length m
  count_unions = count_simplices (unions x m) (once_unions x (λ s i. i) (once_increasing x (and_left _ _ h.complex_below))) ∙ length_unions x m

  pub length_pair : (s t : List ℕ) → In s x → In t m → length (union s t) ≡ length s + length t
  length_pair s t i j =
      length-union s t (all_at is_set s x h.sets_below i) (all_at is_set t m h.sets_above j) (disjoint_from s t (λ a p q. let low = h.low s a i p in let high = h.high t a j q in absurd (omega arith)))

  pub size_unions : (s t : List ℕ) → In s x → In t m → size (simplices (unions x m)) ≡ size x + size m
  size_unions s t i j =
      let a = largest x s i in
      let b = largest m t j in
      let least = size_above (simplices (unions x m)) (union a.0 b.0) (in_simplices (union a.0 b.0) (unions x m) (in_unions x m a.0 b.0 a.1 b.1)) in
      let most = size_below (simplices (unions x m)) (size x + size m) (λ u k.
      let r = from_unions x m u (from_simplices u (unions x m) k) in
      let e = ap length r.4 in
      let f = length_pair r.0 r.1 r.2 r.3 in
      let c = size_above x r.0 r.2 in
      let d = size_above m r.1 r.3 in
      omega arith) in
      let whole = length_pair a.0 b.0 a.1 b.1 in
      omega arith

-- ---- the complex with the labels that follow
pub moves : (g : ℕ) (y : List (List ℕ)) → list_all is_set y ≡ true → Renames (renumbering g (verts y)) y
moves g y h = record {
  sets = h;
  known = λ s i a j. subst (λ l. In a l) (sym (firsts_renumbering g (verts y))) (in_verts y s a i j);
  apart = ap is_distinct (seconds_renumbering g (verts y)) ∙ increasing_distinct (range_with_len (g + 1) (length (verts y))) (range_rising (g + 1) (length (verts y)));
}

module _ (x y : List (List ℕ)) (sx : list_all is_simplex x ≡ true) (cx : is_complex x ≡ true) (sy : list_all is_simplex y ≡ true) (cy : is_complex y ≡ true) where
  abbrev names : List (ℕ × ℕ)
  names = renumbering (greatest x) (verts y)

  renames : Renames names y
  renames = moves (greatest x) y (sets_of y sy)

  moved_high : (t : List ℕ) (b : ℕ) → In t (moved x y) → In b t → greatest x < b
  moved_high t b i j =
      let r = from_image names y t renames cy i in
      let q = from_relabelled names r.0 b (subst (λ u. In b u) r.2 j) in
      let pair = image_pair names q.0 (renames.known r.0 r.1 q.0 q.1) in
      let there : In b (seconds names) = subst (λ c. In c (seconds names)) (sym q.2) (in_map (λ (p : ℕ × ℕ). p.1) (q.0, image_of names q.0) names pair) in
      let range = from_range (greatest x + 1) (length (verts y)) b (subst (λ l. In b l) (seconds_renumbering (greatest x) (verts y)) there) in
      omega (arith, range.0)

  pub split : IsSplit (greatest x) x (moved x y)
  split = record {
    sets_below = sets_of x sx;
    sets_above = all_from is_set (moved x y) (λ t i. let r = from_image names y t renames cy i in ap is_set r.2 ∙ set_up (map (image_of names) r.0));
    complex_below = cx;
    complex_above = is_complex-generated (map (relabelled names) y);
    low = λ s a i j. above_greatest x s a i j;
    high = λ t b i j. moved_high t b i j;
  }

  pub length_moved : length (moved x y) ≡ length y
  length_moved =
      ap length (image_is names y renames cy) ∙ count_simplices (map (relabelled names) y) (once_map (relabelled names) y (λ s t i j e.
      facet_same y s t cy i j (within_back names y s t renames i j (ap (is_within (relabelled names s)) (sym e) ∙ within_itself (relabelled names s)))) (once_increasing y (and_left _ _ cy)))
      ∙ length_images (relabelled names) y

  pub size_moved : (s : List ℕ) → In s y → size (moved x y) ≡ size y
  size_moved s i =
      let a = largest y s i in
      let least = size_above (moved x y) (relabelled names a.0) (in_image names y a.0 renames cy a.1) in
      let same = length_relabelled names y a.0 renames a.1 in
      let most = size_below (moved x y) (size y) (λ t j.
      let r = from_image names y t renames cy j in
      let e = ap length r.2 in
      let f = length_relabelled names y r.0 renames r.1 in
      let c = size_above y r.0 r.1 in
      omega arith) in
      omega arith

  pub generated_join : generated (unions x (moved x y)) ≡ join x y
  generated_join = split_maximal (greatest x) x (moved x y) split

  pub count_join : length (join x y) ≡ length x * length y
  count_join = count_unions (greatest x) x (moved x y) split ∙ ap (λ n. length x * n) length_moved

  -- a facet of the second complex, with its labels before
  pub from_moved : (t : List ℕ) → In t (moved x y) → (s : List ℕ) × In s y × (length t ≡ length s)
  from_moved t i = let r = from_image names y t renames cy i in (r.0, r.1, ap length r.2 ∙ length_relabelled names y r.0 renames r.1)

  pub pair_fits : (s t : List ℕ) → In s x → In t (moved x y) → length (union s t) ≤ size x + size y
  pair_fits s t i j =
      let r = from_moved t j in
      let e = length_pair (greatest x) x (moved x y) split s t i j in
      let a = size_above x s i in
      let b = size_above y r.0 r.1 in
      omega (arith, r.2)

  pub size_join : (s t : List ℕ) → In s x → In t y → size (join x y) ≡ size x + size y
  size_join s t i j =
      size_unions (greatest x) x (moved x y) split s (relabelled names t) i (in_image names y t renames cy j) ∙ ap (λ n. size x + n) (size_moved t j)

pub moved_from : (x y ys m : List (List ℕ)) (g : ℕ) (vs : List ℕ) (pairs : List (ℕ × ℕ)) → g ≡ greatest x → vs ≡ verts y → pairs ≡ renumbering g vs → ys ≡ y → m ≡ image pairs ys → m ≡ moved x y
moved_from x y ys m g vs pairs e f h k q = q ∙ (λ i. image ((h ∙ (λ j. renumbering (e j) (f j))) i) (k i))

-- ---- what the conditions say
pub passed : {F : Type 0} (v : Bool) (f : F) (r : Option F) → cond v r (Some f) ≡ None → (v ≡ true) × (r ≡ None)
passed true f r h = (refl, h)
passed false f r h = cc

at_most : (m n : ℕ) → nat_le m n ≡ true → m ≤ n
at_most m n e = leb-true m n e

pub fit_labels : (x y : List (List ℕ)) → first_failing (fit_tests x y) ≡ None → greatest x + length (verts y) ≤ label_limit
fit_labels x y h = at_most (greatest x + length (verts y)) label_limit (passed _ LabelRange None (passed _ DimLimit _ h).1).0

pub fit_size : (x y : List (List ℕ)) (s t : List ℕ) → In s x → In t y → first_failing (fit_tests x y) ≡ None → size x + size y ≤ 12
fit_size [] y s t i j h = absurd (none s i)
fit_size (u ∷ x) [] s t i j h = absurd (none t j)
fit_size (u ∷ x) (v ∷ y) s t i j h = at_most (size (u ∷ x) + size (v ∷ y)) 12 (nonvoid (length x) (length y) _ (passed _ DimLimit _ h).0)
  where
    nonvoid : (m n : ℕ) (w : Bool) → ((suc m == 0) || (suc n == 0) || w) ≡ true → w ≡ true
    nonvoid m n w e = grind (arith, nat_tests, e)

-- ---- the weight
same_zero : (n p q : ℕ) → n ≡ 0 → n * p ≡ n * q
same_zero n p q e = ap (λ k. k * p) e ∙ none_of p ∙ sym (none_of q) ∙ sym (ap (λ k. k * q) e)
  where
    none_of : (k : ℕ) → 0 * k ≡ 0
    none_of k = omega arith

pub weight_join : (x y : List (List ℕ)) → list_all is_simplex x ≡ true → is_complex x ≡ true → list_all is_simplex y ≡ true → is_complex y ≡ true → (length x * length y) * 2 ^ (size x + size y) ≡ weight (join x y)
weight_join [] y sx cx sy cy =
    let e = count_join [] y sx cx sy cy in
    let z : 0 * length y ≡ 0 = omega arith in
    same_zero (0 * length y) _ (2 ^ size (join [] y)) z ∙ ap (λ n. n * 2 ^ size (join [] y)) (sym e)
weight_join (s ∷ x) [] sx cx sy cy =
    let e = count_join (s ∷ x) [] sx cx sy cy in
    let z : suc (length x) * 0 ≡ 0 = omega arith in
    same_zero (suc (length x) * 0) _ (2 ^ size (join (s ∷ x) [])) z ∙ ap (λ n. n * 2 ^ size (join (s ∷ x) [])) (sym e)
weight_join (s ∷ x) (t ∷ y) sx cx sy cy =
    let e = count_join (s ∷ x) (t ∷ y) sx cx sy cy in
    let f = size_join (s ∷ x) (t ∷ y) sx cx sy cy s t first first in
    λ i. sym e i * 2 ^ sym f i

-- the conditions of a join, where those on labels hold
pub first_then : {F : Type 0} (ts us : List (Bool × F)) → first_failing ts ≡ None → first_failing (ts ++ us) ≡ first_failing us
first_then [] us h = refl
first_then (t ∷ ts) us h = let r = passed t.0 t.1 (first_failing ts) h in ap (λ v. cond v (first_failing (ts ++ us)) (Some t.1)) r.0 ∙ first_then ts us r.1

pub within_room : (x y : List (List ℕ)) (room w : ℕ) → first_failing (fit_tests x y) ≡ None → w ≡ min (weight (join x y)) 340282366920938463463374607431768211455 → w ≤ room → room < 18446744073709551616
    → first_failing (join_tests x y room) ≡ None
within_room x y room w h e l u =
    first_then (fit_tests x y) ((nat_le (weight (join x y)) room, Size) ∷ []) h ∙ ap (λ v. cond v None (Some Size)) (le-leb (weight (join x y)) room (small (weight (join x y)) e))
  where
    small : (n : ℕ) → w ≡ min n 340282366920938463463374607431768211455 → n ≤ room
    small n e = omega arith
