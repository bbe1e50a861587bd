-- Laws of the sets of places that vertices have.
use Rattle.std.proofs.Common.{◌≡◌, ◌≢◌, ℕ, zero, suc, ◌+◌, ◌≤◌, ◌<◌, Bool, true, false, ◌&&◌, ◌||◌, ltb, List, [], ◌∷◌, ◌++◌, length, take, get_or, set, length-set, get_or-set_same, get_or-set_other, refl, sym, ap, ◌∙◌, subst, inl, inr, arith}
use Rattle.std.specs.Prelude.{◌==◌, nat_eq}
use Rattle.std.specs.Ordering.{nat_cmp}
use Rattle.std.specs.List.{list_all, flat_map}
use Rattle.std.proofs.lemmas.Bool.Decides.{nat_tests}
use Rattle.std.proofs.lemmas.List.{get_or_read, take_more}
use Rattle.simplex.specs.InOrder.{is_increasing}
use Rattle.simplex.specs.Simplex.{has, is_within}
use Rattle.simplex.proofs.Decided.{false_from, equal_at, equal_from, or_none}
use Rattle.simplex.proofs.Members.{In, first, later, cases, none}
use Rattle.std.proofs.lemmas.Cmp.{nat_cmp_total}
use Rattle.simplex.proofs.InOrderLaws.{is_increasing-in_order}
use Rattle.facet_set.specs.Complex.{verts}
use Rattle.facet_set.proofs.OptionLaws.{in_verts}
use Rattle.simplex.proofs.SimplexLaws.{has_at, in_within, above_at, list_any-append, rest_increasing}
use Rattle.shellings.specs.declared.place_set.PlaceSet.{PlaceSet}
use Rattle.shellings.specs.Places.{is_one}
use Rattle.shellings.specs.Stars.{AreEmpty, AreShaped, AreStars, IsPut}

-- ---- places of labels
in_at : (xs : List ℕ) (r : ℕ) → r < length xs → In (get_or xs r 0) xs
in_at [] r h = absurd (omega arith)
in_at (x ∷ xs) zero h = first
in_at (x ∷ xs) (suc r) h = later (in_at xs r (omega arith))

place_at : (a : ℕ) (xs : List ℕ) → In a xs → (r : ℕ) × (r < length xs) × (get_or xs r 0 ≡ a)
place_at a [] i = absurd (none a i)
place_at a (x ∷ xs) i = elim (cases i) [
  | inl e ↦ (0, omega arith, sym e)
  | inr j ↦ let r = place_at a xs j in let below = r.1 in (suc r.0, omega (arith, below), r.2)
]

pub rises_at : (xs : List ℕ) (i j : ℕ) → is_increasing nat_cmp xs ≡ true → i < j → j < length xs → get_or xs i 0 < get_or xs j 0
rises_at [] i j h l k = absurd (omega arith)
rises_at (x ∷ xs) zero zero h l k = absurd (omega arith)
rises_at (x ∷ xs) zero (suc j) h l k = above_at x xs (get_or xs j 0) h (in_at xs j (omega arith))
rises_at (x ∷ xs) (suc i) zero h l k = absurd (omega arith)
rises_at (x ∷ xs) (suc i) (suc j) h l k = rises_at xs i j (rest_increasing x xs h) (omega arith) (omega arith)

pub in_order_at : (xs : List ℕ) → is_increasing nat_cmp xs ≡ true → (i j : ℕ) → i ≤ j → j < length xs → get_or xs i 0 ≤ get_or xs j 0
in_order_at xs h i j l k = elim (ltb i j) as (λ v. ltb i j ≡ v → get_or xs i 0 ≤ get_or xs j 0) [
  | true ↦ λ e. let below = rises_at xs i j h (grind (arith, nat_tests)) k in omega (arith, below)
  | false ↦ λ e. let same : i ≡ j = grind (arith, nat_tests) in subst (λ n. get_or xs i 0 ≤ get_or xs n 0) same (omega arith)
] refl

apart : (xs : List ℕ) (r q : ℕ) → is_increasing nat_cmp xs ≡ true → r < length xs → q < length xs → r ≢ q → get_or xs r 0 ≢ get_or xs q 0
apart xs r q h p k n e = elim (ltb r q) as (λ v. ltb r q ≡ v → ⊥) [
  | true ↦ λ b. let below = rises_at xs r q h (grind (arith, nat_tests)) k in omega (arith, below, e)
  | false ↦ λ b. let past : q < r = grind (arith, nat_tests) in let below = rises_at xs q r h past p in omega (arith, below, e)
] refl

pub is_there : (xs : List ℕ) (a : ℕ) (i : ℕ) → is_increasing nat_cmp xs ≡ true → has xs a ≡ true → ((k : ℕ) → k < i → get_or xs k 0 < a) → ((k : ℕ) → i ≤ k → k < length xs → a < get_or xs k 0) → ⊥
is_there xs a i h m low high =
    let r = place_at a xs (has_at xs a m) in
    let is = r.2 in
    elim (ltb r.0 i) as (λ v. ltb r.0 i ≡ v → ⊥) [
      | true ↦ λ b. let l = low r.0 (grind (arith, nat_tests)) in omega (arith, l, is)
      | false ↦ λ b. let l = high r.0 (grind (arith, nat_tests)) r.1 in omega (arith, l, is)
    ] refl

-- ---- one label more
all_last : (p : ℕ → Bool) (xs : List ℕ) (x : ℕ) → list_all p (xs ++ x ∷ []) ≡ (list_all p xs && p x)
all_last p [] x = by (p x)
  where
    by : (v : Bool) → (v && true) ≡ v
    by true = refl
    by false = refl
all_last p (y ∷ xs) x = ap (λ v. p y && v) (all_last p xs x) ∙ by (p y) (list_all p xs) (p x)
  where
    by : (u v w : Bool) → (u && (v && w)) ≡ ((u && v) && w)
    by true v w = refl
    by false v w = refl

pub within_more : (s t : List ℕ) (i a : ℕ) → i < length s → a ≡ get_or s i a → is_within (take (i + 1) s) t ≡ (is_within (take i s) t && has t a)
within_more s t i a h e = ap (λ l. is_within l t) (take_more s i a h ∙ ap (λ x. take i s ++ x ∷ []) (sym e)) ∙ all_last (has t) (take i s) a

has_more : (f : List ℕ) (p a b : ℕ) → p < length f → a ≡ get_or f p a → has (take (p + 1) f) b ≡ (has (take p f) b || (b == a))
has_more f p a b h e =
    ap (λ l. has l b) (take_more f p a h ∙ ap (λ x. take p f ++ x ∷ []) (sym e)) ∙ list_any-append (λ y. b == y) (take p f) (a ∷ []) ∙ ap (λ v. has (take p f) b || v) (or_none (b == a) false refl)

-- ---- keeping
pub kept_step : (u v w x y z : Bool) → x ≡ (y && z) → y ≡ (u && v) → (u && (v && z)) ≡ x
kept_step u v w x y z e k = by u v z ∙ sym (e ∙ ap (λ b. b && z) k)
  where
    by : (u v z : Bool) → (u && (v && z)) ≡ ((u && v) && z)
    by true v z = refl
    by false v z = refl

-- ---- putting
put_here : (u v w : Bool) → (u || ((u && v) || w)) ≡ ((u && true) || w)
put_here true v w = refl
put_here false v w = refl

or_true : (v : Bool) → (v || true) ≡ true
or_true true = refl
or_true false = refl

module _ (labels : List ℕ) (place : ℕ) (f : List ℕ) (p a : ℕ) (h : p < length f) (e : a ≡ get_or f p a) where
  pub put_more : (old now next : List PlaceSet) (q : ℕ) (x y : PlaceSet) → is_increasing nat_cmp labels ≡ true → length now ≡ length labels → q < length labels → get_or labels q 0 ≡ a → x ≡ get_or now q x
      → ((k : ℕ) → is_one y.words.items k ≡ ((k == place) || is_one (get_or now q x).words.items k)) → length y.words.items ≡ length (get_or now q x).words.items → next ≡ set now q y → IsPut labels place (take p f) old now → IsPut labels place (take (p + 1) f) old next
  put_more old now next q x y up count within is read one l n put = record {
    count = ap length n ∙ length-set now q y ∙ put.count;
    wide = λ r s below. ap (λ (m : List PlaceSet). length (get_or m r s).words.items) n ∙ (elim (nat_eq r q) as (λ v. nat_eq r q ≡ v → length (get_or (set now q y) r s).words.items ≡ length (get_or old r s).words.items) [
      | true ↦ λ m.
          let same : r ≡ q = grind (arith, nat_tests) in
          let there : q < length now = omega (arith, count, within) in
          ap (λ j. length (get_or (set now q y) j s).words.items) same ∙ ap (λ (t : PlaceSet). length t.words.items) (get_or-set_same now q y s there) ∙ l
          ∙ ap (λ (t : PlaceSet). length t.words.items) (sym read ∙ get_or_read now q x there read s ∙ ap (λ j. get_or now j s) (sym same)) ∙ put.wide r s below
      | false ↦ λ m. ap (λ (t : PlaceSet). length t.words.items) (get_or-set_other now q r y s (grind (arith, nat_tests))) ∙ put.wide r s below
    ] refl);
    each = λ r s k below. elim (nat_eq r q) as (λ v. nat_eq r q ≡ v → is_one (get_or next r s).words.items k ≡ (((k == place) && has (take (p + 1) f) (get_or labels r 0)) || is_one (get_or old r s).words.items k)) [
      | true ↦ λ m.
          let same : r ≡ q = grind (arith, nat_tests) in
          let there : q < length now = omega (arith, count, within) in
          let label : get_or labels r 0 ≡ a = ap (λ j. get_or labels j 0) same ∙ is in
          let full : has (take (p + 1) f) (get_or labels r 0) ≡ true = has_more f p a (get_or labels r 0) h e ∙ ap (λ v. has (take p f) (get_or labels r 0) || v) (equal_from (get_or labels r 0) a label) ∙ or_true (has (take p f) (get_or labels r 0)) in
          let before : is_one (get_or now q x).words.items k ≡ is_one (get_or now r s).words.items k = ap (λ (t : PlaceSet). is_one t.words.items k) (sym read ∙ get_or_read now q x there read s ∙ ap (λ j. get_or now j s) (sym same)) in
          ap (λ (l : List PlaceSet). is_one (get_or l r s).words.items k) n ∙ ap (λ j. is_one (get_or (set now q y) j s).words.items k) same ∙ ap (λ (t : PlaceSet). is_one t.words.items k) (get_or-set_same now q y s there)
          ∙ one k ∙ ap (λ v. (k == place) || v) (before ∙ put.each r s k below)
          ∙ put_here (k == place) (has (take p f) (get_or labels r 0)) (is_one (get_or old r s).words.items k)
          ∙ ap (λ v. ((k == place) && v) || is_one (get_or old r s).words.items k) (sym full)
      | false ↦ λ m.
          let other : r ≢ q = grind (arith, nat_tests) in
          let miss : (get_or labels r 0 == a) ≡ false = false_from (get_or labels r 0 == a) (λ t. apart labels r q up below within other (equal_at (get_or labels r 0) a t ∙ sym is)) in
          let same : has (take (p + 1) f) (get_or labels r 0) ≡ has (take p f) (get_or labels r 0) = has_more f p a (get_or labels r 0) h e ∙ or_none (has (take p f) (get_or labels r 0)) (get_or labels r 0 == a) miss in
          ap (λ (l : List PlaceSet). is_one (get_or l r s).words.items k) n ∙ ap (λ (t : PlaceSet). is_one t.words.items k) (get_or-set_other now q r y s other)
          ∙ put.each r s k below ∙ ap (λ v. ((k == place) && v) || is_one (get_or old r s).words.items k) (sym same)
    ] refl;
  }

pub put_none : (labels : List ℕ) (place : ℕ) (old : List PlaceSet) → IsPut labels place [] old old
put_none labels place old = record { each = λ r s k below. by (k == place) (is_one (get_or old r s).words.items k); count = refl; wide = λ r s below. refl }
  where
    by : (u w : Bool) → w ≡ ((u && false) || w)
    by true w = refl
    by false w = refl

pub shaped_put : (labels : List ℕ) (place : ℕ) (f : List ℕ) (old next : List PlaceSet) (len : ℕ) → IsPut labels place f old next → AreShaped labels old len → AreShaped labels next len
shaped_put labels place f old next len p h = record { rising = h.rising; count = p.count ∙ h.count; wide = λ r s below. p.wide r s below ∙ h.wide r s below }

-- ---- one facet more
last_place : (xs : List (List ℕ)) (f : List ℕ) (k a : ℕ) → (((k == length xs) && has f a) || has (get_or xs k []) a) ≡ has (get_or (xs ++ f ∷ []) k []) a
last_place [] f zero a = by (has f a)
  where
    by : (v : Bool) → (v || false) ≡ v
    by true = refl
    by false = refl
last_place [] f (suc k) a = let e : (suc k == 0) ≡ false = grind (arith, nat_tests) in ap (λ v. (v && has f a) || false) e
last_place (x ∷ xs) f zero a = let e : (0 == suc (length xs)) ≡ false = grind (arith, nat_tests) in ap (λ v. (v && has f a) || has x a) e
last_place (x ∷ xs) f (suc k) a = let e : (suc k == suc (length xs)) ≡ (k == length xs) = grind (arith, nat_tests) in ap (λ v. (v && has f a) || has (get_or xs k []) a) e ∙ last_place xs f k a

pub stars_more : (c : List (List ℕ)) (i : ℕ) (f labels : List ℕ) (old next : List PlaceSet) → i < length c → f ≡ get_or c i f → length (take i c) ≡ i → AreStars (take i c) labels old → IsPut labels i f old next → AreStars (take (i + 1) c) labels next
stars_more c i f labels old next h e n s p = record {
  each = λ r d k below.
      p.each r d k below
      ∙ ap (λ v. ((k == i) && has f (get_or labels r 0)) || v) (s.each r d k below)
      ∙ ap (λ j. ((k == j) && has f (get_or labels r 0)) || has (get_or (take i c) k []) (get_or labels r 0)) (sym n)
      ∙ last_place (take i c) f k (get_or labels r 0)
      ∙ ap (λ l. has (get_or l k []) (get_or labels r 0)) (sym (take_more c i f h ∙ ap (λ x. take i c ++ x ∷ []) (sym e)));
}

pub stars_none : (labels : List ℕ) (sets : List PlaceSet) (len : ℕ) → AreEmpty sets (length labels) len → AreStars [] labels sets
stars_none labels sets len h = record { each = λ r s k below. h.empty r s k below }

pub shaped_none : (labels : List ℕ) (sets : List PlaceSet) (len : ℕ) → is_increasing nat_cmp labels ≡ true → AreEmpty sets (length labels) len → AreShaped labels sets len
shaped_none labels sets len up h = record { rising = up; count = h.whole; wide = h.wide }

pub read_self : (xs : List ℕ) (i : ℕ) → i < length xs → get_or xs i 0 ≡ get_or xs i (get_or xs i 0)
read_self [] i h = absurd (omega arith)
read_self (x ∷ xs) zero h = refl
read_self (x ∷ xs) (suc i) h = read_self xs i (omega arith)

-- ---- the labels of facets
pub labels_rise : (c : List (List ℕ)) (labels : List ℕ) → labels ≡ verts c → is_increasing nat_cmp labels ≡ true
labels_rise c labels e = ap (is_increasing nat_cmp) e ∙ is_increasing-in_order nat_cmp_total (flat_map (λ s. s) c)

pub facet_within : (c : List (List ℕ)) (f labels : List ℕ) → In f c → labels ≡ verts c → is_within f labels ≡ true
facet_within c f labels i e = in_within f labels (λ a j. subst (λ l. In a l) (sym e) (in_verts c f a i j))

pub read_in : (c : List (List ℕ)) (i : ℕ) (f : List ℕ) → i < length c → f ≡ get_or c i f → In f c
read_in c i f h e = subst (λ s. In s c) (sym e) (place c i f h)
  where
    place : (c : List (List ℕ)) (i : ℕ) (f : List ℕ) → i < length c → In (get_or c i f) c
    place [] i f h = absurd (omega arith)
    place (x ∷ c) zero f h = first
    place (x ∷ c) (suc i) f h = later (place c i f (omega arith))
