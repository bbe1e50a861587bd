-- A bijection that carries one complex to another keeps the colours that facets lead to.
use Rattle.std.proofs.Common.{◌≡◌, ℕ, zero, suc, ◌+◌, ◌<◌, Bool, true, false, cond, ◌||◌, min, ◌-◌, ◌^◌, List, [], ◌∷◌, ◌++◌, map, length, take, get_or, add-zero, refl, sym, ap, ◌∙◌, subst, add_assoc, arith}
use Rattle.std.specs.Prelude.{◌==◌}
use Rattle.std.specs.Ordering.{nat_cmp, is_lt, match_ordering}
use Rattle.std.specs.declared.cmp.Ordering.{Ordering}
use Rattle.std.specs.declared.cmp.Ordering.TheVariants.{Less, Equal, Greater}
use Rattle.std.specs.Cmp.{IsTotalOrder}
use Rattle.std.specs.FinMap.{IsAntisymmetric, nat_cmp-IsAntisymmetric}
use Rattle.std.specs.List.{list_all, AllZip}
use Rattle.std.proofs.lemmas.List.{take_more}
use Rattle.std.proofs.lemmas.Cmp.{nat_cmp_total, nat_list_cmp_total, tied_itself}
use mathlib.Core.Bool.{true≢false}
use Rattle.simplex.specs.InOrder.{is_increasing, put, in_order}
use Rattle.simplex.specs.Simplex.{has, is_simplex, simplex_cmp}
use Rattle.simplex.proofs.InOrderLaws.{and_left, and_right}
use Rattle.simplex.proofs.Members.{In, first, later, at_head, all_at, from_map, from_in_order}
use Rattle.simplex.proofs.SimplexLaws.{has_at, has_from, in_within, above_at, rest_increasing}
use Rattle.simplex.proofs.Decided.{false_from, agree, equal_at}
use Rattle.facet_set.specs.Complex.{is_complex, simplices, verts}
use Rattle.facet_set.specs.Maps.{image, image_of, is_map, relabelled}
use Rattle.facet_set.proofs.ComplexLaws.{exact, is_set}
use Rattle.facet_set.proofs.FlipLaws.{same_list}
use Rattle.facet_set.proofs.OptionLaws.{in_verts, from_verts}
use Rattle.facet_set.proofs.MapLaws.{Renames, image_apart, image_is, facet_same, within_back, in_relabelled, from_relabelled}
use Rattle.facet_set.proofs.SetLaws.{in_place}
use Rattle.relabelling.specs.Bijections.{is_map_to}
use Rattle.relabelling.specs.Colours.{total, capped, mix, facet_colour, added, share, next_colour, complex_colour, KeepsColours}
use Rattle.relabelling.proofs.CarryLaws.{map_renames}
use Rattle.relabelling.proofs.SeekLaws.{has_end}

-- ---- sums
module _ {X : Type 0} where
  pub total_alike : (f g : X → ℕ) (xs : List X) → ((x : X) → In x xs → f x ≡ g x) → total f xs ≡ total g xs
  total_alike f g [] h = refl
  total_alike f g (x ∷ xs) h = ap (λ n. n + total f xs) (h x first) ∙ ap (λ n. g x + n) (total_alike f g xs (λ y i. h y (later i)))

  -- no member stands twice
  abbrev pub Once : List X → Type 0
  Once [] = Unit {0}
  Once (x ∷ xs) = (In x xs → ⊥) × Once xs

pub total_map : {X Y : Type 0} (f : Y → ℕ) (g : X → Y) (xs : List X) → total f (map g xs) ≡ total (λ x. f (g x)) xs
total_map f g [] = refl
total_map f g (x ∷ xs) = ap (λ n. f (g x) + n) (total_map f g xs)

pub once_map : {X Y : Type 0} (g : X → Y) (xs : List X) → Once xs → ((x y : X) → In x xs → In y xs → g x ≡ g y → x ≡ y) → Once (map g xs)
once_map g [] h f = tt
once_map g (x ∷ xs) h f =
    ((λ i. let q = from_map g (g x) xs i in h.0 (subst (λ z. In z xs) (sym (f x q.0 first (later q.1) q.2)) q.1)), once_map g xs h.1 (λ y z i j. f y z (later i) (later j)))

module _ {X : Type 0} {cmp : X → X → Ordering} (o : IsTotalOrder cmp) (only : IsAntisymmetric cmp) where
  not_below : (x : X) (xs : List X) → list_all (λ y. is_lt (cmp x y)) xs ≡ true → In x xs → ⊥
  not_below x xs h i = true≢false (sym (all_at (λ y. is_lt (cmp x y)) x xs h i) ∙ ap is_lt (tied_itself o x))

  pub increasing_once : (xs : List X) → is_increasing cmp xs ≡ true → Once xs
  increasing_once [] h = tt
  increasing_once (x ∷ xs) h = (not_below x xs (and_left _ _ h), increasing_once xs (and_right (list_all (λ y. is_lt (cmp x y)) xs) _ h))

  total_put : (f : X → ℕ) (x : X) (ys : List X) → (In x ys → ⊥) → total f (put cmp x ys) ≡ f x + total f ys
  total_put f x [] h = refl
  total_put f x (y ∷ ys) h =
      elim (cmp x y) as (λ r. cmp x y ≡ r → total f (match_ordering r (x ∷ y ∷ ys) (y ∷ ys) (y ∷ put cmp x ys)) ≡ f x + (f y + total f ys)) [
        | Less ↦ λ e. refl
        | Equal ↦ λ e. absurd (h (at_head x y ys (only x y e)))
        | Greater ↦ λ e. let rest = total_put f x ys (λ i. h (later i)) in omega arith
      ] refl

  -- a list and its members in order have one sum, where none stands twice
  pub total_in_order : (f : X → ℕ) (xs : List X) → Once xs → total f (in_order cmp xs) ≡ total f xs
  total_in_order f [] h = refl
  total_in_order f (x ∷ xs) h =
      total_put f x (in_order cmp xs) (λ i. h.0 (from_in_order o only x xs i)) ∙ ap (λ n. f x + n) (total_in_order f xs h.1)

-- ---- what a bijection keeps
module _ (c d : List (List ℕ)) (m : List (ℕ × ℕ)) (simple : list_all is_simplex c ≡ true) (whole : is_complex c ≡ true) (carries : is_map_to c d m ≡ true) where
  renames : Renames m c
  renames = map_renames m c simple (and_left _ _ carries)

  targets : d ≡ simplices (map (relabelled m) c)
  targets = sym (same_list (image m c) d (and_right (is_map m c) _ carries)) ∙ image_is m c renames whole

  known : (a : ℕ) → In a (verts c) → In a (map (λ (p : ℕ × ℕ). p.0) m)
  known a i = let at = from_verts c a i in renames.known at.0 at.1 a at.2

  one_facet : (s t : List ℕ) → In s c → In t c → relabelled m s ≡ relabelled m t → s ≡ t
  one_facet s t i j e =
      facet_same c s t whole i j (within_back m c s t renames i j (in_within (relabelled m s) (relabelled m t) (λ a k. subst (λ l. In a l) e k)))

  totals_kept : (h k : List ℕ → ℕ) → ((s : List ℕ) → In s c → h s ≡ k (relabelled m s)) → total h c ≡ total k d
  totals_kept h k f =
      total_alike h (λ s. k (relabelled m s)) c f ∙ sym (total_map k (relabelled m) c)
      ∙ sym (total_in_order nat_list_cmp_total exact k (map (relabelled m) c) (once_map (relabelled m) c (increasing_once nat_list_cmp_total exact c (and_left (is_increasing simplex_cmp c) _ whole)) one_facet))
      ∙ ap (total k) (sym targets)

  module _ (f g : ℕ → ℕ) (keeps : KeepsColours c f g m) where
    facet_kept : (s : List ℕ) → In s c → facet_colour f s ≡ facet_colour g (relabelled m s)
    facet_kept s i =
        ap (λ n. mix (capped n))
        (total_alike (λ a. mix (f a)) (λ a. mix (g (image_of m a))) s (λ a j. ap mix (keeps a (in_verts c s a i j)))
        ∙ sym (total_map (λ a. mix (g a)) (image_of m) s)
        ∙ sym (total_in_order nat_cmp_total nat_cmp-IsAntisymmetric (λ a. mix (g a)) (map (image_of m) s)
        (once_map (image_of m) s (increasing_once nat_cmp_total nat_cmp-IsAntisymmetric s (all_at is_set s c renames.sets i)) (λ a b j k. image_apart m a b renames.apart (renames.known s i a j) (renames.known s i b k)))))

    share_kept : (s : List ℕ) (a : ℕ) → In s c → In a (verts c) → share f s a ≡ share g (relabelled m s) (image_of m a)
    share_kept s a i j =
        ap (λ v. cond v (mix (capped (facet_colour f s + mix (f a)))) 0) held
        ∙ ap (λ n. cond (has (relabelled m s) (image_of m a)) (mix (capped (n + mix (f a)))) 0) (facet_kept s i)
        ∙ ap (λ n. cond (has (relabelled m s) (image_of m a)) (mix (capped (facet_colour g (relabelled m s) + mix n))) 0) (keeps a j)
      where
        held : has s a ≡ has (relabelled m s) (image_of m a)
        held = agree _ _
            (λ h. has_from (relabelled m s) (image_of m a) (in_relabelled m s a (has_at s a h)))
            (λ h. let q = from_relabelled m s (image_of m a) (has_at (relabelled m s) (image_of m a) h) in
            has_from s a (subst (λ b. In b s) (sym (image_apart m a q.0 renames.apart (known a j) (renames.known s i q.0 q.1) q.2)) q.1))

    pub next_kept : (a : ℕ) → In a (verts c) → next_colour f c a ≡ next_colour g d (image_of m a)
    next_kept a j = ap capped (totals_kept (λ s. share f s a) (λ t. share g t (image_of m a)) (λ s i. share_kept s a i j))

    pub complex_kept : complex_colour f c ≡ complex_colour g d
    complex_kept = ap capped (totals_kept (facet_colour f) (facet_colour g) facet_kept)

-- ---- what the code looks up
pub same_entries : (ps qs : List (ℕ × ℕ)) → AllZip (λ (p : ℕ × ℕ) (q : ℕ × ℕ). (q.0 ≡ p.0) × (q.1 ≡ p.1)) ps qs → qs ≡ ps
same_entries [] [] h = refl
same_entries [] (q ∷ qs) h = absurd h
same_entries (p ∷ ps) [] h = absurd h
same_entries (p ∷ ps) (q ∷ qs) h = λ i. (h.0.0 i, h.0.1 i) ∷ same_entries ps qs h.1 i

total_end : {X : Type 0} (f : X → ℕ) (xs : List X) (x : X) → total f (xs ++ x ∷ []) ≡ total f xs + f x
total_end f [] x = omega arith
total_end f (y ∷ xs) x = ap (λ n. f y + n) (total_end f xs x) ∙ sym (add_assoc (f y) (total f xs) (f x))

cap_more : (t v m : ℕ) → min (min t m + v) m ≡ min (t + v) m
cap_more t v m = omega arith

-- one more member of a sum
pub total_next : {X : Type 0} (f : X → ℕ) (xs : List X) (i : ℕ) (x d : X) (sum v : ℕ) → i < length xs → x ≡ get_or xs i d → sum ≡ capped (total f (take i xs)) → v ≡ f x → capped (sum + v) ≡ capped (total f (take (i + 1) xs))
total_next f xs i x d sum v h e s k =
    ap (λ n. capped (n + v)) s ∙ cap_more (total f (take i xs)) v (2 ^ 64 - 1)
    ∙ ap capped (ap (λ n. total f (take i xs) + n) k ∙ sym (total_end f (take i xs) x) ∙ ap (total f) (ap (λ y. take i xs ++ y ∷ []) e ∙ sym (take_more xs i d h)))

-- what one facet adds
pub share_next : (f : ℕ → ℕ) (c : List (List ℕ)) (i : ℕ) (s d : List ℕ) (a t next : ℕ) → i < length c → s ≡ get_or c i d → t ≡ capped (total (λ s. share f s a) (take i c)) → next ≡ cond (has s a) (capped (t + added f s a)) t
    → next ≡ capped (total (λ s. share f s a) (take (i + 1) c))
share_next f c i s d a t next h e k n =
    n ∙ either (has s a) ∙ total_next (λ s. share f s a) c i s d t (share f s a) h e k refl
  where
    low : t ≡ capped (t + 0)
    low = k ∙ sym (cap_more (total (λ s. share f s a) (take i c)) 0 (2 ^ 64 - 1) ∙ ap capped (add-zero (total (λ s. share f s a) (take i c)))) ∙ ap (λ n. capped (n + 0)) (sym k)

    either : (v : Bool) → cond v (capped (t + added f s a)) t ≡ capped (t + cond v (added f s a) 0)
    either true = refl
    either false = low

fresh_at : (s : List ℕ) (i : ℕ) → is_increasing nat_cmp s ≡ true → i < length s → has (take i s) (get_or s i 0) ≡ false
fresh_at [] i up h = absurd (omega arith)
fresh_at (x ∷ s) zero up h = refl
fresh_at (x ∷ s) (suc i) up h =
    let less : x < get_or s i 0 = above_at x s (get_or s i 0) up (in_place s i 0 (omega arith)) in
    ap (λ v. v || has (take i s) (get_or s i 0)) (false_from (get_or s i 0 == x) (λ q. let same = equal_at (get_or s i 0) x q in omega arith)) ∙ fresh_at s i (rest_increasing x s up) (omega arith)

-- one more label of a facet
pub added_next : (e before t next : ℕ → ℕ) (s items : List ℕ) (i x amount : ℕ) → items ≡ s → is_increasing nat_cmp s ≡ true → i < length items → x ≡ get_or items i 0 → amount ≡ e x
    → ((a : ℕ) → t a ≡ cond (has (take i s) a) (capped (before a + e a)) (before a)) → ((a : ℕ) → next a ≡ cond (x == a) (capped (t a + amount)) (t a))
    → (a : ℕ) → next a ≡ cond (has (take (i + 1) s) a) (capped (before a + e a)) (before a)
added_next e before t next s items i x amount same up h at k old new a =
    new a ∙ elim (x == a) as (λ v. (x == a) ≡ v → cond v (capped (t a + amount)) (t a) ≡ cond (has (take i s) a || v) (capped (before a + e a)) (before a)) [
      | true ↦ λ q.
          let is : x ≡ a = equal_at x a q in
          let no : has (take i s) a ≡ false = ap (has (take i s)) (sym is ∙ at ∙ ap (λ l. get_or l i 0) same) ∙ fresh_at s i up (subst (λ l. i < length l) same h) in
          ap (λ n. capped (n + amount)) (old a ∙ ap (λ v. cond v (capped (before a + e a)) (before a)) no) ∙ ap (λ n. capped (before a + n)) (k ∙ ap e is)
          ∙ sym (ap (λ v. cond (v || true) (capped (before a + e a)) (before a)) no)
      | false ↦ λ q. old a ∙ ap (λ v. cond v (capped (before a + e a)) (before a)) (sym (or_none (has (take i s) a)))
    ] refl
    ∙ ap (λ v. cond v (capped (before a + e a)) (before a)) (sym (has_end (take i s) x a) ∙ ap (λ l. has l a) (ap (λ y. take i s ++ y ∷ []) (at ∙ ap (λ l. get_or l i 0) same) ∙ sym (take_more s i 0 (subst (λ l. i < length l) same h))))
  where
    or_none : (v : Bool) → (v || false) ≡ v
    or_none true = refl
    or_none false = refl
