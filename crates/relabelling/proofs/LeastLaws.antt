-- The bijection whose list of images is least.
use Rattle.std.proofs.Common.{◌≡◌, ℕ, zero, suc, ◌+◌, ◌<◌, Bool, true, false, cond, List, [], ◌∷◌, ◌++◌, map, length, take, get_or, Option, None, Some, refl, sym, ap, ◌∙◌, subst, ◌⊎◌, inl, inr, arith, option_map}
use Rattle.std.specs.Ordering.{nat_cmp, is_lt, ordering_then, ordering_reverse}
use Rattle.std.specs.declared.cmp.Ordering.{Ordering}
use Rattle.std.specs.declared.cmp.Ordering.TheVariants.{Less, Equal, Greater}
use Rattle.std.specs.Prelude.{nat_eq, slice_get}
use Rattle.std.specs.Bool.{IsTrue}
use Rattle.std.specs.Option.{IsSome}
use Rattle.std.specs.Cmp.Lexicographic.{pointwise}
use Rattle.std.specs.List.{find, flat_map, list_all, zip}
use Rattle.std.proofs.lemmas.Bool.Decides.{nat_tests}
use Rattle.std.proofs.lemmas.Cmp.{nat_cmp_total, nat_list_cmp_total}
use Rattle.std.proofs.lemmas.List.{take_more}
use Rattle.std.proofs.lemmas.Slice.Zip.{seconds-zip}
use Rattle.simplex.specs.InOrder.{is_increasing}
use Rattle.simplex.specs.Simplex.{is_simplex, simplex_cmp, without}
use Rattle.simplex.proofs.InOrderLaws.{and_left, and_right, and_both, is_increasing-in_order, less_is}
use Rattle.simplex.proofs.Members.{In, first, later, cases, at_head, none, all_at, all_from, in_either, from_map, from_flat_map}
use Rattle.simplex.proofs.SimplexLaws.{rest_increasing, is_increasing-filter}
use Rattle.simplex.proofs.Decided.{false_from, false_at, equal_from, no_some}
use Rattle.facet_set.specs.Complex.{is_complex, verts}
use Rattle.facet_set.specs.Connection.{is_closed, is_strong}
use Rattle.facet_set.specs.Maps.{image_of}
use Rattle.facet_set.proofs.GeneratedLaws.{same_at}
use Rattle.facet_set.proofs.MapLaws.{firsts, seconds}
use Rattle.facet_set.proofs.FacetLaws.{rising_join}
use Rattle.relabelling.specs.Bijections.{arrangements, is_map_to, comes_before, maps, first_map, goes_to, extension}
use Rattle.relabelling.specs.Laws.{FirstMapIsLeast}
use Rattle.relabelling.specs.Least.{lesser, Improves, IsBeaten, Reaches}
use Rattle.relabelling.proofs.ExtendLaws.{find_one}
use Rattle.relabelling.proofs.LeadLaws.{no_first}
use Rattle.relabelling.proofs.MapsLaws.{zip_parts, firsts_at, in_maps, from_maps, images_arranged, one_by_facet_lem}
use Rattle.relabelling.proofs.SeekLaws.{first_kept, arrangement_length}
use Rattle.relabelling.proofs.WalkLaws.{same_test}

-- ---- lists of labels in order
not_less : (r : Ordering) → is_lt r ≡ false → (r ≡ Equal) ⊎ (r ≡ Greater)
not_less Less h = cc
not_less Equal h = inl refl
not_less Greater h = inr refl

less_away : (r : Ordering) → is_lt r ≡ true → is_lt (ordering_reverse r) ≡ false
less_away Less h = refl
less_away Equal h = cc
less_away Greater h = cc

-- what is not before the second is not before what is not after the second
not_before_on : (x y z : List ℕ) → is_lt (simplex_cmp x y) ≡ false → is_lt (simplex_cmp y z) ≡ false → is_lt (simplex_cmp x z) ≡ false
not_before_on x y z h k = false_from (is_lt (simplex_cmp x z)) (λ l.
    let less = less_is (simplex_cmp x z) l in
    elim (not_less (simplex_cmp x y) h) [
      | inl e ↦ false_at (is_lt (simplex_cmp y z)) k (ap is_lt (sym (nat_list_cmp_total.congr x y z e) ∙ less))
      | inr e ↦
          let other : simplex_cmp y x ≡ Less = nat_list_cmp_total.antisymm y x ∙ ap ordering_reverse e in
          false_at (is_lt (simplex_cmp y z)) k (ap is_lt (nat_list_cmp_total.trans y x z other less))
    ])

-- ---- the lesser of two
pub lesser_left : (o p : Option (List (ℕ × ℕ))) (m : List (ℕ × ℕ)) → Reaches o m → Reaches (lesser o p) m
lesser_left None p m (n, e, h) = cc
lesser_left (Some q) None m r = r
lesser_left (Some q) (Some s) m (n, e, h) =
    let same : q ≡ n = cc in
    elim (comes_before s q) as (λ v. comes_before s q ≡ v → Reaches (cond v (Some s) (Some q)) m) [
      | true ↦ λ k. (s, refl, not_before_on (seconds m) (seconds q) (seconds s) (ap (comes_before m) same ∙ h) (ap is_lt (nat_list_cmp_total.antisymm (seconds q) (seconds s)) ∙ less_away (simplex_cmp (seconds s) (seconds q)) k))
      | false ↦ λ k. (n, ap Some same, h)
    ] refl

pub lesser_right : (o p : Option (List (ℕ × ℕ))) (m : List (ℕ × ℕ)) → Reaches p m → Reaches (lesser o p) m
lesser_right None p m r = r
lesser_right (Some q) None m (n, e, h) = cc
lesser_right (Some q) (Some s) m (n, e, h) =
    let same : s ≡ n = cc in
    elim (comes_before s q) as (λ v. comes_before s q ≡ v → Reaches (cond v (Some s) (Some q)) m) [
      | true ↦ λ k. (n, ap Some same, h)
      | false ↦ λ k. (q, refl, not_before_on (seconds m) (seconds s) (seconds q) (ap (comes_before m) same ∙ h) k)
    ] refl

pub lesser_map : (c d : List (List ℕ)) (o p : Option (List (ℕ × ℕ))) → ((m : List (ℕ × ℕ)) → o ≡ Some m → is_map_to c d m ≡ true) → ((m : List (ℕ × ℕ)) → p ≡ Some m → is_map_to c d m ≡ true) → (m : List (ℕ × ℕ)) → lesser o p ≡ Some m → is_map_to c d m ≡ true
lesser_map c d None p h k m e = k m e
lesser_map c d (Some q) None h k m e = h m e
lesser_map c d (Some q) (Some s) h k m e =
    elim (comes_before s q) as (λ v. cond v (Some s) (Some q) ≡ Some m → is_map_to c d m ≡ true) [ true ↦ λ g. k m g | false ↦ λ g. h m g ] e

-- ---- arrangements are in increasing order
nat_itself : (a : ℕ) → nat_cmp a a ≡ Equal
nat_itself a = itself_of (nat_cmp a a) (nat_cmp_total.antisymm a a)
  where
    itself_of : (r : Ordering) → r ≡ ordering_reverse r → r ≡ Equal
    itself_of Less e = cc
    itself_of Equal e = refl
    itself_of Greater e = cc

nat_less : (a b : ℕ) (xs : List ℕ) → is_increasing nat_cmp (a ∷ xs) ≡ true → In b xs → is_lt (nat_cmp a b) ≡ true
nat_less a b xs h i = all_at (λ y. is_lt (nat_cmp a y)) b xs (and_left _ _ h) i

same_head : (a : ℕ) (t u : List ℕ) → simplex_cmp (a ∷ t) (a ∷ u) ≡ simplex_cmp t u
same_head a t u = ap (λ r. ordering_then r (simplex_cmp t u)) (nat_itself a)

less_head : (a b : ℕ) (t u : List ℕ) → is_lt (nat_cmp a b) ≡ true → is_lt (simplex_cmp (a ∷ t) (b ∷ u)) ≡ true
less_head a b t u h = ap (λ r. is_lt (ordering_then r (simplex_cmp t u))) (less_is (nat_cmp a b) h)

behind_increasing : (a : ℕ) (ts : List (List ℕ)) → is_increasing simplex_cmp ts ≡ true → is_increasing simplex_cmp (map (λ t. a ∷ t) ts) ≡ true
behind_increasing a [] h = refl
behind_increasing a (t ∷ ts) h =
    and_both _ _
    (all_from (λ y. is_lt (simplex_cmp (a ∷ t) y)) (map (λ u. a ∷ u) ts) (λ y i.
    let u = from_map (λ u. a ∷ u) y ts i in
    ap (λ z. is_lt (simplex_cmp (a ∷ t) z)) u.2 ∙ ap is_lt (same_head a t u.0) ∙ all_at (λ z. is_lt (simplex_cmp t z)) u.0 ts (and_left _ _ h) u.1))
    (behind_increasing a ts (and_right (list_all (λ z. is_lt (simplex_cmp t z)) ts) _ h))

rows_increasing : (g : ℕ → List (List ℕ)) (xs : List ℕ) → is_increasing nat_cmp xs ≡ true → ((a : ℕ) → is_increasing simplex_cmp (g a) ≡ true) → is_increasing simplex_cmp (flat_map (λ a. map (λ t. a ∷ t) (g a)) xs) ≡ true
rows_increasing g [] h f = refl
rows_increasing g (a ∷ xs) h f =
    rising_join (map (λ t. a ∷ t) (g a)) (flat_map (λ b. map (λ t. b ∷ t) (g b)) xs) (behind_increasing a (g a) (f a)) (rows_increasing g xs (rest_increasing a xs h) f) (λ x y i j.
    let t = from_map (λ t. a ∷ t) x (g a) i in
    let b = from_flat_map (λ b. map (λ t. b ∷ t) (g b)) y xs j in
    let u = from_map (λ t. b.0 ∷ t) y (g b.0) b.2 in
    ap (λ z. is_lt (simplex_cmp z y)) t.2 ∙ ap (λ z. is_lt (simplex_cmp (a ∷ t.0) z)) u.2 ∙ less_head a b.0 t.0 u.0 (nat_less a b.0 xs h b.1))

arranged_increasing : (n : ℕ) (s : List ℕ) → is_increasing nat_cmp s ≡ true → is_increasing simplex_cmp (arrangements n s) ≡ true
arranged_increasing zero s h = refl
arranged_increasing (suc n) s h = rows_increasing (λ a. arrangements n (without s a)) s h (λ a. arranged_increasing n (without s a) (is_increasing-filter nat_cmp _ s h))

-- ---- the first of an increasing list
found : {X : Type 0} (q : X → Bool) (xs : List X) (m : X) → find q xs ≡ Some m → In m xs
found q [] m g = cc
found q (x ∷ xs) m g = elim (q x) as (λ v. cond v (Some x) (find q xs) ≡ Some m → In m (x ∷ xs)) [ true ↦ λ h. let is : x ≡ m = cc in subst (λ z. In z (x ∷ xs)) is first | false ↦ λ h. later (found q xs m h) ] g

-- every other member that passes comes after it
found_least : (p : List ℕ → Bool) (xs : List (List ℕ)) (x y : List ℕ) → is_increasing simplex_cmp xs ≡ true → find p xs ≡ Some x → In y xs → p y ≡ true → (y ≡ x) ⊎ (is_lt (simplex_cmp x y) ≡ true)
found_least p [] x y h e i k = absurd (none y i)
found_least p (z ∷ xs) x y h e i k =
    elim (p z) as (λ v. p z ≡ v → cond v (Some z) (find p xs) ≡ Some x → (y ≡ x) ⊎ (is_lt (simplex_cmp x y) ≡ true)) [
      | true ↦ λ f g. let same : z ≡ x = cc in elim (cases i) [
        | inl q ↦ inl (q ∙ same)
        | inr j ↦ inr (ap (λ w. is_lt (simplex_cmp w y)) (sym same) ∙ all_at (λ w. is_lt (simplex_cmp z w)) y xs (and_left _ _ h) j)
      ]
      | false ↦ λ f g. elim (cases i) [
        | inl q ↦ absurd (false_at (p z) f (ap p (sym q) ∙ k))
        | inr j ↦ found_least p xs x y (and_right (list_all (λ w. is_lt (simplex_cmp z w)) xs) _ h) g j k
      ]
    ] refl e

find_least : (p : List ℕ → Bool) (xs : List (List ℕ)) (x : List ℕ) → is_increasing simplex_cmp xs ≡ true → In x xs → p x ≡ true → ((y : List ℕ) → In y xs → p y ≡ true → is_lt (simplex_cmp y x) ≡ false) → find p xs ≡ Some x
find_least p [] x h i k f = absurd (none x i)
find_least p (y ∷ xs) x h i k f =
    elim (p y) as (λ v. p y ≡ v → cond v (Some y) (find p xs) ≡ Some x) [
      | true ↦ λ e. elim (cases i) [
        | inl g ↦ ap Some (sym g)
        | inr j ↦ absurd (false_at (is_lt (simplex_cmp y x)) (f y first e) (all_at (λ z. is_lt (simplex_cmp y z)) x xs (and_left _ _ h) j))
      ]
      | false ↦ λ e. find_least p xs x (and_right (list_all (λ z. is_lt (simplex_cmp y z)) xs) _ h) (elim (cases i) [ inl g ↦ absurd (false_at (p y) e (ap p (sym g) ∙ k)) | inr j ↦ j ]) k (λ z j. f z (later j))
    ] refl

pub is_first : (c d : List (List ℕ)) (m : List (ℕ × ℕ)) → list_all is_simplex c ≡ true → is_complex c ≡ true → is_map_to c d m ≡ true → ((n : List (ℕ × ℕ)) → is_map_to c d n ≡ true → comes_before n m ≡ false) → Some m ≡ first_map c d
is_first c d m h k g f =
    sym (first_kept (is_map_to c d) (zip (verts c)) (arrangements (length (verts c)) (verts d))
    ∙ ap (option_map (zip (verts c))) (find_least (λ t. is_map_to c d (zip (verts c) t)) (arrangements (length (verts c)) (verts d)) (seconds m) (arranged_increasing (length (verts c)) (verts d) (is_increasing-in_order nat_cmp_total (flat_map (λ s. s) d)))
    (images_arranged c d m h k g) (ap (is_map_to c d) (sym same) ∙ g) least)
    ∙ ap Some (sym same))
  where
    same : m ≡ zip (verts c) (seconds m)
    same = zip_parts m ∙ ap (λ l. zip l (seconds m)) (firsts_at c m (and_left _ _ g))

    least : (y : List ℕ) → In y (arrangements (length (verts c)) (verts d)) → is_map_to c d (zip (verts c) y) ≡ true → is_lt (simplex_cmp y (seconds m)) ≡ false
    least y i p = ap (λ z. is_lt (simplex_cmp z (seconds m))) (sym (seconds-zip (verts c) y (arrangement_length (length (verts c)) (verts d) y i))) ∙ f (zip (verts c) y) p

pub none_first : (c d : List (List ℕ)) → ((n : List (ℕ × ℕ)) → is_map_to c d n ≡ true → ⊥) → None ≡ first_map c d
none_first c d f = no_first c d (λ t. false_from (is_map_to c d (zip (verts c) ([] ++ t))) (λ h. f (zip (verts c) ([] ++ t)) h))

-- ---- the first bijection is the least
not_before_itself : (m : List (ℕ × ℕ)) → comes_before m m ≡ false
not_before_itself m = away (simplex_cmp (seconds m) (seconds m)) (nat_list_cmp_total.antisymm (seconds m) (seconds m))
  where
    away : (r : Ordering) → r ≡ ordering_reverse r → is_lt r ≡ false
    away Less e = cc
    away Equal e = refl
    away Greater e = refl

not_after : (m n : List (ℕ × ℕ)) → (n ≡ m) ⊎ (comes_before m n ≡ true) → comes_before n m ≡ false
not_after m n (inl e) = ap (λ z. comes_before z m) e ∙ not_before_itself m
not_after m n (inr l) = ap is_lt (nat_list_cmp_total.antisymm (seconds n) (seconds m)) ∙ less_away (simplex_cmp (seconds m) (seconds n)) l

first_in : {X : Type 0} (xs : List X) (x : X) → slice_get xs 0 ≡ Some x → In x xs
first_in [] x e = cc
first_in (y ∷ xs) x e = at_head x y xs cc

first_least : (c d : List (List ℕ)) (m n : List (ℕ × ℕ)) → list_all is_simplex c ≡ true → is_complex c ≡ true → first_map c d ≡ Some m → is_map_to c d n ≡ true → (n ≡ m) ⊎ (comes_before m n ≡ true)
first_least c d m n h k e g = by (find p ts) refl
  where
    ts : List (List ℕ)
    ts = arrangements (length (verts c)) (verts d)

    p : List ℕ → Bool
    p t = is_map_to c d (zip (verts c) t)

    some_is : {X : Type 0} (x y : X) → Some x ≡ Some y → x ≡ y
    some_is x y q = cc

    no_one : None ≡ Some m → ⊥
    no_one q = cc

    same : n ≡ zip (verts c) (seconds n)
    same = zip_parts n ∙ ap (λ l. zip l (seconds n)) (firsts_at c n (and_left _ _ g))

    first_is : option_map (zip (verts c)) (find p ts) ≡ Some m
    first_is = sym (first_kept (is_map_to c d) (zip (verts c)) ts) ∙ e

    by : (o : Option (List ℕ)) → find p ts ≡ o → (n ≡ m) ⊎ (comes_before m n ≡ true)
    by None f = absurd (no_one (sym (ap (option_map (zip (verts c))) f) ∙ first_is))
    by (Some t) f =
        let is : zip (verts c) t ≡ m = some_is (zip (verts c) t) m (sym (ap (option_map (zip (verts c))) f) ∙ first_is) in
        let images : seconds m ≡ t = ap seconds (sym is) ∙ seconds-zip (verts c) t (arrangement_length (length (verts c)) (verts d) t (found p ts t f)) in
        let up = arranged_increasing (length (verts c)) (verts d) (is_increasing-in_order nat_cmp_total (flat_map (λ s. s) d)) in
        elim (found_least p ts t (seconds n) up f (images_arranged c d n h k g) (ap (is_map_to c d) (sym same) ∙ g)) [
          | inl q ↦ inl (same ∙ ap (zip (verts c)) q ∙ is)
          | inr l ↦ inr (ap (λ z. is_lt (simplex_cmp z (seconds n))) images ∙ l)
        ]

pub first_there : (c d : List (List ℕ)) (m : List (ℕ × ℕ)) → list_all is_simplex c ≡ true → is_complex c ≡ true → is_map_to c d m ≡ true → IsSome (first_map c d)
first_there c d m h k g = there (maps c d) (in_maps c d m h k g)
  where
    there : (xs : List (List (ℕ × ℕ))) → In m xs → IsSome (slice_get xs 0)
    there [] i = absurd (none m i)
    there (x ∷ xs) i = refl

pub first_map_is_least_lem : FirstMapIsLeast
first_map_is_least_lem c d h k = (
  λ m. (
    λ e. record { carries = from_maps c d m (first_in (maps c d) m e); least = λ n g. first_least c d m n h k e g },
    λ l. sym (is_first c d m h k l.carries (λ n g. not_after m n (l.least n g))),
  ),
  (λ e n g. no_some (first_map c d) e (first_there c d n h k g), λ f. sym (none_first c d f)),
)

-- what every bijection reaches is the first one
pub reached_first : (c d : List (List ℕ)) (o : Option (List (ℕ × ℕ))) → list_all is_simplex c ≡ true → is_complex c ≡ true → ((m : List (ℕ × ℕ)) → o ≡ Some m → is_map_to c d m ≡ true) → ((n : List (ℕ × ℕ)) → is_map_to c d n ≡ true → Reaches o n) → o ≡ first_map c d
reached_first c d None h k f g = none_first c d (λ n e. nothing n (g n e))
  where
    nothing : (n : List (ℕ × ℕ)) → Reaches None n → ⊥
    nothing n (q, e, l) = cc
reached_first c d (Some m) h k f g = is_first c d m h k (f m refl) (λ n e. here n (g n e))
  where
    here : (n : List (ℕ × ℕ)) → Reaches (Some m) n → comes_before n m ≡ false
    here n (q, e, l) = let same : m ≡ q = cc in ap (comes_before n) same ∙ l

-- ---- the extension of the images of one facet
extended_map : (c d : List (List ℕ)) (s given : List ℕ) (m : List (ℕ × ℕ)) → extension c d s given ≡ Some m → is_map_to c d m ≡ true
extended_map c d s given m e = from_maps c d m (found (λ n. goes_to n s given) (maps c d) m e)

alike_at : (f g : ℕ → ℕ) (s : List ℕ) → map f s ≡ map g s → (a : ℕ) → In a s → f a ≡ g a
alike_at f g [] e a i = absurd (none a i)
alike_at f g (x ∷ s) e a i =
    let head : f x ≡ g x = cc in
    let rest : map f s ≡ map g s = cc in
    elim (cases i) [ inl k ↦ ap f k ∙ head ∙ ap g (sym k) | inr j ↦ alike_at f g s rest a j ]

pub own_extension : (c d : List (List ℕ)) (s given : List ℕ) (m : List (ℕ × ℕ)) → list_all is_simplex c ≡ true → is_complex c ≡ true → is_closed c ≡ true → is_strong c ≡ true → In s c → is_map_to c d m ≡ true → map (image_of m) s ≡ given → extension c d s given ≡ Some m
own_extension c d s given m h k closed strong i g e =
    find_one (λ n. goes_to n s given) (maps c d) m (λ n j t. one_by_facet_lem c d n m s h k closed strong j at i (alike_at (image_of n) (image_of m) s (same_at (map (image_of n) s) given t ∙ sym e))) at
    (ap (pointwise nat_eq (map (image_of m) s)) (sym e) ∙ same_test (map (image_of m) s))
  where
    at : In m (maps c d)
    at = in_maps c d m h k g

-- ---- one after another
pub improves_itself : (c d : List (List ℕ)) (o : Option (List (ℕ × ℕ))) (P : List (ℕ × ℕ) → Type 0) → ((m : List (ℕ × ℕ)) → P m → ⊥) → Improves c d o o P
improves_itself c d o P f = record { map = λ h. h; kept = λ m r. r; reached = λ m g p. absurd (f m p) }

pub improves_on : (c d : List (List ℕ)) (o n l : Option (List (ℕ × ℕ))) (P Q R : List (ℕ × ℕ) → Type 0) → Improves c d o n P → Improves c d n l Q → ((m : List (ℕ × ℕ)) → R m → P m ⊎ Q m) → Improves c d o l R
improves_on c d o n l P Q R x y f = record {
  map = λ h. y.map (x.map h);
  kept = λ m r. y.kept m (x.kept m r);
  reached = λ m g p. elim (f m p) [ inl q ↦ y.kept m (x.reached m g q) | inr q ↦ y.reached m g q ];
}

pub improves_as : (c d : List (List ℕ)) (o n : Option (List (ℕ × ℕ))) (P Q : List (ℕ × ℕ) → Type 0) → Improves c d o n P → ((m : List (ℕ × ℕ)) → IsTrue (is_map_to c d m) → Q m → P m) → Improves c d o n Q
improves_as c d o n P Q x f = record { map = x.map; kept = x.kept; reached = λ m g q. x.reached m g (f m g q) }

-- one more order of images
pub improves_by : (c d : List (List ℕ)) (s given : List ℕ) (o e n : Option (List (ℕ × ℕ))) → list_all is_simplex c ≡ true → is_complex c ≡ true → is_closed c ≡ true → is_strong c ≡ true → In s c → e ≡ extension c d s given → n ≡ lesser o e → Improves c d o n (λ m. map (image_of m) s ≡ given)
improves_by c d s given o e n h k closed strong i x l = record {
  map = λ f m g. lesser_map c d o e f (λ q y. extended_map c d s given q (sym x ∙ y)) m (sym l ∙ g);
  kept = λ m r. subst (λ z. Reaches z m) (sym l) (lesser_left o e m r);
  reached = λ m g p. subst (λ z. Reaches z m) (sym l) (lesser_right o e m (subst (λ z. Reaches z m) (sym (x ∙ own_extension c d s given m h k closed strong i g p)) (m, refl, not_before_itself m)));
}

-- what has a lesser first image is not reached from behind
pub improves_beaten : (c d : List (List ℕ)) (vs s : List ℕ) (o : Option (List (ℕ × ℕ))) (a : ℕ) (Q : List (ℕ × ℕ) → Type 0) → vs ≡ verts c → 0 < length vs → get_or s 0 0 ≡ get_or vs 0 0 → IsBeaten o a → Improves c d o o (λ m. (image_of m (get_or s 0 0) ≡ a) × Q m)
improves_beaten c d vs s o a Q v some one (n, p, e, h, l) = record {
  map = λ f. f;
  kept = λ m r. r;
  reached = λ m g q. (n, e, behind m n (starts m (verts c) (firsts_at c m (and_left _ _ g)) (ap (image_of m) (sym (one ∙ ap (λ z. get_or z 0 0) v)) ∙ q.0) (subst (λ z. 0 < length z) v some)) h l);
}
  where
    starts : (m : List (ℕ × ℕ)) (ws : List ℕ) → firsts m ≡ ws → image_of m (get_or ws 0 0) ≡ a → 0 < length ws → (r : ℕ × ℕ) × (t : List (ℕ × ℕ)) × (m ≡ r ∷ t) × (r.1 ≡ a)
    starts m [] f g h = absurd (omega arith)
    starts [] (w ∷ ws) f g h = cc
    starts (r ∷ t) (w ∷ ws) f g h = let same : r.0 ≡ w = cc in (r, t, refl, sym (ap (λ b. cond b r.1 (image_of t w)) (equal_from r.0 w same)) ∙ g)

    below : (x y : ℕ) → x < y → is_lt (nat_cmp x y) ≡ true
    below x y h = grind (arith, nat_tests)

    behind : (m n : List (ℕ × ℕ)) → (r : ℕ × ℕ) × (t : List (ℕ × ℕ)) × (m ≡ r ∷ t) × (r.1 ≡ a) → slice_get n 0 ≡ Some p → p.1 < a → comes_before m n ≡ false
    behind m [] x h l = cc
    behind m (q ∷ n) (r, t, f, g) h l =
        let same : q ≡ p = cc in
        let less : is_lt (nat_cmp q.1 r.1) ≡ true = below q.1 r.1 (let one = ap (λ (z : ℕ × ℕ). z.1) same in omega arith) in
        ap (λ z. comes_before z (q ∷ n)) f ∙ ap (λ o. is_lt (ordering_then o (simplex_cmp (seconds t) (seconds n)))) (nat_cmp_total.antisymm r.1 q.1 ∙ ap ordering_reverse (less_is (nat_cmp q.1 r.1) less))

-- one more item of a list
pub item_in : {X : Type 0} (xs : List X) (i : ℕ) (d x : X) → i < length xs → In x (take (i + 1) xs) → In x (take i xs) ⊎ (x ≡ get_or xs i d)
item_in xs i d x h j = elim (in_either x (take i xs) (get_or xs i d ∷ []) (subst (λ l. In x l) (take_more xs i d h) j)) [
  | inl k ↦ inl k
  | inr k ↦ elim (cases k) [ inl e ↦ inr e | inr n ↦ absurd (none x n) ]
]
