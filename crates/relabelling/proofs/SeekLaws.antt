-- The search takes the images in order.
use Rattle.std.proofs.Common.{◌≡◌, ℕ, zero, suc, ◌+◌, ◌-◌, ◌≤◌, ◌<◌, Bool, true, false, not, cond, ◌||◌, List, [], ◌∷◌, ◌++◌, map, length, length-append, take, get_or, take_all, refl, sym, ap, ◌∙◌, inl, inr, arith, append_assoc, append-nil}
use Rattle.std.specs.Prelude.{Option, Some, None, is_some, unwrap_or, option_map, slice_get, ◌==◌}
use Rattle.std.specs.List.{find, filter, flat_map, zip}
use Rattle.std.specs.Option.{option_or}
use Rattle.std.proofs.lemmas.List.{take_more, map-append}
use Rattle.std.proofs.lemmas.List.Folds.{find-append}
use Rattle.simplex.specs.Simplex.{has, minus, without}
use Rattle.simplex.proofs.Members.{In, later, cases, at_head, none, from_map, from_flat_map}
use Rattle.simplex.proofs.SimplexLaws.{list_any-append}
use Rattle.simplex.proofs.Decided.{agree, equal_at, equal_from}
use Rattle.facet_set.specs.Complex.{verts}
use Rattle.relabelling.specs.Bijections.{arrangements, is_map_to, first_map}
use Rattle.relabelling.specs.Search.{makes_map, seek, branch}

-- the first answer along the list
abbrev pub first_some : {X : Type 0} → (ℕ → Option X) → List ℕ → Option X
first_some f [] = None
first_some f (x ∷ xs) = option_or (f x) (first_some f xs)

-- ---- the arrangements, by their first member
find_branches : (p : List ℕ → Bool) (k : List ℕ → List ℕ) (g : ℕ → List (List ℕ)) (xs : List ℕ) → find p (map k (flat_map g xs)) ≡ first_some (λ a. find p (map k (g a))) xs
find_branches p k g [] = refl
find_branches p k g (x ∷ xs) =
    ap (find p) (map-append k (g x) (flat_map g xs)) ∙ find-append p (map k (g x)) (map k (flat_map g xs)) ∙ ap (option_or (find p (map k (g x)))) (find_branches p k g xs)

behind : (is : List ℕ) (a : ℕ) (ts : List (List ℕ)) → map (λ t. is ++ t) (map (λ t. a ∷ t) ts) ≡ map (λ t. (is ++ a ∷ []) ++ t) ts
behind is a [] = refl
behind is a (t ∷ ts) = λ i. sym (append_assoc is (a ∷ []) t) i ∷ behind is a ts i

swap : (a b : ℕ) → (b == a) ≡ (a == b)
swap a b = agree _ _ (λ h. equal_from a b (sym (equal_at b a h))) (λ h. equal_from b a (sym (equal_at a b h)))

or_no : (v : Bool) → (v || false) ≡ v
or_no true = refl
or_no false = refl

pub has_end : (is : List ℕ) (a b : ℕ) → has (is ++ a ∷ []) b ≡ (has is b || (a == b))
has_end is a b = list_any-append (λ x. b == x) is (a ∷ []) ∙ ap (λ v. has is b || v) (or_no (b == a) ∙ swap a b)

less : (ws is : List ℕ) (a : ℕ) → without (minus ws is) a ≡ minus ws (is ++ a ∷ [])
less [] is a = refl
less (w ∷ ws) is a =
    elim (has is w) as (λ v. filter (λ b. not (a == b)) (cond (not v) (w ∷ minus ws is) (minus ws is)) ≡ cond (not (v || (a == w))) (w ∷ minus ws (is ++ a ∷ [])) (minus ws (is ++ a ∷ []))) [
      | true ↦ less ws is a
      | false ↦ elim (a == w) as (λ v. cond (not v) (w ∷ without (minus ws is) a) (without (minus ws is) a) ≡ cond (not v) (w ∷ minus ws (is ++ a ∷ [])) (minus ws (is ++ a ∷ []))) [
        | true ↦ less ws is a
        | false ↦ ap (λ l. w ∷ l) (less ws is a)
      ]
    ]
    ∙ ap (λ v. cond (not v) (w ∷ minus ws (is ++ a ∷ [])) (minus ws (is ++ a ∷ []))) (sym (has_end is a w))

skip_taken : (f : ℕ → Option (List ℕ)) (is ws : List ℕ) → first_some f (minus ws is) ≡ first_some (λ a. cond (has is a) None (f a)) ws
skip_taken f is [] = refl
skip_taken f is (w ∷ ws) =
    elim (has is w) as (λ v. first_some f (cond (not v) (w ∷ minus ws is) (minus ws is)) ≡ option_or (cond v None (f w)) (first_some (λ a. cond (has is a) None (f a)) ws)) [
      | true ↦ skip_taken f is ws
      | false ↦ ap (option_or (f w)) (skip_taken f is ws)
    ]

pub seek_step : (c d : List (List ℕ)) (is : List ℕ) → length is < length (verts c) → seek c d is ≡ first_some (branch c d is) (verts d)
seek_step c d is h =
    ap (λ n. find (makes_map c d) (map (λ t. is ++ t) (arrangements n rest))) e
    ∙ find_branches (makes_map c d) (λ t. is ++ t) (λ a. map (λ t. a ∷ t) (arrangements k (without rest a))) rest
    ∙ ap (λ (f : ℕ → Option (List ℕ)). first_some f rest) (λ i a. same a i)
    ∙ skip_taken (λ a. seek c d (is ++ a ∷ [])) is (verts d)
  where
    rest : List ℕ
    rest = minus (verts d) is

    k : ℕ
    k = length (verts c) - (length is + 1)

    e : length (verts c) - length is ≡ suc k
    e = omega arith

    same : (a : ℕ) → find (makes_map c d) (map (λ t. is ++ t) (map (λ t. a ∷ t) (arrangements k (without rest a)))) ≡ seek c d (is ++ a ∷ [])
    same a =
        ap (find (makes_map c d)) (behind is a (arrangements k (without rest a)))
        ∙ ap (λ l. find (makes_map c d) (map (λ t. (is ++ a ∷ []) ++ t) (arrangements k l))) (less (verts d) is a)
        ∙ ap (λ n. find (makes_map c d) (map (λ t. (is ++ a ∷ []) ++ t) (arrangements (length (verts c) - n) (minus (verts d) (is ++ a ∷ []))))) (sym (length-append is (a ∷ [])))

-- ---- a whole list, and lists that lead nowhere
pub seek_whole : (c d : List (List ℕ)) (is : List ℕ) → length is ≡ length (verts c) → seek c d is ≡ cond (makes_map c d is) (Some is) None
seek_whole c d is h =
    let e : length (verts c) - length is ≡ 0 = omega arith in
    ap (λ n. find (makes_map c d) (map (λ t. is ++ t) (arrangements n (minus (verts d) is)))) e ∙ ap (λ l. cond (makes_map c d l) (Some l) None) (append-nil is)

none_in : (p : List ℕ → Bool) (is : List ℕ) (ts : List (List ℕ)) → ((t : List ℕ) → p (is ++ t) ≡ false) → find p (map (λ t. is ++ t) ts) ≡ None
none_in p is [] f = refl
none_in p is (t ∷ ts) f = ap (λ v. cond v (Some (is ++ t)) (find p (map (λ t. is ++ t) ts))) (f t) ∙ none_in p is ts f

pub seek_none : (c d : List (List ℕ)) (is : List ℕ) → ((t : List ℕ) → makes_map c d (is ++ t) ≡ false) → seek c d is ≡ None
seek_none c d is f = none_in (makes_map c d) is (arrangements (length (verts c) - length is) (minus (verts d) is)) f

-- ---- from the first vertex on
all_left : (ws : List ℕ) → minus ws [] ≡ ws
all_left [] = refl
all_left (w ∷ ws) = ap (λ l. w ∷ l) (all_left ws)

as_they_are : (ts : List (List ℕ)) → map (λ t. [] ++ t) ts ≡ ts
as_they_are [] = refl
as_they_are (t ∷ ts) = ap (λ l. t ∷ l) (as_they_are ts)

pub first_kept : (p : List (ℕ × ℕ) → Bool) (f : List ℕ → List (ℕ × ℕ)) (ts : List (List ℕ)) → slice_get (filter p (map f ts)) 0 ≡ option_map f (find (λ t. p (f t)) ts)
first_kept p f [] = refl
first_kept p f (t ∷ ts) =
    elim (p (f t)) as (λ v. slice_get (cond v (f t ∷ filter p (map f ts)) (filter p (map f ts))) 0 ≡ option_map f (cond v (Some t) (find (λ t. p (f t)) ts))) [
      | true ↦ refl
      | false ↦ first_kept p f ts
    ]

pub first_sought : (c d : List (List ℕ)) → first_map c d ≡ option_map (zip (verts c)) (seek c d [])
first_sought c d =
    first_kept (is_map_to c d) (zip (verts c)) (arrangements (length (verts c)) (verts d))
    ∙ ap (λ l. option_map (zip (verts c)) (find (makes_map c d) l))
    (sym (as_they_are (arrangements (length (verts c) - 0) (minus (verts d) [])) ∙ ap (λ l. arrangements (length (verts c) - 0) l) (all_left (verts d)) ∙ ap (λ n. arrangements n (verts d)) e))
  where
    e : length (verts c) - 0 ≡ length (verts c)
    e = omega arith

-- ---- one answer after another
first_append : (f : ℕ → Option (List ℕ)) (xs ys : List ℕ) → first_some f (xs ++ ys) ≡ option_or (first_some f xs) (first_some f ys)
first_append f [] ys = refl
first_append f (x ∷ xs) ys = elim (f x) as (λ o. option_or o (first_some f (xs ++ ys)) ≡ option_or (option_or o (first_some f xs)) (first_some f ys)) [ None ↦ first_append f xs ys | Some y ↦ refl ]

pub nothing : (o : Option (List ℕ)) → is_some o ≡ false → o ≡ None
nothing None h = refl
nothing (Some x) h = cc

pub first_missed : (f : ℕ → Option (List ℕ)) (xs : List ℕ) (i a d : ℕ) → i < length xs → a ≡ get_or xs i d → first_some f (take i xs) ≡ None → is_some (f a) ≡ false → first_some f (take (i + 1) xs) ≡ None
first_missed f xs i a d h e k n =
    ap (first_some f) (take_more xs i d h ∙ ap (λ y. take i xs ++ y ∷ []) (sym e)) ∙ first_append f (take i xs) (a ∷ []) ∙ ap (λ o. option_or o (first_some f (a ∷ []))) k ∙ ap (λ o. option_or o None) (nothing (f a) n)

pub first_hit : (f : ℕ → Option (List ℕ)) (xs : List ℕ) (i a d : ℕ) → i < length xs → a ≡ get_or xs i d → first_some f (take i xs) ≡ None → is_some (f a) ≡ true → first_some f xs ≡ f a
first_hit f [] i a d h e k n = absurd (omega arith)
first_hit f (x ∷ xs) zero a d h e k n = ap (λ y. option_or (f y) (first_some f xs)) (sym e) ∙ first_of (f a) n
  where
    first_of : (o : Option (List ℕ)) → is_some o ≡ true → option_or o (first_some f xs) ≡ o
    first_of None h = cc
    first_of (Some y) h = refl
first_hit f (x ∷ xs) (suc i) a d h e k n = ap (λ o. option_or o (first_some f xs)) (missed (f x) (first_some f (take i xs)) k) ∙ first_hit f xs i a d (omega arith) e (late (f x) (first_some f (take i xs)) k) n
  where
    missed : (o u : Option (List ℕ)) → option_or o u ≡ None → o ≡ None
    missed None u h = refl
    missed (Some y) u h = h

    late : (o u : Option (List ℕ)) → option_or o u ≡ None → u ≡ None
    late None u h = h
    late (Some y) u h = cc

-- ---- what the search finds
pub seek_barred : (c d : List (List ℕ)) (is items : List ℕ) (r : Bool) → items ≡ is → (r ≡ false → (t : List ℕ) → makes_map c d (items ++ t) ≡ false) → r ≡ false → seek c d is ≡ None
seek_barred c d is items r e f n = seek_none c d is (λ t. ap (λ l. makes_map c d (l ++ t)) (sym e) ∙ f n t)

pub seek_hit : (c d : List (List ℕ)) (is items vs ws : List ℕ) (i a : ℕ) (f : Bool) → vs ≡ verts c → ws ≡ verts d → length is < length vs → i < length ws → a ≡ get_or ws i a → items ≡ is
    → first_some (branch c d items) (take i ws) ≡ None → f ≡ is_some (branch c d items a) → f ≡ true → seek c d is ≡ branch c d items a
seek_hit c d is items vs ws i a f p q h k g e n m o =
    ap (seek c d) (sym e) ∙ seek_step c d items (let l = ap length p in let u = ap length e in omega arith) ∙ ap (first_some (branch c d items)) (sym q) ∙ first_hit (branch c d items) ws i a a k g n (sym m ∙ o)

pub seek_missed : (c d : List (List ℕ)) (is items vs ws : List ℕ) (i : ℕ) → vs ≡ verts c → ws ≡ verts d → length is < length vs → length ws ≤ i → items ≡ is → first_some (branch c d items) (take i ws) ≡ None → seek c d is ≡ None
seek_missed c d is items vs ws i p q h k e n =
    ap (seek c d) (sym e) ∙ seek_step c d items (let l = ap length p in let u = ap length e in omega arith) ∙ ap (first_some (branch c d items)) (sym q ∙ sym (take_all i ws k)) ∙ n

pub found_whole : (c d : List (List ℕ)) (is items vs : List ℕ) (f : Bool) → vs ≡ verts c → items ≡ is → length is ≡ length vs → f ≡ makes_map c d items → seek c d is ≡ cond f (Some is) None
found_whole c d is items vs f p e h g = seek_whole c d is (h ∙ ap length p) ∙ ap (λ v. cond v (Some is) None) (sym (g ∙ ap (makes_map c d) e))

-- what is sought with one more image
pub branch_free : (c d : List (List ℕ)) (is next : List ℕ) (a : ℕ) → has is a ≡ false → next ≡ is ++ a ∷ [] → branch c d is a ≡ seek c d next
branch_free c d is next a h e = ap (λ v. cond v None (seek c d (is ++ a ∷ []))) h ∙ ap (seek c d) (sym e)

-- ---- what was found is a whole list
pub find_at : (p : List ℕ → Bool) (xs : List (List ℕ)) (l : List ℕ) → find p xs ≡ Some l → In l xs × (p l ≡ true)
find_at p [] l e = cc
find_at p (x ∷ xs) l e =
    elim (p x) as (λ v. p x ≡ v → cond v (Some x) (find p xs) ≡ Some l → In l (x ∷ xs) × (p l ≡ true)) [
      | true ↦ λ k g. let same : x ≡ l = cc in (at_head l x xs (sym same), ap p (sym same) ∙ k)
      | false ↦ λ k g. let r = find_at p xs l g in (later r.0, r.1)
    ] refl e

pub arrangement_length : (n : ℕ) (s t : List ℕ) → In t (arrangements n s) → length t ≡ n
arrangement_length zero s t i = elim (cases i) [ inl e ↦ ap length e | inr j ↦ absurd (none t j) ]
arrangement_length (suc n) s t i =
    let r = from_flat_map (λ a. map (λ u. a ∷ u) (arrangements n (without s a))) t s i in
    let q = from_map (λ u. r.0 ∷ u) t (arrangements n (without s r.0)) r.2 in
    ap length q.2 ∙ ap suc (arrangement_length n (without s r.0) q.0 q.1)

some_of : (o : Option (List ℕ)) → is_some o ≡ true → o ≡ Some (unwrap_or o [])
some_of None h = cc
some_of (Some l) h = refl

sought_length : (c d : List (List ℕ)) (l : List ℕ) → seek c d [] ≡ Some l → length l ≡ length (verts c)
sought_length c d l e =
    let r = find_at (makes_map c d) (map (λ t. [] ++ t) (arrangements (length (verts c) - 0) (minus (verts d) []))) l e in
    let q = from_map (λ t. [] ++ t) l (arrangements (length (verts c) - 0) (minus (verts d) [])) r.0 in
    let n = arrangement_length (length (verts c) - 0) (minus (verts d) []) q.0 q.1 in
    let same = ap length q.2 in omega arith

pub least_long : (c d : List (List ℕ)) (vs is start : List ℕ) (f : Bool) → vs ≡ verts c → start ≡ [] → f ≡ is_some (seek c d start) → f ≡ true → is ≡ unwrap_or (seek c d start) start → length is ≡ length vs
least_long c d vs is start f p z g h e =
    ap length (e ∙ ap (λ l. unwrap_or (seek c d l) l) z) ∙ sought_length c d (unwrap_or (seek c d []) []) (some_of (seek c d []) (ap (λ l. is_some (seek c d l)) (sym z) ∙ sym g ∙ h)) ∙ ap length (sym p)

pub least_found : (c d : List (List ℕ)) (vs is start : List ℕ) (ps : List (ℕ × ℕ)) (f : Bool) → vs ≡ verts c → start ≡ [] → f ≡ is_some (seek c d start) → f ≡ true → is ≡ unwrap_or (seek c d start) start → ps ≡ zip vs is
    → Some ps ≡ first_map c d
least_found c d vs is start ps f p z g h e q =
    ap Some (q ∙ ap (λ l. zip l is) p ∙ ap (zip (verts c)) (e ∙ ap (λ l. unwrap_or (seek c d l) l) z))
    ∙ ap (option_map (zip (verts c))) (sym (some_of (seek c d []) (ap (λ l. is_some (seek c d l)) (sym z) ∙ sym g ∙ h))) ∙ sym (first_sought c d)

pub least_none : (c d : List (List ℕ)) (start : List ℕ) (f : Bool) → start ≡ [] → f ≡ is_some (seek c d start) → f ≡ false → None ≡ first_map c d
least_none c d start f z g h = ap (option_map (zip (verts c))) (sym (nothing (seek c d []) (ap (λ l. is_some (seek c d l)) (sym z) ∙ sym g ∙ h))) ∙ sym (first_sought c d)

pub get_or_default : (xs : List ℕ) (i d e : ℕ) → i < length xs → get_or xs i d ≡ get_or xs i e
get_or_default [] i d e h = absurd (omega arith)
get_or_default (x ∷ xs) zero d e h = refl
get_or_default (x ∷ xs) (suc i) d e h = get_or_default xs i d e (omega arith)
