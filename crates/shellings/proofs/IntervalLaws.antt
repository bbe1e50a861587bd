-- Each face of a shelling lies in the interval of one place.
use Rattle.std.proofs.Common.{◌≡◌, ℕ, ◌+◌, Bool, true, false, not, cond, ◌&&◌, ◌||◌, List, [], ◌∷◌, ◌++◌, append_assoc, length, Option, Some, None, refl, sym, ap, ◌∙◌, subst, inl, inr, arith}
use Rattle.std.specs.Prelude.{is_none}
use Rattle.std.specs.List.{list_all, filter}
use Rattle.std.proofs.lemmas.List.{append-nil}
use Rattle.simplex.specs.Simplex.{is_within}
use Rattle.simplex.proofs.Decided.{or_none}
use Rattle.simplex.proofs.InOrderLaws.{and_left, and_right}
use Rattle.simplex.proofs.Members.{cases, none, all_at, all_from, in_either}
use Rattle.simplex.proofs.SimplexLaws.{list_any-append}
use Rattle.facet_set.specs.Complex.{stands_in, is_face}
use Rattle.facet_set.specs.Numbers.{is_pure}
use Rattle.facet_set.proofs.ComplexLaws.{face_at, face_from}
use Rattle.shellings.specs.Shellings.{meets_in_ridges, is_good, bad_after, first_bad, is_shelling, restriction, intervals_after}
use Rattle.shellings.specs.Laws.{is_between, EachFaceInOneInterval}
use Rattle.shellings.proofs.RidgeLaws.{earlier_face, stands_at}

abbrev pub bit : Bool → ℕ
bit b = cond b 1 0

pub face_more : (l : List (List ℕ)) (f s : List ℕ) → is_face (l ++ f ∷ []) s ≡ (is_face l s || is_within s f)
face_more l f s = list_any-append (is_within s) l (f ∷ []) ∙ ap (λ v. is_face l s || v) (or_none (is_within s f) false refl)

-- ---- one place after another
pub record GoesOn (c earlier : List (List ℕ)) (f : List ℕ) (rest : List (List ℕ)) : Type 0 where
  pub good : is_good c earlier f ≡ true
  pub after : bad_after c (earlier ++ f ∷ []) rest ≡ None

pub goes_on : (c earlier : List (List ℕ)) (f : List ℕ) (rest : List (List ℕ)) → bad_after c earlier (f ∷ rest) ≡ None → GoesOn c earlier f rest
goes_on c earlier f rest h = by (is_good c earlier f) refl h
  where
    by : (v : Bool) → is_good c earlier f ≡ v → cond v (bad_after c (earlier ++ f ∷ []) rest) (Some (length earlier + 1)) ≡ None → GoesOn c earlier f rest
    by true e k = record { good = e; after = k }
    by false e k = cc

pub good_facet : (c l : List (List ℕ)) (f : List ℕ) → is_good c l f ≡ true → stands_in c f ≡ true
good_facet c l f h = and_left (stands_in c f) (not (stands_in l f)) (and_left (stands_in c f && not (stands_in l f)) (meets_in_ridges l f) h)

pub good_new : (c l : List (List ℕ)) (f : List ℕ) → is_good c l f ≡ true → not (stands_in l f) ≡ true
good_new c l f h = and_right (stands_in c f) (not (stands_in l f)) (and_left (stands_in c f && not (stands_in l f)) (meets_in_ridges l f) h)

pub good_meets : (c l : List (List ℕ)) (f : List ℕ) → is_good c l f ≡ true → meets_in_ridges l f ≡ true
good_meets c l f h = and_right (stands_in c f && not (stands_in l f)) (meets_in_ridges l f) h

-- the members of a shelling are the facets
pub has_all : (c earlier rest : List (List ℕ)) → bad_after c earlier rest ≡ None → list_all (stands_in (earlier ++ rest)) c ≡ true
has_all c earlier [] h = ap (λ l. list_all (stands_in l) c) (append-nil earlier) ∙ by (list_all (stands_in earlier) c) refl h
  where
    by : (v : Bool) → list_all (stands_in earlier) c ≡ v → cond v None (Some (length earlier + 1)) ≡ None → list_all (stands_in earlier) c ≡ true
    by true e k = e
    by false e k = cc
has_all c earlier (f ∷ rest) h =
    ap (λ l. list_all (stands_in l) c) (sym (append_assoc earlier (f ∷ []) rest)) ∙ has_all c (earlier ++ f ∷ []) rest (goes_on c earlier f rest h).after

pub all_more : (p : List ℕ → Bool) (l : List (List ℕ)) (f : List ℕ) → list_all p l ≡ true → p f ≡ true → list_all p (l ++ f ∷ []) ≡ true
all_more p l f h k = all_from p (l ++ f ∷ []) (λ s i. elim (in_either s l (f ∷ []) i) [ inl j ↦ all_at p s l h j | inr j ↦ elim (cases j) [ inl e ↦ ap p e ∙ k | inr n ↦ absurd (none s n) ] ])

pub all_facets : (c earlier rest : List (List ℕ)) → list_all (stands_in c) earlier ≡ true → bad_after c earlier rest ≡ None → list_all (stands_in c) (earlier ++ rest) ≡ true
all_facets c earlier [] k h = ap (list_all (stands_in c)) (append-nil earlier) ∙ k
all_facets c earlier (f ∷ rest) k h =
    let g = goes_on c earlier f rest h in
    ap (list_all (stands_in c)) (sym (append_assoc earlier (f ∷ []) rest)) ∙ all_facets c (earlier ++ f ∷ []) rest (all_more (stands_in c) earlier f k (good_facet c earlier f g.good)) g.after

-- ---- intervals
-- the interval of a good place holds just the subsets of the facet that are no faces so far
pub between_is : (l : List (List ℕ)) (f s : List ℕ) → meets_in_ridges l f ≡ true → is_between s (restriction l f, f) ≡ (is_within s f && not (is_face l s))
between_is l f s m = by (is_within s f) refl
  where
    last : (v : Bool) → (v && true) ≡ not (not v)
    last true = refl
    last false = refl

    out : (v : Bool) → (v && false) ≡ false
    out true = refl
    out false = refl

    by : (w : Bool) → is_within s f ≡ w → (is_within (restriction l f) s && w) ≡ (w && not (is_face l s))
    by true e = last (is_within (restriction l f) s) ∙ ap not (sym (earlier_face l f s m e))
    by false e = out (is_within (restriction l f) s)

-- how many intervals hold a set is one more where it becomes a face
pub counted : (c : List (List ℕ)) (s : List ℕ) (earlier rest : List (List ℕ)) → bad_after c earlier rest ≡ None
    → length (filter (is_between s) (intervals_after earlier rest)) + bit (is_face earlier s) ≡ bit (is_face (earlier ++ rest) s)
counted c s earlier [] h = let e = ap (λ l. bit (is_face l s)) (append-nil earlier) in omega (arith, e)
counted c s earlier (f ∷ rest) h =
    let g = goes_on c earlier f rest h in
    subst (λ v. length (cond v ((restriction earlier f, f) ∷ L) L) + bit (is_face earlier s) ≡ bit (is_face (earlier ++ f ∷ rest) s)) (sym (between_is earlier f s (good_meets c earlier f g.good)))
    (by (is_within s f) (is_face earlier s)
    (subst (λ v. length L + bit v ≡ bit (is_face (earlier ++ f ∷ rest) s)) (face_more earlier f s)
    (counted c s (earlier ++ f ∷ []) rest g.after ∙ ap (λ l. bit (is_face l s)) (append_assoc earlier (f ∷ []) rest))))
  where
    L : List (List ℕ × List ℕ)
    L = filter (is_between s) (intervals_after (earlier ++ f ∷ []) rest)

    by : (w u : Bool) → length L + bit (u || w) ≡ bit (is_face (earlier ++ f ∷ rest) s)
        → length (cond (w && not u) ((restriction earlier f, f) ∷ L) L) + bit u ≡ bit (is_face (earlier ++ f ∷ rest) s)
    by true true e = e
    by true false e = omega (arith, e)
    by false true e = e
    by false false e = e

-- ---- a shelling
pub none_bad : (o : Option ℕ) → is_none o ≡ true → o ≡ None
none_bad None h = refl
none_bad (Some n) h = cc

pub shells : (c l : List (List ℕ)) → is_shelling c l ≡ true → first_bad c l ≡ None
shells c l h = none_bad (first_bad c l) (and_right (is_pure c) (is_none (first_bad c l)) h)

pub each_face_lem : EachFaceInOneInterval
each_face_lem c l s simplices h simplex face =
    let k = shells c l h in
    let r = face_at c s face in
    let there : is_face l s ≡ true = face_from l s r.0 (stands_at l r.0 (all_at (stands_in l) r.0 c (has_all c [] l k) r.1)) r.2 in
    let n = counted c s [] l k in
    let one = ap bit there in
    omega (arith, n, one)
