-- The greedy order, and what is kept of each facet while it grows.
use Rattle.std.proofs.Common.{◌≡◌, ℕ, zero, suc, ◌+◌, ◌-◌, add-one, ◌≤◌, ◌<◌, Bool, true, false, not, cond, ◌&&◌, ◌||◌, List, [], ◌∷◌, ◌++◌, append_assoc, length, length-append, map, take, get_or, set, length-set, get_or-set_same, get_or-set_other, Option, Some, None, refl, sym, ap, ◌∙◌, subst, ◌⊎◌, inl, inr, arith}
use mathlib.Core.Bool.{true≢false}
use Rattle.std.specs.Prelude.{◌==◌, is_none, option_to_list}
use Rattle.std.specs.List.{list_all, find}
use Rattle.std.proofs.lemmas.List.{append-nil, get_or-map, length-map, map-append, take_more}
use Rattle.simplex.specs.Simplex.{is_within, minus, without}
use Rattle.simplex.proofs.Decided.{false_at, false_from, not_true, equal_at, equal_from}
use Rattle.facet_set.specs.Complex.{is_face, stands_in}
use Rattle.facet_set.specs.Facets.{IsFacets}
use Rattle.facet_set.specs.Numbers.{is_pure}
use Rattle.simplex.proofs.Members.{In, first, later, all_at}
use Rattle.shellings.specs.declared.candidates.Candidate.{Candidate}
use Rattle.shellings.specs.Candidates.{IsSetting, IsKept, AreKept, IsNarrowed, AreNarrowed, free_labels}
use Rattle.shellings.specs.Greedy.{next_good, places}
use Rattle.shellings.specs.Laws.{GreedyIsStuck}
use Rattle.shellings.specs.Shellings.{is_good, bad_after, first_bad, is_shelling, restriction}
use Rattle.shellings.proofs.RidgeLaws.{filter-all, full-filter, good_is, most-filter, stands_from}
use Rattle.shellings.proofs.IntervalLaws.{all_more, face_more, good_new}
use Rattle.shellings.proofs.MissingLaws.{left, free_first, free_more, free_within, restriction_is}
use Rattle.shellings.proofs.CheckLaws.{IsPart, part_more, as_many, not_as_many}

-- ---- the first that passes
module _ {X : Type 0} (p : X → Bool) where
  pub find_at : (xs : List X) (i : ℕ) (d : X) → i < length xs → ((j : ℕ) → j < i → p (get_or xs j d) ≡ false) → p (get_or xs i d) ≡ true → find p xs ≡ Some (get_or xs i d)
  find_at [] i d h f e = absurd (omega arith)
  find_at (x ∷ xs) zero d h f e = ap (λ v. cond v (Some x) (find p xs)) e
  find_at (x ∷ xs) (suc i) d h f e =
      ap (λ v. cond v (Some x) (find p xs)) (f 0 (omega arith)) ∙ find_at xs i d (omega arith) (λ j l. f (suc j) (omega arith)) e

  pub find_none : (xs : List X) (d : X) → ((j : ℕ) → j < length xs → p (get_or xs j d) ≡ false) → find p xs ≡ None
  find_none [] d f = refl
  find_none (x ∷ xs) d f = ap (λ v. cond v (Some x) (find p xs)) (f 0 (omega arith)) ∙ find_none xs d (λ j l. f (suc j) (omega arith))

pub in_place : {X : Type 0} (xs : List X) (i : ℕ) (d : X) → i < length xs → In (get_or xs i d) xs
in_place [] i d h = absurd (omega arith)
in_place (x ∷ xs) zero d h = first
in_place (x ∷ xs) (suc i) d h = later (in_place xs i d (omega arith))

pub at_place : (c : List (List ℕ)) (i : ℕ) (d : List ℕ) → i < length c → stands_in c (get_or c i d) ≡ true
at_place c i d h = stands_from c (get_or c i d) (in_place c i d h)

-- ---- one facet
-- the next place is good for it exactly where its restriction, which are the labels that are not free, is no face so far
pub stands_next : (c l : List (List ℕ)) (f : List ℕ) (k : Candidate) → IsSetting c l → stands_in c f ≡ true → IsKept c l f k → not (is_face l (minus f k.free)) ≡ is_good c l f
stands_next c l f k s h kept =
    ap (λ free. not (is_face l (minus f free))) kept.free ∙ ap (λ r. not (is_face l r)) (restriction_is l f) ∙ sym (good_is c l f s.complex.simplices s.pure s.facets h)

true_more : (v w : Bool) → not v ≡ false → not (v || w) ≡ false
true_more true w h = refl
true_more false w h = absurd (true≢false h)

-- where the free labels are as before, the next place is not good again
still_bad : (c l : List (List ℕ)) (f g : List ℕ) → IsSetting c l → stands_in c f ≡ true → stands_in c g ≡ true → free_labels (l ++ g ∷ []) f ≡ free_labels l f → is_good c l f ≡ false
    → is_good c (l ++ g ∷ []) f ≡ false
still_bad c l f g s h hg e bad =
    let same : restriction (l ++ g ∷ []) f ≡ restriction l f = sym (restriction_is (l ++ g ∷ []) f) ∙ ap (minus f) e ∙ restriction_is l f in
    good_is c (l ++ g ∷ []) f s.complex.simplices s.pure (all_more (stands_in c) l g s.facets hg) h
    ∙ ap (λ r. not (is_face (l ++ g ∷ []) r)) same ∙ ap not (face_more l g (restriction l f))
    ∙ true_more (is_face l (restriction l f)) _ (sym (good_is c l f s.complex.simplices s.pure s.facets h) ∙ bad)

pub narrowed : (c l : List (List ℕ)) (f g : List ℕ) (k next : Candidate) → IsSetting c l → stands_in c f ≡ true → stands_in c g ≡ true → IsKept c l f k → IsNarrowed f g k next
    → IsKept c (l ++ g ∷ []) f next
narrowed c l f g k next s h hg kept w =
    let within : is_within k.free f ≡ true = ap (λ free. is_within free f) kept.free ∙ free_within l f in
    let free : next.free ≡ free_labels (l ++ g ∷ []) f = w.free within ∙ ap (left f g) kept.free ∙ free_more l f g in
    record {
      free = free;
      closed = λ n. let r = w.closed n in still_bad c l f g s h hg (sym free ∙ r.1 ∙ kept.free) (kept.closed r.0);
    }

-- all facets
pub all_narrowed : (c l : List (List ℕ)) (i : ℕ) (ks next : List Candidate) → IsSetting c l → i < length c → AreKept c l ks → AreNarrowed c (get_or c i []) ks next → AreKept c (l ++ get_or c i [] ∷ []) next
all_narrowed c l i ks next s h kept w = record {
  whole = w.whole ∙ kept.whole;
  each = λ j k p. narrowed c l (get_or c j []) (get_or c i []) (get_or ks j k) (get_or next j k) s (at_place c j [] p) (at_place c i [] h) (kept.each j k p) (w.each j k p);
}

-- one facet does not wait any more
pub all_closed : (c l : List (List ℕ)) (i : ℕ) (ks : List Candidate) (k r : Candidate) → AreKept c l ks → i < length c → r ≡ get_or ks i r → k.free ≡ (get_or ks i r).free → is_good c l (get_or c i []) ≡ false
    → AreKept c l (set ks i k)
all_closed c l i ks k r kept h q e bad = record {
  whole = length-set ks i k ∙ kept.whole;
  each = λ j d p. by j d p (j == i) refl;
}
  where
    by : (j : ℕ) (d : Candidate) → j < length c → (v : Bool) → (j == i) ≡ v → IsKept c l (get_or c j []) (get_or (set ks i k) j d)
    by j d p true q =
        let same : j ≡ i = equal_at j i q in
        let there : i < length ks = omega (arith, kept.whole) in
        subst (λ m. IsKept c l (get_or c m []) (get_or (set ks i k) m d)) (sym same)
        (subst (λ x. IsKept c l (get_or c i []) x) (sym (get_or-set_same ks i k d there)) (record { free = e ∙ (kept.each i r h).free; closed = λ _. bad }))
    by j d p false q = subst (λ x. IsKept c l (get_or c j []) x) (sym (get_or-set_other ks i j k d (λ s. false_at (j == i) q (equal_from j i s)))) (kept.each j d p)

-- at first all wait
pub first_kept : (c : List (List ℕ)) (f : List ℕ) → IsKept c [] f (record { free = f; waiting = true })
first_kept c f = record { free = free_first f; closed = λ n. absurd (true≢false n) }

abbrev pub starting : List ℕ → Candidate
starting f = record { free = f; waiting = true }

pub all_first : (c : List (List ℕ)) (ks : List Candidate) → ks ≡ map starting c → AreKept c [] ks
all_first c ks e = record {
  whole = ap length e ∙ length-map c starting;
  each = λ i k p. subst (λ x. IsKept c [] (get_or c i []) x) (sym (ap (λ m. get_or m i k) e ∙ get_or-map starting c i [] k p)) (first_kept c (get_or c i []));
}

pub start_more : (c : List (List ℕ)) (i : ℕ) (f : List ℕ) (ks next : List Candidate) → i < length c → f ≡ get_or c i f → ks ≡ map starting (take i c) → next ≡ ks ++ starting f ∷ [] → next ≡ map starting (take (i + 1) c)
start_more c i f ks next h e k n =
    n ∙ ap (λ m. m ++ starting f ∷ []) k ∙ sym (ap (map starting) (take_more c i f h ∙ ap (λ x. take i c ++ x ∷ []) (sym e)) ∙ map-append starting (take i c) (f ∷ []))

-- where as many labels stay free, all do
pub not_narrowed : (f g free : List ℕ) (k : Candidate) → (is_within k.free f ≡ true → free ≡ left f g k.free) → length k.free ≤ length free → IsNarrowed f g k k
not_narrowed f g free k n h = record {
  free = λ w.
      let same = ap length (n w) in
      let most = most-filter (λ a. not (is_within (without f a) g)) k.free in
      sym (filter-all (λ a. not (is_within (without f a) g)) k.free (full-filter (λ a. not (is_within (without f a) g)) k.free (omega (arith, same, most))));
  closed = λ w. (w, refl);
}

-- ---- the order
places_next : (c : List (List ℕ)) (n : ℕ) (f : List ℕ) → next_good c (places c n) ≡ Some f → places c (suc n) ≡ places c n ++ f ∷ []
places_next c n f e = ap (λ o. places c n ++ option_to_list o) e

places_end : (c : List (List ℕ)) (n : ℕ) → next_good c (places c n) ≡ None → places c (suc n) ≡ places c n
places_end c n e = ap (λ o. places c n ++ option_to_list o) e ∙ append-nil (places c n)

-- once no facet is left for a place, none comes
pub places_stay : (c : List (List ℕ)) (n m : ℕ) → next_good c (places c n) ≡ None → places c (m + n) ≡ places c n
places_stay c n zero e = let same : 0 + n ≡ n = omega arith in ap (places c) same
places_stay c n (suc m) e =
    let rest = places_stay c n m e in
    let next : suc m + n ≡ suc (m + n) = omega arith in
    ap (places c) next ∙ places_end c (m + n) (ap (next_good c) rest ∙ e) ∙ rest

-- the first n places, each of them good
pub record IsGrown (c : List (List ℕ)) (n : ℕ) (l : List (List ℕ)) : Type 0 where
  pub is : l ≡ places c n
  pub part : IsPart c l
  pub good : (rest : List (List ℕ)) → first_bad c (l ++ rest) ≡ bad_after c l rest

pub none_grown : (c : List (List ℕ)) → IsFacets c → is_pure c ≡ true → IsGrown c 0 []
none_grown c h k = record { is = refl; part = record { setting = record { complex = h; pure = k; facets = refl }; once = refl }; good = λ rest. refl }

found : {X : Type 0} (p : X → Bool) (xs : List X) (x : X) → find p xs ≡ Some x → p x ≡ true
found p [] x e = cc
found p (y ∷ xs) x e = by (p y) refl e (found p xs x)
  where
    by : (v : Bool) → p y ≡ v → cond v (Some y) (find p xs) ≡ Some x → (find p xs ≡ Some x → p x ≡ true) → p x ≡ true
    by true q k rest = let same : y ≡ x = cc in ap p (sym same) ∙ q
    by false q k rest = rest k

abbrev step_of : List (List ℕ) → List (List ℕ) → List ℕ → List (List ℕ) → Bool → Option ℕ
step_of c l f rest v = cond v (bad_after c (l ++ f ∷ []) rest) (Some (length l + 1))

pub grown_more : (c : List (List ℕ)) (n : ℕ) (l : List (List ℕ)) (f : List ℕ) → IsGrown c n l → next_good c l ≡ Some f → IsGrown c (n + 1) (l ++ f ∷ [])
grown_more c n l f k e =
    let g : is_good c l f ≡ true = found (is_good c l) c f e in
    record {
      is = sym (ap (places c) (add-one n) ∙ ap (λ m. m ++ option_to_list (next_good c m)) (sym k.is) ∙ ap (λ o. l ++ option_to_list o) e);
      part = part_more c l f k.part g;
      good = λ rest. ap (first_bad c) (append_assoc l (f ∷ []) rest) ∙ k.good (f ∷ rest) ∙ ap (step_of c l f rest) g;
    }

-- where no facet is left, these are all places
pub grown_end : (c : List (List ℕ)) (n m : ℕ) (l : List (List ℕ)) → IsGrown c n l → next_good c l ≡ None → n ≤ m → l ≡ places c m
grown_end c n m l k e h =
    let none : next_good c (places c n) ≡ None = ap (next_good c) (sym k.is) ∙ e in
    let sum : m - n + n ≡ m = omega arith in
    k.is ∙ sym (places_stay c n (m - n) none) ∙ ap (places c) sum

abbrev end_of : List (List ℕ) → Bool → Option ℕ
end_of l v = cond v None (Some (length l + 1))

pub whole_is : (c : List (List ℕ)) (n : ℕ) (l : List (List ℕ)) (w : Bool) → IsGrown c n l → w ≡ (length l == length c) → w ≡ is_shelling c l
whole_is c n l w k e = e ∙ by (length l == length c) refl ∙ sym (ap (λ v. v && is_none (first_bad c l)) k.part.setting.pure)
  where
    ends : first_bad c l ≡ end_of l (list_all (stands_in l) c)
    ends = ap (first_bad c) (sym (append-nil l)) ∙ k.good []

    by : (v : Bool) → (length l == length c) ≡ v → v ≡ is_none (first_bad c l)
    by true q = sym (ap is_none (ends ∙ ap (end_of l) (as_many c l k.part (equal_at (length l) (length c) q))))
    by false q = sym (ap is_none (ends ∙ ap (end_of l) (not_as_many c l k.part (λ s. false_at (length l == length c) q (equal_from (length l) (length c) s)))))

-- ---- the end of the order
-- where all facets stand, none can stand next
full : (c l : List (List ℕ)) → IsPart c l → length l ≡ length c → next_good c l ≡ None
full c l p e = find_none (is_good c l) c [] (λ j h.
    bad j h (all_at (stands_in l) (get_or c j []) c (as_many c l p e) (in_place c j [] h)))
  where
    bad : (j : ℕ) → j < length c → stands_in l (get_or c j []) ≡ true → is_good c l (get_or c j []) ≡ false
    bad j h k = false_from (is_good c l (get_or c j [])) (λ g. false_at (stands_in l (get_or c j [])) (not_true (stands_in l (get_or c j [])) (good_new c l (get_or c j []) g)) k)

-- after n places none can come, or there are n
pub record HasPlaces (c : List (List ℕ)) (n : ℕ) (l : List (List ℕ)) : Type 0 where
  pub grown : IsGrown c n l
  pub count : length l ≡ n

more_places : (c : List (List ℕ)) (n : ℕ) → IsFacets c → is_pure c ≡ true → (next_good c (places c n) ≡ None) ⊎ HasPlaces c n (places c n)
more_places c zero h k = inr (record { grown = none_grown c h k; count = refl })
more_places c (suc n) h k = elim (more_places c n h k) [ inl e ↦ inl (ends e) | inr g ↦ by (next_good c (places c n)) refl g ]
  where
    ends : next_good c (places c n) ≡ None → next_good c (places c (suc n)) ≡ None
    ends e = ap (next_good c) (places_end c n e) ∙ e

    by : (o : Option (List ℕ)) → next_good c (places c n) ≡ o → HasPlaces c n (places c n) → (next_good c (places c (suc n)) ≡ None) ⊎ HasPlaces c (suc n) (places c (suc n))
    by None e g = inl (ends e)
    by (Some f) e g =
        let long = length-append (places c n) (f ∷ []) in
        let count = g.count in
        let next : HasPlaces c (suc n) (places c n ++ f ∷ []) = record {
          grown = subst (λ m. IsGrown c m (places c n ++ f ∷ [])) (add-one n) (grown_more c n (places c n) f g.grown e);
          count = omega (arith, long, count);
        } in
        inr (subst (λ l. HasPlaces c (suc n) l) (sym (places_next c n f e)) next)

pub stuck_lem : GreedyIsStuck
stuck_lem c simplices complex pure =
    elim (more_places c (length c) (record { simplices = simplices; complex = complex }) pure) [
      | inl e ↦ e
      | inr g ↦ full c (places c (length c)) g.grown.part g.count
    ]
