-- Blocks of an increasing list.
use Rattle.std.proofs.Common.{◌≡◌, ℕ, zero, suc, ◌+◌, ◌-◌, ◌<◌, ◌≤◌, Bool, true, false, ◌&&◌, List, [], ◌∷◌, ◌++◌, length, take, drop, set, get_or, Ok, Err, refl, sym, ap, ◌∙◌, subst, inl, inr, arith, add-one, append-nil, append_assoc, length-append, length-drop, get_or-set_same}
use mathlib.Core.Bool.{true≢false}
use Rattle.std.specs.List.{list_all, insert, remove, slice_get}
use Rattle.std.specs.Prelude.{Some, Result, OnOk, IfOk, IfErr}
use Rattle.std.specs.List.Sorted.{IsBinarySearchResult, IsSearchInRange}
use Rattle.std.specs.Ordering.{is_lt, match_ordering, ordering_reverse}
use Rattle.std.specs.declared.cmp.Ordering.{Ordering}
use Rattle.std.specs.declared.cmp.Ordering.TheVariants.{Less, Equal, Greater}
use Rattle.std.proofs.lemmas.Cmp.{nat_list_cmp_total, tied_itself}
use Rattle.std.proofs.lemmas.List.{set_split, take_more, take_more_set, drop-set-lt, nil_from_length, length-set, take_all, get_or_read, get_or_append_left, get_or-append-add, drop_all}
use Rattle.std.proofs.lemmas.List.Edits.{remove-append_left, remove-append_right}
use Rattle.std.proofs.lemmas.List.Sorted.{searchable_from_sorted}
use Rattle.std.proofs.lemmas.Bool.{cases_lt}
use Rattle.simplex.specs.InOrder.{is_increasing, is_member, put}
use Rattle.simplex.proofs.Decided.{false_from}
use Rattle.simplex.specs.Simplex.{simplex_cmp}
use Rattle.simplex.proofs.InOrderLaws.{and_left, and_right, and_both, is_increasing-put, less_is}
use Rattle.ranked_set.proofs.SearchLaws.{exact, sorted, not_below_itself, member_from, member_at, in_place}
use Rattle.simplex.proofs.Members.{In, first, cases, none, contains_in, in_contains, all_at, all_from, in_left, in_right, in_either}
use Rattle.ranked_set.specs.Blocks.{joined, are_below, is_filled, IsRanked}

-- ---- the order
greater_from : (s t : List ℕ) → simplex_cmp t s ≡ Less → simplex_cmp s t ≡ Greater
greater_from s t h = nat_list_cmp_total.antisymm s t ∙ ap ordering_reverse h

less_from : (s t : List ℕ) → simplex_cmp t s ≡ Greater → simplex_cmp s t ≡ Less
less_from s t h = nat_list_cmp_total.antisymm s t ∙ ap ordering_reverse h

below_trans : (s t u : List ℕ) → is_lt (simplex_cmp s t) ≡ true → is_lt (simplex_cmp t u) ≡ true → is_lt (simplex_cmp s u) ≡ true
below_trans s t u h k = ap is_lt (nat_list_cmp_total.trans s t u (less_is _ h) (less_is _ k))

-- ---- parts of an increasing list
pub rising_left : (xs ys : List (List ℕ)) → is_increasing simplex_cmp (xs ++ ys) ≡ true → is_increasing simplex_cmp xs ≡ true
rising_left [] ys h = refl
rising_left (x ∷ xs) ys h =
    and_both _ _ (all_from (λ y. is_lt (simplex_cmp x y)) xs (λ y i. all_at (λ y. is_lt (simplex_cmp x y)) y (xs ++ ys) (and_left _ _ h) (in_left y xs ys i)))
    (rising_left xs ys (and_right (list_all (λ y. is_lt (simplex_cmp x y)) (xs ++ ys)) _ h))

pub rising_right : (xs ys : List (List ℕ)) → is_increasing simplex_cmp (xs ++ ys) ≡ true → is_increasing simplex_cmp ys ≡ true
rising_right [] ys h = h
rising_right (x ∷ xs) ys h = rising_right xs ys (and_right (list_all (λ y. is_lt (simplex_cmp x y)) (xs ++ ys)) _ h)

pub rising_between : (xs ys : List (List ℕ)) (x y : List ℕ) → is_increasing simplex_cmp (xs ++ ys) ≡ true → In x xs → In y ys → is_lt (simplex_cmp x y) ≡ true
rising_between [] ys x y h i j = absurd (none x i)
rising_between (z ∷ xs) ys x y h i j =
    elim (cases i) [
      | inl e ↦ subst (λ w. is_lt (simplex_cmp w y) ≡ true) (sym e) (all_at (λ y. is_lt (simplex_cmp z y)) y (xs ++ ys) (and_left _ _ h) (in_right y xs ys j))
      | inr k ↦ rising_between xs ys x y (and_right (list_all (λ y. is_lt (simplex_cmp z y)) (xs ++ ys)) _ h) k j
    ]

list_all-remove : {X : Type 0} (p : X → Bool) (xs : List X) (i : ℕ) → list_all p xs ≡ true → list_all p (remove xs i) ≡ true
list_all-remove p [] zero h = refl
list_all-remove p [] (suc i) h = refl
list_all-remove p (x ∷ xs) zero h = and_right (p x) _ h
list_all-remove p (x ∷ xs) (suc i) h = and_both _ _ (and_left _ _ h) (list_all-remove p xs i (and_right (p x) _ h))

pub rising_remove : (xs : List (List ℕ)) (i : ℕ) → is_increasing simplex_cmp xs ≡ true → is_increasing simplex_cmp (remove xs i) ≡ true
rising_remove [] zero h = refl
rising_remove [] (suc i) h = refl
rising_remove (x ∷ xs) zero h = and_right (list_all (λ y. is_lt (simplex_cmp x y)) xs) _ h
rising_remove (x ∷ xs) (suc i) h =
    and_both _ _ (list_all-remove (λ y. is_lt (simplex_cmp x y)) xs i (and_left _ _ h)) (rising_remove xs i (and_right (list_all (λ y. is_lt (simplex_cmp x y)) xs) _ h))

-- ---- putting a simplex into a part
pub put_past : (s : List ℕ) (xs ys : List (List ℕ)) → are_below s xs ≡ true → put simplex_cmp s (xs ++ ys) ≡ xs ++ put simplex_cmp s ys
put_past s [] ys h = refl
put_past s (x ∷ xs) ys h =
    ap (λ r. match_ordering r (s ∷ x ∷ (xs ++ ys)) (x ∷ (xs ++ ys)) (x ∷ put simplex_cmp s (xs ++ ys))) (greater_from s x (less_is _ (and_left _ _ h)))
    ∙ ap (λ l. x ∷ l) (put_past s xs ys (and_right (is_lt (simplex_cmp x s)) _ h))

pub put_within : (s : List ℕ) (xs ys : List (List ℕ)) → are_below s xs ≡ false → put simplex_cmp s (xs ++ ys) ≡ put simplex_cmp s xs ++ ys
put_within s [] ys h = absurd (true≢false h)
put_within s (x ∷ xs) ys h =
    elim (simplex_cmp s x) as (λ r. simplex_cmp s x ≡ r → match_ordering r (s ∷ x ∷ (xs ++ ys)) (x ∷ (xs ++ ys)) (x ∷ put simplex_cmp s (xs ++ ys)) ≡ match_ordering r (s ∷ x ∷ xs) (x ∷ xs) (x ∷ put simplex_cmp s xs) ++ ys) [
      | Less ↦ λ e. refl
      | Equal ↦ λ e. refl
      | Greater ↦ λ e. ap (λ l. x ∷ l) (put_within s xs ys (sym (ap (λ r. is_lt r && are_below s xs) (less_from x s e)) ∙ h))
    ] refl

pub put_filled : (s : List ℕ) (xs : List (List ℕ)) → is_filled (put simplex_cmp s xs) ≡ true
put_filled s [] = refl
put_filled s (x ∷ xs) = elim (simplex_cmp s x) as (λ r. is_filled (match_ordering r (s ∷ x ∷ xs) (x ∷ xs) (x ∷ put simplex_cmp s xs)) ≡ true) [ Less ↦ refl | Equal ↦ refl | Greater ↦ refl ]

-- ---- binary search
insert_here : (s : List ℕ) (xs : List (List ℕ)) (k : ℕ) → k ≤ length xs → ((j : ℕ) (d : List ℕ) → j < k → simplex_cmp (get_or xs j d) s ≡ Less) → ((j : ℕ) (d : List ℕ) → k ≤ j → j < length xs → simplex_cmp (get_or xs j d) s ≡ Greater) → insert xs k s ≡ put simplex_cmp s xs
insert_here s [] zero l b a = refl
insert_here s [] (suc k) l b a = absurd (omega (arith, l))
insert_here s (x ∷ xs) zero l b a = sym (ap (λ r. match_ordering r (s ∷ x ∷ xs) (x ∷ xs) (x ∷ put simplex_cmp s xs)) (less_from s x (a zero [] (omega arith) (omega arith))))
insert_here s (x ∷ xs) (suc k) l b a =
    let r = insert_here s xs k (omega (arith, l)) (λ j d h. b (suc j) d (omega (arith, h))) (λ j d h m. a (suc j) d (omega (arith, h)) (omega (arith, m))) in
    ap (λ t. x ∷ t) r ∙ sym (ap (λ r. match_ordering r (s ∷ x ∷ xs) (x ∷ xs) (x ∷ put simplex_cmp s xs)) (greater_from s x (b zero [] (omega arith))))

pub placed : (s : List ℕ) (xs : List (List ℕ)) (k : ℕ) → is_increasing simplex_cmp xs ≡ true → k ≤ length xs → IsBinarySearchResult (λ y. simplex_cmp y s) xs (Err k) → insert xs k s ≡ put simplex_cmp s xs
placed s xs k up l h =
    let parts = h (searchable_from_sorted nat_list_cmp_total (λ x. x) xs s (sorted xs up)) in
    insert_here s xs k l (λ j d n. parts.0 j d (omega arith) n) (λ j d n m. parts.1 j d n m)

below_head : (x y : List ℕ) (xs : List (List ℕ)) → is_increasing simplex_cmp (x ∷ xs) ≡ true → In y xs → simplex_cmp y x ≡ Greater
below_head x y xs h i = greater_from y x (less_is _ (all_at (λ z. is_lt (simplex_cmp x z)) y xs (and_left _ _ h) i))

pub put_there : (s : List ℕ) (xs : List (List ℕ)) → is_increasing simplex_cmp xs ≡ true → In s xs → put simplex_cmp s xs ≡ xs
put_there s [] h i = absurd (none s i)
put_there s (x ∷ xs) h i =
    elim (cases i) [
      | inl e ↦ ap (λ r. match_ordering r (s ∷ x ∷ xs) (x ∷ xs) (x ∷ put simplex_cmp s xs)) (ap (λ y. simplex_cmp s y) (sym e) ∙ tied_itself nat_list_cmp_total s)
      | inr j ↦ ap (λ r. match_ordering r (s ∷ x ∷ xs) (x ∷ xs) (x ∷ put simplex_cmp s xs)) (below_head x s xs h j) ∙ ap (λ t. x ∷ t) (put_there s xs (and_right (list_all (λ z. is_lt (simplex_cmp x z)) xs) _ h) j)
    ]

-- ---- blocks
pub joined-append : {X : Type 0} (xs ys : List (List X)) → joined (xs ++ ys) ≡ joined xs ++ joined ys
joined-append [] ys = refl
joined-append (x ∷ xs) ys = ap (λ l. x ++ l) (joined-append xs ys) ∙ sym (append_assoc x (joined xs) (joined ys))

pub joined_at : {X : Type 0} (bs : List (List X)) (k : ℕ) → k < length bs → joined bs ≡ joined (take k bs) ++ (get_or bs k [] ++ joined (drop (suc k) bs))
joined_at [] k h = absurd (omega arith)
joined_at (b ∷ bs) zero h = refl
joined_at (b ∷ bs) (suc k) h = ap (λ l. b ++ l) (joined_at bs k (omega arith)) ∙ sym (append_assoc b (joined (take k bs)) (get_or bs k [] ++ joined (drop (suc k) bs)))

pub joined-set : {X : Type 0} (bs : List (List X)) (k : ℕ) (b : List X) → k < length bs → joined (set bs k b) ≡ joined (take k bs) ++ (b ++ joined (drop (suc k) bs))
joined-set bs k b h = ap joined (set_split bs k b h) ∙ joined-append (take k bs) (b ∷ drop (suc k) bs)

pub joined_more : {X : Type 0} (bs : List (List X)) (k : ℕ) → k < length bs → joined (take (suc k) bs) ≡ joined (take k bs) ++ get_or bs k []
joined_more [] k h = absurd (omega arith)
joined_more (b ∷ bs) zero h = append-nil b
joined_more (b ∷ bs) (suc k) h = ap (λ l. b ++ l) (joined_more bs k (omega arith)) ∙ sym (append_assoc b (joined (take k bs)) (get_or bs k []))

filled_at : {X : Type 0} (bs : List (List X)) (k : ℕ) → k < length bs → list_all is_filled bs ≡ true → is_filled (get_or bs k []) ≡ true
filled_at [] k h f = absurd (omega arith)
filled_at (b ∷ bs) zero h f = and_left _ _ f
filled_at (b ∷ bs) (suc k) h f = filled_at bs k (omega arith) (and_right (is_filled b) _ f)

filled-set : {X : Type 0} (bs : List (List X)) (k : ℕ) (b : List X) → list_all is_filled bs ≡ true → is_filled b ≡ true → list_all is_filled (set bs k b) ≡ true
filled-set [] k b f g = refl
filled-set (c ∷ bs) zero b f g = and_both _ _ g (and_right (is_filled c) _ f)
filled-set (c ∷ bs) (suc k) b f g = and_both _ _ (and_left _ _ f) (filled-set bs k b (and_right (is_filled c) _ f) g)

filled-insert : {X : Type 0} (bs : List (List X)) (k : ℕ) (b : List X) → list_all is_filled bs ≡ true → is_filled b ≡ true → list_all is_filled (insert bs k b) ≡ true
filled-insert [] zero b f g = and_both _ _ g refl
filled-insert [] (suc k) b f g = and_both _ _ g refl
filled-insert (c ∷ bs) zero b f g = and_both _ _ g f
filled-insert (c ∷ bs) (suc k) b f g = and_both _ _ (and_left _ _ f) (filled-insert bs k b (and_right (is_filled c) _ f) g)

some_member : {X : Type 0} (xs : List X) → is_filled xs ≡ true → (x : X) × In x xs
some_member [] h = absurd (true≢false (sym h))
some_member (x ∷ xs) h = (x, first)

pub block_rising : (bs : List (List (List ℕ))) (k : ℕ) → k < length bs → IsRanked bs → is_increasing simplex_cmp (get_or bs k []) ≡ true
block_rising bs k h r =
    rising_left (get_or bs k []) (joined (drop (suc k) bs)) (rising_right (joined (take k bs)) _ (sym (ap (is_increasing simplex_cmp) (joined_at bs k h)) ∙ r.rising))

-- what stands before the block that a simplex belongs in is below it
front_below : (s : List ℕ) (bs : List (List (List ℕ))) (k : ℕ) → k < length bs → IsRanked bs → ((j : ℕ) → j + 1 ≡ k → are_below s (get_or bs j []) ≡ true) → are_below s (joined (take k bs)) ≡ true
front_below s bs zero h r f = refl
front_below s bs (suc k) h r f =
    let near : are_below s (get_or bs k []) ≡ true = f k (omega arith) in
    let some = some_member (get_or bs k []) (filled_at bs k (omega arith) (r.filled (omega (arith, h)))) in
    let up : is_increasing simplex_cmp (joined (take k bs) ++ (get_or bs k [] ++ joined (drop (suc k) bs))) ≡ true = sym (ap (is_increasing simplex_cmp) (joined_at bs k (omega arith))) ∙ r.rising in
    all_from (λ t. is_lt (simplex_cmp t s)) (joined (take (suc k) bs)) (λ t i. elim (in_either t (joined (take k bs)) (get_or bs k []) (subst (λ l. In t l) (joined_more bs k (omega arith)) i)) [
      | inl j ↦ below_trans t some.0 s (rising_between (joined (take k bs)) _ t some.0 up j (in_left some.0 (get_or bs k []) _ some.1)) (all_at (λ t. is_lt (simplex_cmp t s)) some.0 (get_or bs k []) near some.1)
      | inr j ↦ all_at (λ t. is_lt (simplex_cmp t s)) t (get_or bs k []) near j
    ])

pub put_block : (s : List ℕ) (bs : List (List (List ℕ))) (k : ℕ) → k < length bs → IsRanked bs → ((j : ℕ) → j + 1 ≡ k → are_below s (get_or bs j []) ≡ true) → (k + 1 < length bs → are_below s (get_or bs k []) ≡ false)
    → joined (set bs k (put simplex_cmp s (get_or bs k []))) ≡ put simplex_cmp s (joined bs)
put_block s bs k h r before here =
    let front = joined (take k bs) in
    let b = get_or bs k [] in
    let back = joined (drop (suc k) bs) in
    let inner : put simplex_cmp s (b ++ back) ≡ put simplex_cmp s b ++ back =
    elim (cases_lt (suc k) (length bs)) [
      | inl m ↦ put_within s b back (here (omega arith))
      | inr m ↦ let e : back ≡ [] = ap joined (drop_all (suc k) bs m) in ap (λ l. put simplex_cmp s (b ++ l)) e ∙ ap (put simplex_cmp s) (append-nil b) ∙ sym (append-nil (put simplex_cmp s b)) ∙ ap (λ l. put simplex_cmp s b ++ l) (sym e)
    ] in
    joined-set bs k (put simplex_cmp s b) h ∙ ap (λ l. front ++ l) (sym inner) ∙ sym (put_past s front (b ++ back) (front_below s bs k h r before)) ∙ ap (put simplex_cmp s) (sym (joined_at bs k h))

-- ---- the last member
some_is : {X : Type 0} (x y : X) → Some x ≡ Some y → x ≡ y
some_is x y h = cc

below_at : (s last : List ℕ) (xs : List (List ℕ)) (k : ℕ) → suc k ≡ length xs → is_increasing simplex_cmp xs ≡ true → Some last ≡ slice_get xs k → is_lt (simplex_cmp last s) ≡ are_below s xs
below_at s last [] k e h g = absurd (omega (arith, e))
below_at s last (x ∷ []) zero e h g = ap (λ t. is_lt (simplex_cmp t s)) (some_is last x g) ∙ sym (and_end (is_lt (simplex_cmp x s)))
  where
    and_end : (v : Bool) → (v && true) ≡ v
    and_end true = refl
    and_end false = refl
below_at s last (x ∷ []) (suc k) e h g = absurd (omega (arith, e))
below_at s last (x ∷ y ∷ xs) zero e h g = absurd (omega (arith, e))
below_at s last (x ∷ y ∷ xs) (suc k) e h g =
    let up : list_all (λ z. is_lt (simplex_cmp x z)) (y ∷ xs) ≡ true = and_left _ _ h in
    let r = below_at s last (y ∷ xs) k (omega (arith, e)) (and_right (list_all (λ z. is_lt (simplex_cmp x z)) (y ∷ xs)) _ h) g in
    r ∙ under (are_below s (y ∷ xs)) (is_lt (simplex_cmp x s)) (λ t. below_trans x y s (and_left _ _ up) (and_left _ _ t))
  where
    under : (v w : Bool) → (v ≡ true → w ≡ true) → v ≡ (w && v)
    under true w f = sym (ap (λ b. b && true) (f refl))
    under false true f = refl
    under false false f = refl

pub below_last : (s last : List ℕ) (xs : List (List ℕ)) → is_increasing simplex_cmp xs ≡ true → Some last ≡ slice_get xs (length xs - 1) → is_lt (simplex_cmp last s) ≡ are_below s xs
below_last s last [] h g = absurd (no_last last g)
  where
    no_last : (x : List ℕ) → Some x ≡ slice_get {X = List ℕ} [] 0 → ⊥
    no_last x e = cc
below_last s last (x ∷ xs) h g = below_at s last (x ∷ xs) (length (x ∷ xs) - 1) (omega arith) h g

-- what a search finds is there
pub put_found : (s : List ℕ) (xs : List (List ℕ)) (k : ℕ) → is_increasing simplex_cmp xs ≡ true → k < length xs → IsBinarySearchResult (λ y. simplex_cmp y s) xs (Ok k) → put simplex_cmp s xs ≡ xs
put_found s xs k up l h = put_there s xs up (contains_in xs s (k, l, exact (get_or xs k s) s (h s)))

-- where a search ends
absent : (s : List ℕ) (xs : List (List ℕ)) (k : ℕ) → is_increasing simplex_cmp xs ≡ true → IsBinarySearchResult (λ y. simplex_cmp y s) xs (Err k) → In s xs → ⊥
absent s xs k up h i =
    let parts = h (searchable_from_sorted nat_list_cmp_total (λ x. x) xs s (sorted xs up)) in
    let at = in_contains xs s i in
    let tie : simplex_cmp (get_or xs at.0 s) s ≡ Equal = ap (λ x. simplex_cmp x s) at.2 ∙ tied_itself nat_list_cmp_total s in
    elim (cases_lt at.0 k) [
      | inl l ↦ not_less (simplex_cmp (get_or xs at.0 s) s) (parts.0 at.0 s (omega arith) l) tie
      | inr l ↦ not_greater (simplex_cmp (get_or xs at.0 s) s) (parts.1 at.0 s l at.1) tie
    ]
  where
    not_less : (r : Ordering) → r ≡ Less → r ≡ Equal → ⊥
    not_less r e f = cc

    not_greater : (r : Ordering) → r ≡ Greater → r ≡ Equal → ⊥
    not_greater r e f = cc

module _ (s : List ℕ) (xs : List (List ℕ)) (up : is_increasing simplex_cmp xs ≡ true) where
  pub search_here : (r : Result ℕ ℕ) → IsSearchInRange r (length xs) → IsBinarySearchResult (λ y. simplex_cmp y s) xs r → IfErr r (λ k. insert xs k s ≡ put simplex_cmp s xs)
  search_here (Ok k) l h = tt
  search_here (Err k) l h = placed s xs k up l h

  pub search_absent : (r : Result ℕ ℕ) → IsBinarySearchResult (λ y. simplex_cmp y s) xs r → IfErr r (λ k. is_member simplex_cmp s xs ≡ false)
  search_absent (Ok k) h = tt
  search_absent (Err k) h = false_from (is_member simplex_cmp s xs) (λ t. absent s xs k up h (member_at s xs t))

  pub search_there : (r : Result ℕ ℕ) → IsBinarySearchResult (λ y. simplex_cmp y s) xs r → IfOk r (λ k. get_or xs k [] ≡ s)
  search_there (Ok k) h = exact (get_or xs k []) s (h [])
  search_there (Err k) h = tt

  pub search_found : (r : Result ℕ ℕ) → IsSearchInRange r (length xs) → IsBinarySearchResult (λ y. simplex_cmp y s) xs r → IfOk r (λ k. xs ≡ put simplex_cmp s xs)
  search_found (Ok k) l h = sym (put_found s xs k up l h)
  search_found (Err k) l h = tt

-- ---- the block of a member
pub member_here : (s : List ℕ) (bs : List (List (List ℕ))) (k : ℕ) → k < length bs → IsRanked bs → ((j : ℕ) → j + 1 ≡ k → are_below s (get_or bs j []) ≡ true) → (k + 1 < length bs → are_below s (get_or bs k []) ≡ false)
    → In s (joined bs) → In s (get_or bs k [])
member_here s bs k h r before here i =
    let front = joined (take k bs) in
    let b = get_or bs k [] in
    let back = joined (drop (suc k) bs) in
    let up : is_increasing simplex_cmp (front ++ (b ++ back)) ≡ true = sym (ap (is_increasing simplex_cmp) (joined_at bs k h)) ∙ r.rising in
    elim (in_either s front (b ++ back) (subst (λ l. In s l) (joined_at bs k h) i)) [
      | inl j ↦ absurd (not_below_itself s (all_at (λ t. is_lt (simplex_cmp t s)) s front (front_below s bs k h r before) j))
      | inr j ↦ elim (in_either s b back j) [
        | inl m ↦ m
        | inr m ↦
            let below : are_below s b ≡ true = all_from (λ t. is_lt (simplex_cmp t s)) b (λ t n. rising_between b back t s (rising_right front (b ++ back) up) n m) in
            elim (cases_lt (suc k) (length bs)) [
              | inl n ↦ absurd (true≢false (sym below ∙ here (omega arith)))
              | inr n ↦ absurd (none s (subst (λ l. In s l) (ap joined (drop_all (suc k) bs n)) m))
            ]
      ]
    ]

pub none_there : (s : List ℕ) (bs : List (List (List ℕ))) (k : ℕ) → k < length bs → IsRanked bs → ((j : ℕ) → j + 1 ≡ k → are_below s (get_or bs j []) ≡ true) → (k + 1 < length bs → are_below s (get_or bs k []) ≡ false)
    → (b : List (List ℕ)) → b ≡ get_or bs k b → is_member simplex_cmp s b ≡ false → is_member simplex_cmp s (joined bs) ≡ false
none_there s bs k h r before here b e n =
    false_from (is_member simplex_cmp s (joined bs)) (λ t.
    true≢false (sym (member_from s b (subst (λ l. In s l) (sym (get_or_read bs k b h e [])) (member_here s bs k h r before here (member_at s (joined bs) t)))) ∙ n))

-- one block more before the place
pub place_more : {X : Type 0} (bs : List (List X)) (k : ℕ) (b : List X) (place inner n : ℕ) → k < length bs → b ≡ get_or bs k b → n ≡ length b → n ≤ inner → place ≡ length (joined (take k bs)) + inner → place ≡ length (joined (take (k + 1) bs)) + (inner - n)
place_more bs k b place inner n h e f l p =
    let d = get_or_read bs k b h e [] in
    let m : length (joined (take (k + 1) bs)) ≡ length (joined (take k bs)) + length b =
    ap (λ j. length (joined (take j bs))) (add-one k) ∙ ap length (joined_more bs k h) ∙ length-append (joined (take k bs)) (get_or bs k []) ∙ ap (λ x. length (joined (take k bs)) + length x) (sym d) in
    omega arith

-- ---- a block cut in two
nothing_after : {X : Type 0} (xs : List X) → xs ++ [] ≡ xs
nothing_after xs = append-nil xs

pub cut_is : {X : Type 0} (inside now : List (List X)) (k : ℕ) (b lower upper : List X) → inside ≡ now → k < length now → b ≡ get_or inside k b → lower ++ upper ≡ b → joined (insert (set inside k lower) (k + 1) upper) ≡ joined now
cut_is inside now k b lower upper e h g m =
    let h : k < length inside = subst (λ xs. k < length xs) (sym e) h in
    let front = joined (take k inside) in
    let back = joined (drop (suc k) inside) in
    let first : take (k + 1) (set inside k lower) ≡ take k inside ++ lower ∷ [] = take_more_set inside k lower h in
    let second : drop (k + 1) (set inside k lower) ≡ drop (suc k) inside = drop-set-lt (k + 1) inside k lower (omega arith) ∙ ap (λ j. drop j inside) (add-one k) in
    joined-append (take (k + 1) (set inside k lower)) (upper ∷ drop (k + 1) (set inside k lower))
    ∙ ap (λ xs. joined xs ++ (upper ++ joined (drop (k + 1) (set inside k lower)))) first
    ∙ ap (λ xs. joined (take k inside ++ lower ∷ []) ++ (upper ++ joined xs)) second
    ∙ ap (λ xs. xs ++ (upper ++ back)) (joined-append (take k inside) (lower ∷ []) ∙ ap (λ xs. front ++ xs) (append-nil lower))
    ∙ append_assoc front lower (upper ++ back)
    ∙ ap (λ xs. front ++ xs) (sym (append_assoc lower upper back) ∙ ap (λ xs. xs ++ back) (m ∙ get_or_read inside k b h g []))
    ∙ sym (joined_at inside k h)
    ∙ ap joined e

filled_all : {X : Type 0} (bs : List (List X)) (k : ℕ) → k < length bs → is_filled (get_or bs k []) ≡ true → (1 < length bs → list_all is_filled bs ≡ true) → list_all is_filled bs ≡ true
filled_all [] k h f g = refl
filled_all (b ∷ []) zero h f g = and_both _ _ f refl
filled_all (b ∷ []) (suc k) h f g = absurd (omega (arith, h))
filled_all (b ∷ c ∷ bs) k h f g = g (omega arith)

pub cut_ranked : (inside now : List (List (List ℕ))) (k : ℕ) (b lower upper : List (List ℕ)) → inside ≡ now → k < length now → b ≡ get_or inside k b → lower ++ upper ≡ b → is_filled lower ≡ true → is_filled upper ≡ true → IsRanked now → IsRanked (insert (set inside k lower) (k + 1) upper)
cut_ranked inside now k b lower upper e h g m l u r =
    let at : k < length inside = subst (λ xs. k < length xs) (sym e) h in
    let whole : is_filled (get_or inside k []) ≡ true = ap is_filled (sym (get_or_read inside k b at g []) ∙ sym m) ∙ front_filled lower upper l in
    record {
      rising = ap (is_increasing simplex_cmp) (cut_is inside now k b lower upper e h g m) ∙ r.rising;
      filled = λ n. filled-insert (set inside k lower) (k + 1) upper (filled-set inside k lower (filled_all inside k at whole (λ n. ap (list_all is_filled) e ∙ r.filled (subst (λ xs. 1 < length xs) e n))) l) u;
    }
  where
    front_filled : (xs ys : List (List ℕ)) → is_filled xs ≡ true → is_filled (xs ++ ys) ≡ true
    front_filled [] ys h = absurd (true≢false (sym h))
    front_filled (x ∷ xs) ys h = refl

-- ---- a simplex put into a block
pub record IsPut (s : List ℕ) (now seen inside : List (List (List ℕ))) (k : ℕ) (b : List (List ℕ)) : Type 0 where
  pub now_is : inside ≡ now
  pub seen_is : seen ≡ inside
  pub ranked : IsRanked now
  pub within : k < length seen
  pub before : (j : ℕ) → j + 1 ≡ k → are_below s (get_or seen j []) ≡ true
  pub here : k + 1 < length seen → are_below s (get_or seen k []) ≡ false
  pub block_is : b ≡ get_or inside k b

module _ (s : List ℕ) (now seen inside : List (List (List ℕ))) (k : ℕ) (b : List (List ℕ)) (p : IsPut s now seen inside k b) where
  pub put_within_now : k < length now
  put_within_now = subst (λ xs. k < length xs) (p.seen_is ∙ p.now_is) p.within

  pub block_now : b ≡ get_or now k []
  block_now = get_or_read inside k b (subst (λ xs. k < length xs) p.seen_is p.within) p.block_is [] ∙ ap (λ xs. get_or xs k []) p.now_is

  pub put_rising : is_increasing simplex_cmp b ≡ true
  put_rising = ap (is_increasing simplex_cmp) block_now ∙ block_rising now k put_within_now p.ranked

  pub put_is : (new : List (List ℕ)) → new ≡ put simplex_cmp s b → joined (set inside k new) ≡ put simplex_cmp s (joined now)
  put_is new e =
      let g = p.seen_is ∙ p.now_is in
      ap (λ xs. joined (set xs k new)) p.now_is ∙ ap (λ x. joined (set now k x)) (e ∙ ap (put simplex_cmp s) block_now)
      ∙ put_block s now k put_within_now p.ranked (subst (λ xs. (j : ℕ) → j + 1 ≡ k → are_below s (get_or xs j []) ≡ true) g p.before) (subst (λ xs. k + 1 < length xs → are_below s (get_or xs k []) ≡ false) g p.here)

  pub put_ranked : (new : List (List ℕ)) → new ≡ put simplex_cmp s b → IsRanked (set inside k new)
  put_ranked new e = record {
    rising = ap (is_increasing simplex_cmp) (put_is new e) ∙ is_increasing-put nat_list_cmp_total s (joined now) p.ranked.rising;
    filled = λ n. filled-set inside k new (ap (list_all is_filled) p.now_is ∙ p.ranked.filled (subst (λ xs. 1 < length xs) p.now_is (subst (λ m. 1 < m) (length-set inside k new) n))) (ap is_filled e ∙ put_filled s b);
  }

-- ---- a member taken out of a block
pub record IsTaken (now seen inside : List (List (List ℕ))) (k inner place : ℕ) (b : List (List ℕ)) : Type 0 where
  pub now_is : inside ≡ now
  pub seen_is : seen ≡ inside
  pub ranked : IsRanked now
  pub within : k < length seen
  pub inner_within : inner < length (get_or seen k [])
  pub sum : place ≡ length (joined (take k seen)) + inner
  pub block_is : b ≡ get_or inside k b

module _ (now seen inside : List (List (List ℕ))) (k inner place : ℕ) (b : List (List ℕ)) (p : IsTaken now seen inside k inner place b) where
  pub taken_within : k < length now
  taken_within = subst (λ xs. k < length xs) (p.seen_is ∙ p.now_is) p.within

  pub taken_block : b ≡ get_or now k []
  taken_block = get_or_read inside k b (subst (λ xs. k < length xs) p.seen_is p.within) p.block_is [] ∙ ap (λ xs. get_or xs k []) p.now_is

  pub taken_inner : inner < length b
  taken_inner = subst (λ xs. inner < length xs) (ap (λ xs. get_or xs k []) (p.seen_is ∙ p.now_is) ∙ sym taken_block) p.inner_within

  front : List (List ℕ)
  front = joined (take k now)

  back : List (List ℕ)
  back = joined (drop (suc k) now)

  pub taken_sum : place ≡ length (joined (take k now)) + inner
  taken_sum = p.sum ∙ ap (λ xs. length (joined (take k xs)) + inner) (p.seen_is ∙ p.now_is)

  pub whole : joined now ≡ joined (take k now) ++ (b ++ joined (drop (suc k) now))
  whole = joined_at now k taken_within ∙ ap (λ x. joined (take k now) ++ (x ++ joined (drop (suc k) now))) (sym taken_block)

  pub taken_value : (x : List ℕ) → x ≡ get_or b inner [] → x ≡ get_or (joined now) place []
  taken_value x e =
      let at : inner < length b = taken_inner in
      e ∙ sym (get_or_append_left b (joined (drop (suc k) now)) [] inner at)
      ∙ sym (get_or-append-add (joined (take k now)) (b ++ joined (drop (suc k) now)) inner [])
      ∙ ap (λ j. get_or (joined (take k now) ++ (b ++ joined (drop (suc k) now))) j []) (sym taken_sum)
      ∙ ap (λ xs. get_or xs place []) (sym whole)

  pub taken_rest : (new : List (List ℕ)) → new ≡ remove b inner → joined (set inside k new) ≡ remove (joined now) place
  taken_rest new e =
      let f = joined (take k now) in
      let r = joined (drop (suc k) now) in
      let at : length f ≤ place = omega (arith, taken_sum) in
      let less : place - length f ≡ inner = omega (arith, taken_sum) in
      ap (λ xs. joined (set xs k new)) p.now_is ∙ joined-set now k new taken_within
      ∙ ap (λ x. f ++ (x ++ r)) e
      ∙ ap (λ x. f ++ x) (sym (remove-append_left b r inner taken_inner) ∙ ap (remove (b ++ r)) (sym less))
      ∙ sym (remove-append_right f (b ++ r) (length f) place refl at)
      ∙ ap (λ xs. remove xs place) (sym whole)

  pub taken_ranked : (new : List (List ℕ)) → new ≡ remove b inner → (1 < length (set inside k new) → length new ≡ 0 → ⊥) → IsRanked (set inside k new)
  taken_ranked new e n = record {
    rising = ap (is_increasing simplex_cmp) (taken_rest new e) ∙ rising_remove (joined now) place p.ranked.rising;
    filled = λ m. filled-set inside k new (ap (list_all is_filled) p.now_is ∙ p.ranked.filled (subst (λ xs. 1 < length xs) p.now_is (subst (λ j. 1 < j) (length-set inside k new) m))) (some_length new (n m));
  }
    where
      some_length : (xs : List (List ℕ)) → (length xs ≡ 0 → ⊥) → is_filled xs ≡ true
      some_length [] n = absurd (n refl)
      some_length (x ∷ xs) n = refl

  pub taken_rest_whole : (new : List (List ℕ)) → new ≡ remove b inner → length new ≡ 0 → joined (remove (set inside k new) k) ≡ remove (joined now) place
  taken_rest_whole new e n = gone inside k new (nil_from_length new n) ∙ taken_rest new e
    where
      gone : (bs : List (List (List ℕ))) (k : ℕ) (new : List (List ℕ)) → new ≡ [] → joined (remove (set bs k new) k) ≡ joined (set bs k new)
      gone [] zero new e = refl
      gone [] (suc k) new e = refl
      gone (c ∷ bs) zero new e = ap (λ x. x ++ joined bs) (sym e)
      gone (c ∷ bs) (suc k) new e = ap (λ x. c ++ x) (gone bs k new e)

  pub taken_ranked_whole : (new : List (List ℕ)) → new ≡ remove b inner → length new ≡ 0 → 1 < length (set inside k new) → IsRanked (remove (set inside k new) k)
  taken_ranked_whole new e n m = record {
    rising = ap (is_increasing simplex_cmp) (taken_rest_whole new e n) ∙ rising_remove (joined now) place p.ranked.rising;
    filled = λ j. kept inside k new (ap (list_all is_filled) p.now_is ∙ p.ranked.filled (subst (λ xs. 1 < length xs) p.now_is (subst (λ i. 1 < i) (length-set inside k new) m)));
  }
    where
      kept : (bs : List (List (List ℕ))) (k : ℕ) (new : List (List ℕ)) → list_all is_filled bs ≡ true → list_all is_filled (remove (set bs k new) k) ≡ true
      kept [] zero new h = refl
      kept [] (suc k) new h = refl
      kept (c ∷ bs) zero new h = and_right (is_filled c) _ h
      kept (c ∷ bs) (suc k) new h = and_both _ _ (and_left _ _ h) (kept bs k new (and_right (is_filled c) _ h))

pub on_ok : {A E : Type 0} (P Q : Type 0) (r : Result A E) → (P → Q) → OnOk r P → OnOk r Q
on_ok P Q (Ok x) f h = f h
on_ok P Q (Err e) f h = tt

-- the block that was written, read again
pub length_again : {X : Type 0} (bs : List (List X)) (k : ℕ) (new read : List X) (n : ℕ) → k < length bs → read ≡ get_or (set bs k new) k read → n ≡ length read → n ≡ length new
length_again bs k new read n h e f = f ∙ ap length (e ∙ get_or-set_same bs k new read h)

-- one block more in one piece
pub joined_next : {X : Type 0} (bs : List (List X)) (i : ℕ) (list more b next : List X) → i < length bs → b ≡ get_or bs i b → more ≡ b → list ≡ joined (take i bs) → next ≡ list ++ more → next ≡ joined (take (i + 1) bs)
joined_next bs i list more b next h e f g n =
    n ∙ ap (λ x. x ++ more) g ∙ ap (λ x. joined (take i bs) ++ x) (f ∙ get_or_read bs i b h e []) ∙ sym (joined_more bs i h) ∙ ap (λ j. joined (take j bs)) (sym (add-one i))

pub take_rest : {X : Type 0} (n : ℕ) (xs : List X) → take (length xs - n) (drop n xs) ≡ drop n xs
take_rest n xs = take_all (length xs - n) (drop n xs) (omega (arith, length-drop n xs))

-- ---- the next of an increasing list
before_next : (xs : List (List ℕ)) (i : ℕ) → is_increasing simplex_cmp xs ≡ true → i < length xs → are_below (get_or xs i []) (take i xs) ≡ true
before_next [] i h l = absurd (omega arith)
before_next (x ∷ xs) zero h l = refl
before_next (x ∷ xs) (suc i) h l =
    let below : is_lt (simplex_cmp x (get_or xs i [])) ≡ true = all_at (λ y. is_lt (simplex_cmp x y)) (get_or xs i []) xs (and_left _ _ h) (in_place xs i (get_or xs i []) (omega (arith, l)) refl) in
    and_both _ _ below (before_next xs i (and_right (list_all (λ y. is_lt (simplex_cmp x y)) xs) _ h) (omega (arith, l)))

module _ (xs now : List (List ℕ)) (i : ℕ) (s : List ℕ) (up : is_increasing simplex_cmp xs ≡ true) (l : i < length xs) (e : s ≡ get_or xs i []) (f : now ≡ take i xs) where
  next_below : are_below s (take i xs) ≡ true
  next_below = ap (λ t. are_below t (take i xs)) e ∙ before_next xs i up l

  pub next_absent : is_member simplex_cmp s now ≡ false
  next_absent = ap (is_member simplex_cmp s) f ∙ false_from (is_member simplex_cmp s (take i xs)) (λ t. not_below_itself s (all_at (λ t. is_lt (simplex_cmp t s)) s (take i xs) next_below (member_at s (take i xs) t)))

  pub next_put : put simplex_cmp s now ≡ take (i + 1) xs
  next_put =
      ap (put simplex_cmp s) (f ∙ sym (append-nil (take i xs))) ∙ put_past s (take i xs) [] next_below ∙ ap (λ t. take i xs ++ t ∷ []) e ∙ sym (take_more xs i [] l)
