-- Names, their places and their sums.
use Rattle.std.proofs.Common.{◌≡◌, ◌≤◌, ℕ, suc, ◌+◌, ◌-◌, ◌^◌, min, Bool, true, false, cond, ◌||◌, List, [], ◌∷◌, ◌++◌, length, get_or, Option, Some, None, refl, sym, ap, ◌∙◌, subst, arith}
use Rattle.std.proofs.Math.ListN.{set}
use Rattle.std.specs.Option.{MatchOption}
use Rattle.std.specs.List.{sum_by, position_from}
use Rattle.std.proofs.lemmas.List.Sums.{sum_by-cons}
use Rattle.std.proofs.lemmas.Slice.Eq.{bytes_eq-Decides}
use Rattle.plain_text.specs.Bytes.{is_text}
use Rattle.facet_set.specs.Numbers.{weight, weight_limit}
use Rattle.simplex.proofs.Decided.{neither}
use Rattle.shell_names.specs.Limits.{journal_limit}
use Rattle.shell_names.specs.State.{Complex, Named, State, named, assign, edited, undone, redone, holds, entry, present, put_entry, total_weight, journal, journal_of}
use Rattle.shell_names.specs.Sums.{AreSums, StandsAt}

pub text_is : (x y : List ℕ) → is_text x y ≡ true → x ≡ y
text_is x y h = (bytes_eq-Decides x y).0 h

pub text_same : (x y : List ℕ) → x ≡ y → is_text x y ≡ true
text_same x y h = (bytes_eq-Decides x y).1 h

named_by : (n : Named) (m : Named) (x : List ℕ) (b : Bool) → is_text n.name x ≡ b → m.name ≡ x → (cond b n m).name ≡ x
named_by n m x true h k = text_is n.name x h
named_by n m x false h k = k

-- what a name has is named so
pub entry_name : (s : State) (x : List ℕ) → (entry s x).name ≡ x
entry_name [] x = refl
entry_name (n ∷ s) x = named_by n (entry s x) x (is_text n.name x) refl (entry_name s x)

-- what is put comes in place of the first name, or behind it
put_by : (n : Named) (s : State) (x : List ℕ) (e : Named) (b : Bool) → e.name ≡ x → is_text n.name x ≡ b → put_entry e (n ∷ s) ≡ cond b (e ∷ s) (n ∷ put_entry e s)
put_by n s x e b k h = ap (λ (c : Bool). cond c (e ∷ s) (n ∷ put_entry e s)) (ap (is_text n.name) k ∙ h)

here : (n : Named) (s : State) (x : List ℕ) → is_text n.name x ≡ true → StandsAt (n ∷ s) x 0
here n s x h = record {
  held = rw h refl;
  within = omega arith;
  entry = λ d. rw h refl;
  put = λ e k. put_by n s x e true k h;
}

later : (n : Named) (s : State) (x : List ℕ) (i : ℕ) → is_text n.name x ≡ false → StandsAt s x i → StandsAt (n ∷ s) x (suc i)
later n s x i h at = record {
  held = rw h at.held;
  within = omega (arith, at.within);
  entry = λ d. rw h (at.entry d);
  put = λ e k. put_by n s x e false k h ∙ ap (λ (t : State). n ∷ t) (at.put e k);
}

-- where the name is found, counting from i
abbrev pub FoundFrom : State → List ℕ → ℕ → Option ℕ → Type 0
FoundFrom s x i r = MatchOption r (holds s x ≡ false) (λ k. (j : ℕ) × (k ≡ i + j) × StandsAt s x j)

found_later : (n : Named) (s : State) (x : List ℕ) (i : ℕ) (r : Option ℕ) → is_text n.name x ≡ false → FoundFrom s x (i + 1) r → FoundFrom (n ∷ s) x i r
found_later n s x i None h f = rw h f
found_later n s x i (Some k) h f = (suc f.0, omega (arith, f.1), later n s x f.0 h f.2)

found_by : (n : Named) (s : State) (x : List ℕ) (i : ℕ) (b : Bool) → is_text n.name x ≡ b → FoundFrom s x (i + 1) (position_from (λ (m : Named). is_text m.name x) (i + 1) s) → FoundFrom (n ∷ s) x i (cond b (Some i) (position_from (λ (m : Named). is_text m.name x) (i + 1) s))
found_by n s x i true h f = (0, omega arith, here n s x h)
found_by n s x i false h f = found_later n s x i _ h f

found_from : (s : State) (x : List ℕ) (i : ℕ) → FoundFrom s x i (position_from (λ (m : Named). is_text m.name x) i s)
found_from [] x i = refl
found_from (n ∷ s) x i = found_by n s x i (is_text n.name x) refl (found_from s x (i + 1))

at_start : (s : State) (x : List ℕ) (r : Option ℕ) → FoundFrom s x 0 r → MatchOption r (holds s x ≡ false) (StandsAt s x)
at_start s x None f = f
at_start s x (Some k) f = let e : f.0 ≡ k = omega (arith, f.1) in subst (StandsAt s x) e f.2

-- the place of a name
pub found : (s : State) (x : List ℕ) (r : Option ℕ) → r ≡ position_from (λ (m : Named). is_text m.name x) 0 s → MatchOption r (holds s x ≡ false) (StandsAt s x)
found s x r e = at_start s x r (subst (FoundFrom s x 0) (sym e) (found_from s x 0))

-- a name that is not held has nothing, and what is put for it comes last
pub entry_of_none : (s : State) (x : List ℕ) → holds s x ≡ false → entry s x ≡ named x []
entry_of_none [] x h = refl
entry_of_none (n ∷ s) x h = rw (neither (is_text n.name x) (holds s x) h).0 (entry_of_none s x (neither (is_text n.name x) (holds s x) h).1)

pub put_of_none : (s : State) (x : List ℕ) (e : Named) → e.name ≡ x → holds s x ≡ false → put_entry e s ≡ s ++ e ∷ []
put_of_none [] x e k h = refl
put_of_none (n ∷ s) x e k h =
    put_by n s x e false k (neither (is_text n.name x) (holds s x) h).0 ∙ ap (λ (t : State). n ∷ t) (put_of_none s x e k (neither (is_text n.name x) (holds s x) h).1)

module _ (f : Named → ℕ) (x : List ℕ) (empty : f (named x []) ≡ 0) where
  sum_by_put : (n : Named) (s : State) (e : Named) (b : Bool) → sum_by f (put_entry e s) + f (entry s x) ≡ sum_by f s + f e → sum_by f (cond b (e ∷ s) (n ∷ put_entry e s)) + f (cond b n (entry s x)) ≡ sum_by f (n ∷ s) + f e
  sum_by_put n s e true h = omega (arith, sum_by-cons f e s, sum_by-cons f n s)
  sum_by_put n s e false h = omega (arith, sum_by-cons f n (put_entry e s), sum_by-cons f n s, h)

  -- a sum over the names after one is put
  pub sum_put : (s : State) (e : Named) → e.name ≡ x → sum_by f (put_entry e s) + f (entry s x) ≡ sum_by f s + f e
  sum_put [] e k = omega (arith, empty)
  sum_put (n ∷ s) e k =
      ap (λ (t : State). sum_by f t + f (entry (n ∷ s) x)) (put_by n s x e (is_text n.name x) k refl) ∙ sum_by_put n s e (is_text n.name x) (sum_put s e k)

  -- what one name has is within the sum
  pub sum_entry : (s : State) → f (entry s x) ≤ sum_by f s
  sum_entry s = let e = sum_put s (named x []) refl in omega (arith, e, empty)

-- the weights after a name is put
pub weight_put : (s : State) (x : List ℕ) (e : Named) → e.name ≡ x → total_weight (put_entry e s) + weight (present s x) ≡ total_weight s + weight e.present
weight_put s x e k = sum_put (λ (n : Named). weight n.present) x refl s e k

pub weight_entry : (s : State) (x : List ℕ) → weight (present s x) ≤ total_weight s
weight_entry s x = sum_entry (λ (n : Named). weight n.present) x refl s

-- the sizes of all changes after a name is put
pub journal_put : (s : State) (x : List ℕ) (e : Named) → e.name ≡ x → journal (put_entry e s) + journal_of (entry s x) ≡ journal s + journal_of e
journal_put s x e k = sum_put journal_of x refl s e k

pub journal_entry : (s : State) (x : List ℕ) → journal_of (entry s x) ≤ journal s
journal_entry s x = sum_entry journal_of x refl s

-- a state by another name for it
pub sums_of : (t s : State) (w j : ℕ) → t ≡ s → AreSums t w j → AreSums s w j
sums_of t s w j e h = subst (λ (u : State). AreSums u w j) e h

-- the weights of the other names
pub weight_taken : (s : State) (x : List ℕ) (n : Named) (c : Complex) (w j v : ℕ) → AreSums s w j → n ≡ entry s x → c ≡ n.present → v ≡ min (weight c) (2 ^ 64 - 1) → (v ≤ w) × (w - v + weight (present s x) ≡ total_weight s)
weight_taken s x n c w j v h a p e =
    let k : weight c ≡ weight (present s x) = ap weight (p ∙ ap (λ (m : Named). m.present) a) in
    let l = weight_entry s x in
    (omega (arith, k, l, e, h.weight, h.weight_few), omega (arith, k, l, e, h.weight, h.weight_few))

pub weight_none : (s : State) (x : List ℕ) (w j : ℕ) → AreSums s w j → holds s x ≡ false → w + weight (present s x) ≡ total_weight s
weight_none s x w j h n =
    let k : weight (present s x) ≡ 0 = ap (λ (m : Named). weight m.present) (entry_of_none s x n) in
    omega (arith, k, h.weight)

-- the sizes of all changes of the other names
pub journal_taken : (s : State) (x : List ℕ) (n : Named) (w j v : ℕ) → AreSums s w j → n ≡ entry s x → v ≡ journal_of n → (v ≤ j) × (j - v + journal_of (entry s x) ≡ journal s)
journal_taken s x n w j v h a e =
    let k : journal_of n ≡ journal_of (entry s x) = ap journal_of a in
    let l = journal_entry s x in
    (omega (arith, k, l, e, h.journal), omega (arith, k, l, e, h.journal))

pub journal_none : (s : State) (x : List ℕ) (w j : ℕ) → AreSums s w j → holds s x ≡ false → j + journal_of (entry s x) ≡ journal s
journal_none s x w j h n =
    let k : journal_of (entry s x) ≡ 0 = ap journal_of (entry_of_none s x n) in
    omega (arith, k, h.journal)

-- the weights after a name is put, by those of the other names
pub weight_after : (s : State) (x : List ℕ) (e : Named) (rest v r : ℕ) → e.name ≡ x → rest + weight (present s x) ≡ total_weight s → v ≡ min (weight e.present) (2 ^ 64 - 1) → r ≡ min (rest + v) (2 ^ 64 - 1) → r ≡ min (total_weight (put_entry e s)) (2 ^ 64 - 1)
weight_after s x e rest v r k h a b = let l = weight_put s x e k in omega (arith, l, h, a, b)

pub weight_after_none : (s : State) (x : List ℕ) (e : Named) (w j : ℕ) → AreSums s w j → e ≡ named x [] → holds s x ≡ false → w ≡ min (total_weight (put_entry e s)) (2 ^ 64 - 1)
weight_after_none s x e w j h k n =
    let l = weight_put s x e (ap (λ (m : Named). m.name) k) in
    let a : weight e.present ≡ 0 = ap (λ (m : Named). weight m.present) k in
    let b = weight_none s x w j h n in
    omega (arith, l, a, b, h.weight, h.weight_few)

-- the sizes of all changes after a name is put, by those of the other names
pub journal_after : (s : State) (x : List ℕ) (e : Named) (rest v r : ℕ) → e.name ≡ x → rest + journal_of (entry s x) ≡ journal s → v ≡ min (journal_of e) (2 ^ 64 - 1) → r ≡ min (rest + v) (2 ^ 64 - 1) → r ≡ min (journal (put_entry e s)) (2 ^ 64 - 1)
journal_after s x e rest v r k h a b = let l = journal_put s x e k in omega (arith, l, h, a, b)

undone_by : (n : Named) (past : List Complex) → n.past ≡ past → (undone n).name ≡ n.name
undone_by n [] h = rw h refl
undone_by n (c ∷ past) h = rw h refl

pub undone_name : (s : State) (x : List ℕ) → (undone (entry s x)).name ≡ x
undone_name s x = undone_by (entry s x) (entry s x).past refl ∙ entry_name s x

redone_by : (n : Named) (future : List Complex) → n.future ≡ future → (redone n).name ≡ n.name
redone_by n [] h = rw h refl
redone_by n (c ∷ future) h = rw h refl

pub redone_name : (s : State) (x : List ℕ) → (redone (entry s x)).name ≡ x
redone_name s x = redone_by (entry s x) (entry s x).future refl ∙ entry_name s x

-- what stands at the place of a name
pub entry_at : (t d s : State) (x : List ℕ) (place : ℕ) (n : Named) → d ≡ t → t ≡ s → StandsAt d x place → n ≡ get_or t place n → n ≡ entry s x
entry_at t d s x place n a b at k =
    let k' = ap (λ (u : State). get_or u place n) (sym a) in
    let m = ap (λ (u : State). entry u x) (a ∙ b) in
    k ∙ k' ∙ at.entry n ∙ m

-- what is written there is put for the name
pub put_at : (t d s : State) (x : List ℕ) (place : ℕ) (n e : Named) (change : Named → Named) → d ≡ t → t ≡ s → StandsAt d x place → n ≡ get_or t place n → e ≡ change n → (change (entry s x)).name ≡ x → set t place e ≡ put_entry (change (entry s x)) s
put_at t d s x place n e change a b at k h name =
    let e' = change (entry s x) in
    let w : e ≡ e' = h ∙ ap change (entry_at t d s x place n a b at k) in
    ap (λ (m : Named). set t place m) w ∙ ap (λ (u : State). set u place e') (sym a) ∙ sym (at.put e' name) ∙ ap (put_entry e') (a ∙ b)

-- an edit that fits among all names fits by itself
pub edit_fits : (s : State) (x : List ℕ) (n : Named) (c : Complex) → n ≡ entry s x → journal (put_entry (edited (entry s x) c) s) ≤ journal_limit → journal_of (edited n c) ≤ journal_limit
edit_fits s x n c h few =
    let k : journal_of (edited n c) ≡ journal_of (edited (entry s x) c) = ap (λ (m : Named). journal_of (edited m c)) h in
    let l = journal_put s x (edited (entry s x) c) (entry_name s x) in
    let m = journal_entry s x in
    omega (arith, k, l, m, few)

-- the sums after a name is put, by what its complexes had before
pub sums_put : (s : State) (x : List ℕ) (e : Named) (w rest v : ℕ) → e.name ≡ x → w ≡ min (total_weight (put_entry e s)) (2 ^ 64 - 1) → total_weight (put_entry e s) ≤ weight_limit → rest + journal_of (entry s x) ≡ journal s → v ≡ journal_of e → journal (put_entry e s) ≤ journal_limit → AreSums (put_entry e s) w (rest + v)
sums_put s x e w rest v k h few r v_is journal_few =
    let l = journal_put s x e k in
    record {
      weight = omega (arith, h, few);
      journal = omega (arith, l, r, v_is);
      weight_few = omega (arith, h, few);
      journal_few = omega (arith, l, r, v_is, journal_few);
    }

-- the same where the sizes of the changes of the name stay
pub sums_kept : (s : State) (x : List ℕ) (e : Named) (w v j : ℕ) → AreSums s v j → e.name ≡ x → w ≡ min (total_weight (put_entry e s)) (2 ^ 64 - 1) → total_weight (put_entry e s) ≤ weight_limit → journal_of e ≡ journal_of (entry s x) → AreSums (put_entry e s) w j
sums_kept s x e w v j sums k h few same =
    let l = journal_put s x e k in
    record {
      weight = omega (arith, h, few);
      journal = omega (arith, l, same, sums.journal);
      weight_few = omega (arith, h, few);
      journal_few = sums.journal_few;
    }

-- the sums after an assignment
pub sums_assigned : (s : State) (x : List ℕ) (c : Complex) (w rest v j : ℕ) → AreSums s v j → w ≡ min (total_weight (assign x c s)) (2 ^ 64 - 1) → total_weight (assign x c s) ≤ weight_limit → rest + journal_of (entry s x) ≡ journal s → AreSums (assign x c s) w rest
sums_assigned s x c w rest v j sums h few r =
    let l = journal_put s x (named x c) refl in
    record {
      weight = omega (arith, h, few);
      journal = omega (arith, l, r);
      weight_few = omega (arith, h, few);
      journal_few = omega (arith, r, sums.journal, sums.journal_few);
    }

-- the sums of a state by another name for it
pub sums_at : (t s : State) (w j : ℕ) → t ≡ s → AreSums s w j → AreSums t w j
sums_at t s w j e h = subst (λ (u : State). AreSums u w j) (sym e) h

-- the number of names after one is put
pub length_put : (e : Named) (s : State) → length (put_entry e s) ≡ cond (holds s e.name) (length s) (length s + 1)
length_put e [] = refl
length_put e (n ∷ s) = by (is_text n.name e.name) (holds s e.name) (length_put e s)
  where
    by : (b h : Bool) → length (put_entry e s) ≡ cond h (length s) (length s + 1) → length (cond b (e ∷ s) (n ∷ put_entry e s)) ≡ cond (b || h) (suc (length s)) (suc (length s) + 1)
    by true h k = refl
    by false true k = ap suc k
    by false false k = omega (arith, k)
