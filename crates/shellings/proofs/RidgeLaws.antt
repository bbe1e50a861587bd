-- How a facet meets earlier ones, and what its restriction says of their faces.
use Rattle.std.proofs.Common.{◌≡◌, ℕ, suc, ◌+◌, ◌≤◌, Bool, true, false, not, cond, ◌&&◌, List, [], ◌∷◌, length, refl, sym, ap, ◌∙◌, subst, inl, inr, arith}
use Rattle.std.specs.Prelude.{◌==◌}
use Rattle.std.specs.Ordering.{nat_cmp}
use Rattle.std.specs.List.{list_any, list_all, filter}
use Rattle.std.proofs.lemmas.Cmp.{nat_list_cmp_total}
use Rattle.simplex.specs.InOrder.{is_increasing}
use Rattle.simplex.specs.Simplex.{has, is_simplex, is_within, common, without}
use Rattle.simplex.proofs.Decided.{agree, false_from, false_at, not_true, not_from, equal_at, equal_from}
use Rattle.simplex.proofs.Filled.{rising_of}
use Rattle.simplex.proofs.InOrderLaws.{and_left, and_right, and_both}
use Rattle.simplex.proofs.Members.{In, first, later, cases, none, any_from, any_at, all_at, all_from, in_filter, from_filter, is_member_from, is_member_at}
use Rattle.simplex.proofs.SimplexLaws.{has_at, has_from, within_in, in_within, in_without, from_without, above_at, rest_increasing, label_beside, within_itself, within_same}
use Rattle.facet_set.specs.Complex.{stands_in, is_face}
use Rattle.facet_set.specs.Numbers.{size, is_pure}
use Rattle.facet_set.proofs.ComplexLaws.{exact, face_at, face_from, face_below}
use Rattle.shellings.specs.Shellings.{meets_in_ridge, meets_in_ridges, is_good, restriction}

-- ---- filters
module _ {X : Type 0} where
  pub most-filter : (p : X → Bool) (xs : List X) → length (filter p xs) ≤ length xs
  most-filter p [] = omega arith
  most-filter p (x ∷ xs) = by (p x) (most-filter p xs)
    where
      by : (v : Bool) → length (filter p xs) ≤ length xs → length (cond v (x ∷ filter p xs) (filter p xs)) ≤ suc (length xs)
      by true h = omega arith
      by false h = omega arith

  -- a filter that leaves as many leaves all
  pub full-filter : (p : X → Bool) (xs : List X) → length (filter p xs) ≡ length xs → (x : X) → In x xs → p x ≡ true
  full-filter p [] e x i = absurd (none x i)
  full-filter p (y ∷ xs) e x i = by (p y) refl e (full-filter p xs)
    where
      by : (v : Bool) → p y ≡ v → length (cond v (y ∷ filter p xs) (filter p xs)) ≡ suc (length xs) → (length (filter p xs) ≡ length xs → (x : X) → In x xs → p x ≡ true) → p x ≡ true
      by true f e rest = elim (cases i) [ inl g ↦ ap p g ∙ f | inr j ↦ rest (omega arith) x j ]
      by false f e rest = let m = most-filter p xs in absurd (omega arith)

  pub filter-all : (p : X → Bool) (xs : List X) → ((x : X) → In x xs → p x ≡ true) → filter p xs ≡ xs
  filter-all p [] f = refl
  filter-all p (x ∷ xs) f = ap (λ v. cond v (x ∷ filter p xs) (filter p xs)) (f x first) ∙ ap (λ ys. x ∷ ys) (filter-all p xs (λ y i. f y (later i)))

  pub filter-none : (p : X → Bool) (xs : List X) → ((x : X) → In x xs → p x ≡ false) → filter p xs ≡ []
  filter-none p [] f = refl
  filter-none p (x ∷ xs) f = ap (λ v. cond v (x ∷ filter p xs) (filter p xs)) (f x first) ∙ filter-none p xs (λ y i. f y (later i))

  pub filter-same : (p q : X → Bool) (xs : List X) → ((x : X) → In x xs → p x ≡ q x) → filter p xs ≡ filter q xs
  filter-same p q [] f = refl
  filter-same p q (x ∷ xs) f =
      ap (λ v. cond v (x ∷ filter p xs) (filter p xs)) (f x first) ∙ ap (λ ys. cond (q x) (x ∷ ys) ys) (filter-same p q xs (λ y i. f y (later i)))

-- ---- one missing label
pub missing_one : (f g : List ℕ) → length (common f g) + 1 ≡ length f → (a : ℕ) × In a f × (has g a ≡ false) × (is_within (without f a) g ≡ true)
missing_one [] g e = absurd (omega arith)
missing_one (x ∷ f) g e = by (has g x) refl e (missing_one f g)
  where
    by : (v : Bool) → has g x ≡ v → length (cond v (x ∷ common f g) (common f g)) + 1 ≡ suc (length f)
        → (length (common f g) + 1 ≡ length f → (a : ℕ) × In a f × (has g a ≡ false) × (is_within (without f a) g ≡ true))
        → (a : ℕ) × In a (x ∷ f) × (has g a ≡ false) × (is_within (without (x ∷ f) a) g ≡ true)
    by true h e rest =
        let r = rest (omega arith) in (
          r.0,
          later r.1,
          r.2,
          in_within (without (x ∷ f) r.0) g (λ b i.
              let q = from_without (x ∷ f) r.0 b i in
              elim (cases q.0) [ inl k ↦ subst (λ y. In y g) (sym k) (has_at g x h) | inr j ↦ within_in (without f r.0) g b r.3 (in_without f r.0 b j q.1) ]),
        )
    by false h e rest =
        let whole : length (common f g) ≡ length f = omega arith in (
          x,
          first,
          h,
          in_within (without (x ∷ f) x) g (λ b i.
              let q = from_without (x ∷ f) x b i in
              elim (cases q.0) [ inl k ↦ absurd (q.1 k) | inr j ↦ has_at g b (full-filter (has g) f whole b j) ]),
        )

pub one_missing : (f g : List ℕ) (a : ℕ) → is_increasing nat_cmp f ≡ true → In a f → has g a ≡ false → is_within (without f a) g ≡ true → length (common f g) + 1 ≡ length f
one_missing [] g a h i n w = absurd (none a i)
one_missing (x ∷ f) g a h i n w = elim (cases i) [
  | inl e ↦
      let lacks : has g x ≡ false = ap (has g) (sym e) ∙ n in
      let rest : filter (has g) f ≡ f = filter-all (has g) f (λ b j. has_from g b (within_in (without (x ∷ f) a) g b w (in_without (x ∷ f) a b (later j) (λ k. let l = above_at x f b h j in absurd (omega arith))))) in
      let out : length (common (x ∷ f) g) ≡ length (filter (has g) f) = ap (λ v. length (cond v (x ∷ filter (has g) f) (filter (has g) f))) lacks in
      let same = ap length rest in
      omega arith
  | inr j ↦
      let l = above_at x f a h j in
      let there : has g x ≡ true = has_from g x (within_in (without (x ∷ f) a) g x w (in_without (x ∷ f) a x first (λ k. absurd (omega arith)))) in
      let below : is_within (without f a) g ≡ true = in_within (without f a) g (λ b k. let q = from_without f a b k in within_in (without (x ∷ f) a) g b w (in_without (x ∷ f) a b (later q.0) q.1)) in
      let rest = one_missing f g a (rest_increasing x f h) j n below in
      let more : length (common (x ∷ f) g) ≡ suc (length (common f g)) = ap (λ v. length (cond v (x ∷ filter (has g) f) (filter (has g) f))) there in
      omega arith
]

-- ---- meeting in a ridge
pub ridge_at : (f e g : List ℕ) → meets_in_ridge f e g ≡ true → (a : ℕ) × In a f × (In a e → ⊥) × (is_within (without f a) g ≡ true)
ridge_at f e g h =
    let r = missing_one f g (equal_at (length (common f g) + 1) (length f) (and_right (is_within (common f e) (common f g)) _ h)) in (
      r.0,
      r.1,
      λ k.
          let both = within_in (common f e) (common f g) r.0 (and_left (is_within (common f e) (common f g)) _ h) (in_filter (has e) r.0 f r.1 (has_from e r.0 k)) in
          false_at (has g r.0) r.2 (from_filter (has g) r.0 f both).1,
      r.3,
    )

pub ridge_from : (f e g : List ℕ) (a : ℕ) → is_increasing nat_cmp f ≡ true → In a f → (In a e → ⊥) → (In a g → ⊥) → is_within (without f a) g ≡ true → meets_in_ridge f e g ≡ true
ridge_from f e g a h i ne ng w =
    and_both _ _
    (in_within (common f e) (common f g) (λ b k.
    let q = from_filter (has e) b f k in
    in_filter (has g) b f q.0 (has_from g b (within_in (without f a) g b w (in_without f a b q.0 (λ m. ne (subst (λ y. In y e) m (has_at e b q.1))))))))
    (equal_from (length (common f g) + 1) (length f) (one_missing f g a h i (false_from (has g a) (λ k. ng (has_at g a k))) w))

-- ---- restrictions
pub restriction_within : (l : List (List ℕ)) (f : List ℕ) → is_within (restriction l f) f ≡ true
restriction_within l f = in_within (restriction l f) f (λ a i. (from_filter (λ x. is_face l (without f x)) a f i).0)

-- a subset of a facet at a good place lies in an earlier member exactly where it misses a label of the restriction
pub earlier_face : (l : List (List ℕ)) (f s : List ℕ) → meets_in_ridges l f ≡ true → is_within s f ≡ true → is_face l s ≡ not (is_within (restriction l f) s)
earlier_face l f s m w = agree _ _
    (λ h.
    let r = face_at l s h in
    let q = any_at (meets_in_ridge f r.0) l (all_at (λ e. list_any (meets_in_ridge f e) l) r.0 l m r.1) in
    let a = ridge_at f r.0 q.0 q.2 in
    not_from (is_within (restriction l f) s) (λ k.
    a.2 (within_in s r.0 a.0 r.2 (within_in (restriction l f) s a.0 k (in_filter (λ x. is_face l (without f x)) a.0 f a.1 (face_from l (without f a.0) q.0 q.1 a.3))))))
    (λ h.
    let b = label_beside (restriction l f) s (not_true (is_within (restriction l f) s) h) in
    let p = from_filter (λ x. is_face l (without f x)) b.0 f b.1 in
    face_below l s (without f b.0) (in_within s (without f b.0) (λ x i. in_without f b.0 x (within_in s f x w i) (λ e. b.2 (subst (λ y. In y s) e i)))) p.1)

-- ---- facets of a pure complex
pub stands_from : (l : List (List ℕ)) (s : List ℕ) → In s l → stands_in l s ≡ true
stands_from l s i = is_member_from nat_list_cmp_total exact s l i

pub stands_at : (l : List (List ℕ)) (s : List ℕ) → stands_in l s ≡ true → In s l
stands_at l s h = is_member_at nat_list_cmp_total exact s l h

pub pure_at : (c : List (List ℕ)) (s : List ℕ) → is_pure c ≡ true → In s c → length s ≡ size c
pure_at [] s h i = absurd (none s i)
pure_at (t ∷ c) s h i = equal_at (length s) (size (t ∷ c)) (all_at (λ u. length u == size (t ∷ c)) s (t ∷ c) h i)

pub rises : (c : List (List ℕ)) (s : List ℕ) → list_all is_simplex c ≡ true → In s c → is_increasing nat_cmp s ≡ true
rises c s h i = rising_of s (all_at is_simplex s c h i)

-- after facets of a pure complex a facet can stand exactly where its restriction is no face so far
pub good_is : (c l : List (List ℕ)) (f : List ℕ) → list_all is_simplex c ≡ true → is_pure c ≡ true → list_all (stands_in c) l ≡ true → stands_in c f ≡ true
    → is_good c l f ≡ not (is_face l (restriction l f))
good_is c l f simplices pure facets there = agree _ _
    (λ h. ap not (earlier_face l f R (and_right (stands_in c f && not (stands_in l f)) _ h) (restriction_within l f)) ∙ ap (λ v. not (not v)) (within_itself R))
    (λ h.
    let free = not_true (is_face l R) h in
    let away : In f l → ⊥ = λ i. false_at (is_face l R) free (face_from l R f i (restriction_within l f)) in
    and_both _ _ (and_both _ _ there (not_from (stands_in l f) (λ k. away (stands_at l f k))))
    (all_from (λ e. list_any (meets_in_ridge f e) l) l (λ e i.
    let b = label_beside R e (false_from (is_within R e) (λ w. false_at (is_face l R) free (face_from l R e i w))) in
    let p = from_filter (λ x. is_face l (without f x)) b.0 f b.1 in
    let g = face_at l (without f b.0) p.1 in
    any_from (meets_in_ridge f e) g.0 l g.1 (ridge_from f e g.0 b.0 (rises c f simplices in_c) p.0 b.2
    (λ k. away (subst (λ y. In y l) (sym (whole g.0 g.1 b.0 k g.2)) g.1)) g.2))))
  where
    R : List ℕ
    R = restriction l f

    in_c : In f c
    in_c = stands_at c f there

    whole : (g : List ℕ) → In g l → (a : ℕ) → In a g → is_within (without f a) g ≡ true → f ≡ g
    whole g i a j w =
        let gc = stands_at c g (all_at (stands_in c) g l facets i) in
        within_same f g (rises c f simplices in_c) (rises c g simplices gc)
        (in_within f g (λ b k. by b k (b == a) refl))
        (pure_at c f pure in_c ∙ sym (pure_at c g pure gc))
      where
        by : (b : ℕ) → In b f → (v : Bool) → (b == a) ≡ v → In b g
        by b k true e = subst (λ y. In y g) (sym (equal_at b a e)) j
        by b k false e = within_in (without f a) g b w (in_without f a b k (λ q. false_at (b == a) e (equal_from b a q)))
