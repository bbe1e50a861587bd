-- Free labels, by the labels of the facet that another simplex lacks.
use Rattle.std.proofs.Common.{◌≡◌, ℕ, ◌+◌, ◌<◌, Bool, true, false, not, cond, ◌&&◌, ◌||◌, List, [], ◌∷◌, ◌++◌, length, take, get_or, refl, sym, ap, ◌∙◌, subst, ◌⊎◌, inl, inr, arith}
use Rattle.std.specs.Prelude.{◌==◌}
use Rattle.std.specs.Ordering.{nat_cmp}
use Rattle.std.specs.List.{filter}
use Rattle.std.proofs.lemmas.List.{take_more}
use Rattle.simplex.specs.InOrder.{is_increasing}
use Rattle.simplex.specs.Simplex.{has, is_within, minus, without}
use Rattle.simplex.proofs.Decided.{agree, false_from, false_at, not_true, not_from, equal_at, equal_from}
use Rattle.simplex.proofs.Members.{In, first, later, cases, none, in_filter, from_filter}
use Rattle.simplex.proofs.SimplexLaws.{has_at, has_from, within_in, in_within, in_without, from_without, above_at, is_increasing-filter}
use Rattle.facet_set.specs.Complex.{is_face}
use Rattle.shellings.specs.declared.missing.Missing.{Missing}
use Rattle.shellings.specs.declared.missing.Missing.TheVariants.{Nothing, One, More}
use Rattle.shellings.specs.Candidates.{free_labels}
use Rattle.shellings.specs.Missing.{missing_of}
use Rattle.shellings.specs.Shellings.{restriction}
use Rattle.shellings.proofs.RidgeLaws.{filter-same, filter-all, filter-none}
use Rattle.shellings.proofs.IntervalLaws.{face_more}

-- ---- which labels are missing
pub nothing_at : (m : List ℕ) → missing_of m ≡ Nothing → m ≡ []
nothing_at [] e = refl
nothing_at (a ∷ []) e = cc
nothing_at (a ∷ b ∷ m) e = cc

pub one_at : (m : List ℕ) (a : ℕ) → missing_of m ≡ One a → m ≡ a ∷ []
one_at [] a e = cc
one_at (b ∷ []) a e = let same : b ≡ a = cc in ap (λ x. x ∷ []) same
one_at (b ∷ d ∷ m) a e = cc

pub more_at : (m : List ℕ) → missing_of m ≡ More → (a : ℕ) × (b : ℕ) × (n : List ℕ) × (m ≡ a ∷ b ∷ n)
more_at [] e = cc
more_at (a ∷ []) e = cc
more_at (a ∷ b ∷ m) e = (a, b, m, refl)

-- ---- without which labels a facet lies in another
lacks : (f g : List ℕ) (b : ℕ) → In b f → In b (minus f g) ⊎ In b g
lacks f g b i = by (has g b) refl
  where
    by : (v : Bool) → has g b ≡ v → In b (minus f g) ⊎ In b g
    by true e = inr (has_at g b e)
    by false e = inl (in_filter (λ a. not (has g a)) b f i (ap not e))

module _ (f g : List ℕ) where
  inside : minus f g ≡ [] → (a : ℕ) → is_within (without f a) g ≡ true
  inside e a = in_within (without f a) g (λ b i. elim (lacks f g b (from_without f a b i).0) [ inl j ↦ absurd (none b (subst (λ l. In b l) e j)) | inr j ↦ j ])

  beside : (a : ℕ) → minus f g ≡ a ∷ [] → (b : ℕ) → In b f → is_within (without f b) g ≡ (a == b)
  beside a e b i = agree _ _
      (λ w. equal_from a b (elim (lacks f g a there) [
        | inl j ↦ other w
        | inr j ↦ absurd (out j)
      ]))
      (λ q. subst (λ x. is_within (without f x) g ≡ true) (equal_at a b q)
      (in_within (without f a) g (λ x k. let r = from_without f a x k in elim (lacks f g x r.0) [
        | inl j ↦ elim (cases (subst (λ l. In x l) e j)) [ inl s ↦ absurd (r.1 s) | inr n ↦ absurd (none x n) ]
        | inr j ↦ j
      ])))
    where
      missing : In a f × (not (has g a) ≡ true)
      missing = from_filter (λ x. not (has g x)) a f (subst (λ l. In a l) (sym e) first)

      there : In a f
      there = missing.0

      out : In a g → ⊥
      out j = false_at (has g a) (not_true (has g a) missing.1) (has_from g a j)

      other : is_within (without f b) g ≡ true → a ≡ b
      other w = by (a == b) refl
        where
          by : (v : Bool) → (a == b) ≡ v → a ≡ b
          by true q = equal_at a b q
          by false q = absurd (out (within_in (without f b) g a w (in_without f b a there (λ s. false_at (a == b) q (equal_from a b s)))))

-- two missing labels stay missing
module _ (f g : List ℕ) (a b : ℕ) (i : In a f × (In a g → ⊥)) (j : In b f × (In b g → ⊥)) (apart : a ≡ b → ⊥) where
  outside : (x : ℕ) → is_within (without f x) g ≡ false
  outside x = false_from (is_within (without f x) g) (λ w. by (a == x) refl w)
    where
      by : (v : Bool) → (a == x) ≡ v → is_within (without f x) g ≡ true → ⊥
      by true q w = j.1 (within_in (without f x) g b w (in_without f x b j.0 (λ s. apart (equal_at a x q ∙ sym s))))
      by false q w = i.1 (within_in (without f x) g a w (in_without f x a i.0 (λ s. false_at (a == x) q (equal_from a x s))))

-- ---- the free labels after one simplex more
-- what is left of some labels of the facet
abbrev pub left : List ℕ → List ℕ → List ℕ → List ℕ
left f g free = filter (λ a. not (is_within (without f a) g)) free

two_apart : (f g : List ℕ) (a b : ℕ) (n : List ℕ) → is_increasing nat_cmp f ≡ true → minus f g ≡ a ∷ b ∷ n → a ≡ b → ⊥
two_apart f g a b n h e s =
    let up : is_increasing nat_cmp (a ∷ b ∷ n) ≡ true = ap (is_increasing nat_cmp) (sym e) ∙ is_increasing-filter nat_cmp (λ x. not (has g x)) f h in
    let l = above_at a (b ∷ n) b up first in
    absurd (omega arith)

lacking : (f g m : List ℕ) (a : ℕ) → minus f g ≡ m → In a m → In a f × (In a g → ⊥)
lacking f g m a e i =
    let r = from_filter (λ x. not (has g x)) a f (subst (λ l. In a l) (sym e) i) in
    (r.0, λ j. false_at (has g a) (not_true (has g a) r.1) (has_from g a j))

pub left_nothing : (f g free : List ℕ) (m : Missing) → m ≡ missing_of (minus f g) → m ≡ Nothing → [] ≡ left f g free
left_nothing f g free m e k =
    let none = nothing_at (minus f g) (sym e ∙ k) in
    sym (filter-none (λ a. not (is_within (without f a) g)) free (λ a i. ap not (inside f g none a)))

pub left_one : (f g free : List ℕ) (m : Missing) (b : ℕ) → m ≡ missing_of (minus f g) → m ≡ One b → is_within free f ≡ true → without free b ≡ left f g free
left_one f g free m b e k w =
    let one = one_at (minus f g) b (sym e ∙ k) in
    sym (filter-same (λ a. not (is_within (without f a) g)) (λ a. not (b == a)) free (λ a i. ap not (beside f g b one a (within_in free f a w i))))

pub left_more : (f g free : List ℕ) (m : Missing) → is_increasing nat_cmp f ≡ true → m ≡ missing_of (minus f g) → m ≡ More → free ≡ left f g free
left_more f g free m h e k =
    let r = more_at (minus f g) (sym e ∙ k) in
    sym (filter-all (λ a. not (is_within (without f a) g)) free (λ a i.
    ap not (outside f g r.0 r.1 (lacking f g (r.0 ∷ r.1 ∷ r.2) r.0 r.3 first) (lacking f g (r.0 ∷ r.1 ∷ r.2) r.1 r.3 (later first)) (two_apart f g r.0 r.1 r.2 h r.3) a)))

filter-both : (p q : ℕ → Bool) (xs : List ℕ) → filter q (filter p xs) ≡ filter (λ a. p a && q a) xs
filter-both p q [] = refl
filter-both p q (x ∷ xs) = by (p x) (filter-both p q xs)
  where
    by : (v : Bool) → filter q (filter p xs) ≡ filter (λ a. p a && q a) xs
        → filter q (cond v (x ∷ filter p xs) (filter p xs)) ≡ cond (v && q x) (x ∷ filter (λ a. p a && q a) xs) (filter (λ a. p a && q a) xs)
    by true e = ap (λ ys. cond (q x) (x ∷ ys) ys) e
    by false e = e

pub free_more : (l : List (List ℕ)) (f g : List ℕ) → left f g (free_labels l f) ≡ free_labels (l ++ g ∷ []) f
free_more l f g =
    filter-both (λ a. not (is_face l (without f a))) (λ a. not (is_within (without f a) g)) f
    ∙ filter-same (λ a. not (is_face l (without f a)) && not (is_within (without f a) g)) (λ a. not (is_face (l ++ g ∷ []) (without f a))) f
    (λ a i. neither (is_face l (without f a)) (is_within (without f a) g) ∙ ap not (sym (face_more l g (without f a))))
  where
    neither : (v w : Bool) → (not v && not w) ≡ not (v || w)
    neither true w = refl
    neither false w = refl

pub free_first : (f : List ℕ) → f ≡ free_labels [] f
free_first f = sym (filter-all (λ a. not (is_face [] (without f a))) f (λ a i. refl))

pub free_within : (l : List (List ℕ)) (f : List ℕ) → is_within (free_labels l f) f ≡ true
free_within l f = in_within (free_labels l f) f (λ a i. (from_filter (λ x. not (is_face l (without f x))) a f i).0)

-- all others are in the restriction
pub restriction_is : (l : List (List ℕ)) (f : List ℕ) → minus f (free_labels l f) ≡ restriction l f
restriction_is l f =
    filter-same (λ a. not (has (free_labels l f) a)) (λ a. is_face l (without f a)) f (λ a i. by a i (is_face l (without f a)) refl)
  where
    by : (a : ℕ) → In a f → (v : Bool) → is_face l (without f a) ≡ v → not (has (free_labels l f) a) ≡ v
    by a i true e = not_from (has (free_labels l f) a) (λ k. false_at (is_face l (without f a)) (not_true (is_face l (without f a)) (from_filter (λ x. not (is_face l (without f x))) a f (has_at (free_labels l f) a k)).1) e)
    by a i false e = ap not (has_from (free_labels l f) a (in_filter (λ x. not (is_face l (without f x))) a f i (ap not e)))

-- one earlier facet more
pub free_next : (l : List (List ℕ)) (i : ℕ) (f g free next : List ℕ) → i < length l → g ≡ get_or l i g → free ≡ free_labels (take i l) f → next ≡ left f g free
    → next ≡ free_labels (take (i + 1) l) f
free_next l i f g free next h e k n =
    n ∙ ap (left f g) k ∙ free_more (take i l) f g ∙ ap (λ m. free_labels m f) (sym (take_more l i g h ∙ ap (λ x. take i l ++ x ∷ []) (sym e)))
