-- The subsets of a set, by the numbers whose bits say which of its places stay.
use Rattle.std.proofs.Common.{◌≡◌, ℕ, suc, ◌<◌, ◌+◌, ◌*◌, ◌/◌, ◌%◌, ◌^◌, true, false, cond, List, [], ◌∷◌, length, refl, sym, ap, ◌∙◌, subst, inl, inr, arith}
use Rattle.std.specs.Prelude.{◌==◌}
use Rattle.std.proofs.lemmas.Bool.Decides.{nat_tests}
use Rattle.std.specs.Ordering.{nat_cmp}
use Rattle.simplex.specs.InOrder.{is_increasing}
use Rattle.simplex.specs.Simplex.{is_within, subset_at}
use Rattle.simplex.specs.Laws.{SubsetsAt}
use Rattle.simplex.proofs.Members.{In, first, later, cases, at_head, none}
use Rattle.simplex.proofs.SimplexLaws.{within_in, in_within, above_at, rest_increasing}
use Rattle.simplex.proofs.Filled.{rising_of}

-- the first place stays, or it does not
pub subset_odd : (a : ℕ) (s : List ℕ) (m : ℕ) → (m % 2 == 1) ≡ true → subset_at (a ∷ s) m ≡ a ∷ subset_at s (m / 2)
subset_odd a s m h = ap (λ b. cond b (a ∷ subset_at s (m / 2)) (subset_at s (m / 2))) h

pub subset_even : (a : ℕ) (s : List ℕ) (m : ℕ) → (m % 2 == 1) ≡ false → subset_at (a ∷ s) m ≡ subset_at s (m / 2)
subset_even a s m h = ap (λ b. cond b (a ∷ subset_at s (m / 2)) (subset_at s (m / 2))) h

pub odd_is : (m : ℕ) → (m % 2 == 1) ≡ true → m ≡ 2 * (m / 2) + 1
odd_is m h = let e : m % 2 ≡ 1 = grind (arith, nat_tests) in omega arith

pub even_is : (m : ℕ) → (m % 2 == 1) ≡ false → m ≡ 2 * (m / 2)
even_is m h = let e : m % 2 < 1 = grind (arith, nat_tests) in omega arith

double : (n : ℕ) → 2 ^ suc n ≡ 2 * 2 ^ n
double n = omega arith

-- a subset lies in the set
pub subset_in : (s : List ℕ) (m x : ℕ) → In x (subset_at s m) → In x s
subset_in [] m x i = i
subset_in (a ∷ s) m x i =
    elim (m % 2 == 1) as (λ v. (m % 2 == 1) ≡ v → In x (a ∷ s)) [
      | true ↦ λ e. elim (cases (subst (λ l. In x l) (subset_odd a s m e) i)) [ inl f ↦ at_head x a s f | inr j ↦ later (subset_in s (m / 2) x j) ]
      | false ↦ λ e. later (subset_in s (m / 2) x (subst (λ l. In x l) (subset_even a s m e) i))
    ] refl

pub subset_within : (s : List ℕ) (m : ℕ) → is_within (subset_at s m) s ≡ true
subset_within s m = in_within (subset_at s m) s (λ x i. subset_in s m x i)

-- each subset has a number
taken : (a : ℕ) (s t : List ℕ) (m : ℕ) → m < 2 ^ length s → subset_at s m ≡ t → (n : ℕ) × (n < 2 ^ suc (length s)) × (subset_at (a ∷ s) n ≡ a ∷ t)
taken a s t m h e =
    let half : (2 * m + 1) / 2 ≡ m = omega arith in
    let odd : ((2 * m + 1) % 2 == 1) ≡ true = let r : (2 * m + 1) % 2 ≡ 1 = omega arith in grind (arith, nat_tests) in
    (2 * m + 1, omega (arith, double (length s)), subset_odd a s (2 * m + 1) odd ∙ ap (λ k. a ∷ subset_at s k) half ∙ ap (λ l. a ∷ l) e)

left_out : (a : ℕ) (s t : List ℕ) (m : ℕ) → m < 2 ^ length s → subset_at s m ≡ t → (n : ℕ) × (n < 2 ^ suc (length s)) × (subset_at (a ∷ s) n ≡ t)
left_out a s t m h e =
    let half : (2 * m) / 2 ≡ m = omega arith in
    let even : ((2 * m) % 2 == 1) ≡ false = let r : (2 * m) % 2 ≡ 0 = omega arith in grind (arith, nat_tests) in
    (2 * m, omega (arith, double (length s)), subset_even a s (2 * m) even ∙ ap (λ k. subset_at s k) half ∙ e)

pub number_of : (s t : List ℕ) → is_increasing nat_cmp s ≡ true → is_increasing nat_cmp t ≡ true → is_within t s ≡ true → (m : ℕ) × (m < 2 ^ length s) × (subset_at s m ≡ t)
number_of [] [] h k w = (0, omega arith, refl)
number_of [] (b ∷ t) h k w = absurd (none b (within_in (b ∷ t) [] b w first))
number_of (a ∷ s) [] h k w = let r = number_of s [] (rest_increasing a s h) refl refl in left_out a s [] r.0 r.1 r.2
number_of (a ∷ s) (b ∷ t) h k w =
    elim (cases (within_in (b ∷ t) (a ∷ s) b w first)) [
      | inl e ↦
          let sub : is_within t s ≡ true = in_within t s (λ c j. let l = above_at b t c k j in elim (cases (within_in (b ∷ t) (a ∷ s) c w (later j))) [ inl f ↦ absurd (omega arith) | inr m ↦ m ]) in
          let r = number_of s t (rest_increasing a s h) (rest_increasing b t k) sub in
          let q = taken a s t r.0 r.1 r.2 in
          (q.0, q.1, q.2 ∙ ap (λ x. x ∷ t) (sym e))
      | inr i ↦
          let low = above_at a s b h i in
          let sub : is_within (b ∷ t) s ≡ true = in_within (b ∷ t) s (λ c j. elim (cases j) [
            | inl e ↦ subst (λ x. In x s) (sym e) i
            | inr m ↦ let l = above_at b t c k m in elim (cases (within_in (b ∷ t) (a ∷ s) c w (later m))) [ inl f ↦ absurd (omega arith) | inr n ↦ n ]
          ]) in
          let r = number_of s (b ∷ t) (rest_increasing a s h) k sub in
          left_out a s (b ∷ t) r.0 r.1 r.2
    ]

-- no two numbers have the same subset
tail_same : (a : ℕ) (s t : List ℕ) → a ∷ s ≡ a ∷ t → s ≡ t
tail_same a s t e = cc

not_there : (a : ℕ) (s t : List ℕ) (m : ℕ) → is_increasing nat_cmp (a ∷ s) ≡ true → a ∷ t ≡ subset_at s m → ⊥
not_there a s t m h e = let l = above_at a s a h (subset_in s m a (subst (λ x. In a x) e first)) in omega arith

pub one_number : (s : List ℕ) (m n : ℕ) → is_increasing nat_cmp s ≡ true → m < 2 ^ length s → n < 2 ^ length s → subset_at s m ≡ subset_at s n → m ≡ n
one_number [] m n h k l e = omega arith
one_number (a ∷ s) m n h k l e =
    let up = rest_increasing a s h in
    elim (m % 2 == 1) as (λ v. (m % 2 == 1) ≡ v → m ≡ n) [
      | true ↦ λ p. elim (n % 2 == 1) as (λ w. (n % 2 == 1) ≡ w → m ≡ n) [
        | true ↦ λ q.
            let x = odd_is m p in
            let y = odd_is n q in
            let r = one_number s (m / 2) (n / 2) up (omega (arith, double (length s))) (omega (arith, double (length s))) (tail_same a _ _ (sym (subset_odd a s m p) ∙ e ∙ subset_odd a s n q)) in
            omega arith
        | false ↦ λ q. absurd (not_there a s (subset_at s (m / 2)) (n / 2) h (sym (subset_odd a s m p) ∙ e ∙ subset_even a s n q))
      ] refl
      | false ↦ λ p. elim (n % 2 == 1) as (λ w. (n % 2 == 1) ≡ w → m ≡ n) [
        | true ↦ λ q. absurd (not_there a s (subset_at s (n / 2)) (m / 2) h (sym (subset_odd a s n q) ∙ sym e ∙ subset_even a s m p))
        | false ↦ λ q.
            let x = even_is m p in
            let y = even_is n q in
            let r = one_number s (m / 2) (n / 2) up (omega (arith, double (length s))) (omega (arith, double (length s))) (sym (subset_even a s m p) ∙ e ∙ subset_even a s n q) in
            omega arith
      ] refl
    ] refl

pub subsets_lem : SubsetsAt
subsets_lem s h = (λ m. subset_within s m, λ t k w. number_of s t (rising_of s h) (rising_of t k) w, λ m n. one_number s m n (rising_of s h))

-- the last number has the whole set
pub full_subset : (s : List ℕ) (m : ℕ) → m + 1 ≡ 2 ^ length s → subset_at s m ≡ s
full_subset [] m h = refl
full_subset (a ∷ s) m h =
    let r : m % 2 ≡ 1 = omega (arith, double (length s)) in
    let odd : (m % 2 == 1) ≡ true = grind (arith, nat_tests) in
    subset_odd a s m odd ∙ ap (λ l. a ∷ l) (full_subset s (m / 2) (omega (arith, double (length s))))
