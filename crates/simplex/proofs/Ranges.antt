-- The numbers from one on.
use Rattle.std.proofs.Common.{◌≡◌, ℕ, zero, suc, ◌+◌, ◌≤◌, ◌<◌, true, refl, inl, inr, arith}
use Rattle.std.specs.List.{range_with_len}
use Rattle.std.specs.Ordering.{nat_cmp}
use Rattle.std.proofs.lemmas.Bool.{cases_lt}
use Rattle.simplex.specs.InOrder.{is_increasing}
use Rattle.simplex.proofs.Members.{In, later, cases, at_head, none}
use Rattle.simplex.proofs.SimplexLaws.{front_increasing}

pub from_range : (a n x : ℕ) → In x (range_with_len a n) → (a ≤ x) × (x < a + n)
from_range a zero x i = absurd (none x i)
from_range a (suc n) x i = elim (cases i) [
  | inl e ↦ (omega arith, omega arith)
  | inr j ↦ let r = from_range (a + 1) n x j in (omega (arith, r.0), omega (arith, r.1))
]

pub in_range : (a n x : ℕ) → a ≤ x → x < a + n → In x (range_with_len a n)
in_range a zero x h k = absurd (omega arith)
in_range a (suc n) x h k = elim (cases_lt a x) [
  | inl l ↦ later (in_range (a + 1) n x (omega arith) (omega arith))
  | inr l ↦ at_head x a _ (omega arith)
]

pub range_rising : (a n : ℕ) → is_increasing nat_cmp (range_with_len a n) ≡ true
range_rising a zero = refl
range_rising a (suc n) = front_increasing a (range_with_len (a + 1) n) (λ c i. let r = (from_range (a + 1) n c i).0 in omega arith) (range_rising (a + 1) n)
