use Rattle.std.proofs.Common.{◌≡◌, ℕ, zero, suc, ◌<◌, ◌-◌, ◌*◌, ◌%◌, ◌^◌, arith}
use Rattle.packed_keys.proofs.key.in_place.Goals as goal

kept : (l j : ℕ) → l < 2 ^ 20 → j < 3 → l * 2 ^ (44 - 20 * j) % 18446744073709551616 ≡ l * 2 ^ (44 - 20 * j)
kept l zero h k = omega arith
kept l (suc zero) h k = omega arith
kept l (suc (suc zero)) h k = omega arith
kept l (suc (suc (suc j))) h k = absurd (omega (arith, k))

pub returns : goal.returns
returns c = kept c.args.label c.args.place c.requires.label c.requires.place
