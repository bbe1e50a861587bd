-- How many flips a certificate has.
use Rattle.std.specs.Prelude.{ℕ, ◌+◌, ◌-◌, ◌^◌, List, map, length, min, sum}
use Rattle.flip_certificate.specs.declared.block.Block.{Block}
use Rattle.flip_certificate.specs.declared.certificate.Certificate.{Certificate}
use Rattle.flip_certificate.specs.declared.certificate.Certificate.TheVariants.{Sphere, Equivalent, Manifold}

-- the number, or the last that 64 bits hold where that is less
abbrev pub stopped : ℕ → ℕ
stopped n = min n (2 ^ 64 - 1)

abbrev pub flips_in_blocks : List Block → ℕ
flips_in_blocks blocks = sum (map (λ (b : Block). length b.flips) blocks)

abbrev pub flips_in : Certificate → ℕ
flips_in (Sphere start flips) = length flips
flips_in (Equivalent start target first m second) = length first + length second
flips_in (Manifold start blocks) = flips_in_blocks blocks

abbrev pub flip_count : Certificate → ℕ
flip_count c = stopped (flips_in c)
