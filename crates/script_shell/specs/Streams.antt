-- What a run does to its source and its sink. The bytes are an `Option`: `None` is an end that does not tell them.
use Rattle.std.specs.Prelude.{◌≡◌, ℕ, ◌+◌, ◌-◌, List, ◌++◌, length, take, Option}
use Rattle.run_ends.specs.Ends.{Grows, Loses}

-- the greatest length of an input
abbrev pub input_limit : ℕ
input_limit = 16777216

-- the bytes written grow by a front of the text
abbrev pub GrowsByFront : Option (List ℕ) → Option (List ℕ) → List ℕ → Type 0
GrowsByFront old new text = (n : ℕ) × Grows old new (take n text)

-- the bytes written grow by a text that begins with this one
abbrev pub GrowsPast : Option (List ℕ) → Option (List ℕ) → List ℕ → Type 0
GrowsPast old new text = (more : List ℕ) × Grows old new (text ++ more)

-- the most bytes that one read takes
abbrev pub read_limit : ℕ
read_limit = 65536

-- the bytes without as many at their end; none where there are no more
abbrev pub before_last : List ℕ → List ℕ
before_last bytes = take (length bytes - read_limit) bytes

-- the source gave these bytes: they are gone from those that it tells, and as many were counted
pub record Gave (old new : Option (List ℕ)) (before now : ℕ) (bytes : List ℕ) : Type 0 where
  pub lost : Loses old new bytes
  pub count : now ≡ before + length bytes
