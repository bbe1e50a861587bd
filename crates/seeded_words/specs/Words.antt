-- The words of a seed: those of PCG XSH RR 64/32 (O'Neill), started at the seed on stream 0.
use Rattle.std.specs.Prelude.{ℕ, zero, suc, List, [], ◌∷◌}
use Rattle.rand_pcg.specs.Lcg.{Lcg, started, increment_of}
use Rattle.rand_pcg.specs.Pcg.{pcg32, multiplier_64}

-- the generator of a seed
unfoldable pub generator : ℕ → Lcg
generator seed = started 64 multiplier_64 seed (increment_of 64 0)

-- its next word
unfoldable pub word : Lcg → ℕ
word g = (pcg32 g).0

-- the generator after that word
unfoldable pub after_word : Lcg → Lcg
after_word g = (pcg32 g).1

-- the next n words
abbrev pub words_from : ℕ → Lcg → List ℕ
words_from zero g = []
words_from (suc n) g = word g ∷ words_from n (after_word g)

-- the first n words of the seed
abbrev pub words : ℕ → ℕ → List ℕ
words n seed = words_from n (generator seed)
