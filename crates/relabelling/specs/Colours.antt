-- Colours of labels, by which a bijection that carries one complex to another is narrowed down: two labels that facets tell
-- apart get different ones, but for chance.
use Rattle.std.specs.Prelude.{◌≡◌, ℕ, ◌+◌, ◌*◌, ◌-◌, ◌/◌, ◌%◌, ◌^◌, min, bit_xor, true, List, [], ◌∷◌, nat_eq, unwrap_or, if◌then◌else◌}
use Rattle.std.specs.HashMap.{HashMap, get}
use Rattle.simplex.specs.Members.{In}
use Rattle.simplex.specs.Simplex.{has}
use Rattle.facet_set.specs.Complex.{verts}
use Rattle.facet_set.specs.Maps.{image_of}
use Rattle.relabelling.specs.Bijections.{is_map_to}

-- the label's colour by the table: 0 where it does not stand there
abbrev pub colour : {S : Type 0} → HashMap ℕ ℕ S → ℕ → ℕ
colour t a = unwrap_or (get nat_eq t a) 0

-- the sum of the numbers that the members lead to
abbrev pub total : {X : Type 0} → (X → ℕ) → List X → ℕ
total f [] = 0
total f (x ∷ xs) = f x + total f xs

-- the number, or the greatest of 64 bits where it is larger
abbrev pub capped : ℕ → ℕ
capped n = min n (2 ^ 64 - 1)

-- a number of 40 bits that depends on each of 64 bits
unfoldable pub mix : ℕ → ℕ
mix n = let once = (n + 1) % 2 ^ 64 * 0x9E37_79B9_7F4A_7C15 % 2 ^ 64 in bit_xor once (once / 2 ^ 32) * 0xBF58_476D_1CE4_E5B9 % 2 ^ 64 / 2 ^ 24

-- the colour of a facet, by those of its labels
abbrev pub facet_colour : (ℕ → ℕ) → List ℕ → ℕ
facet_colour f s = mix (capped (total (λ a. mix (f a)) s))

-- what a facet adds to the colour of a label of its own
abbrev pub added : (ℕ → ℕ) → List ℕ → ℕ → ℕ
added f s a = mix (capped (facet_colour f s + mix (f a)))

-- what the facet adds to the colour of any label
abbrev pub share : (ℕ → ℕ) → List ℕ → ℕ → ℕ
share f s a = if has s a then added f s a else 0

-- the label's colour by its own and those of the facets that hold it
abbrev pub next_colour : (ℕ → ℕ) → List (List ℕ) → ℕ → ℕ
next_colour f c a = capped (total (λ s. share f s a) c)

-- one number for the colours of all facets
abbrev pub complex_colour : (ℕ → ℕ) → List (List ℕ) → ℕ
complex_colour f c = capped (total (facet_colour f) c)

-- whether each vertex has the colour of its image
abbrev pub KeepsColours : List (List ℕ) → (ℕ → ℕ) → (ℕ → ℕ) → List (ℕ × ℕ) → Type 0
KeepsColours c f g m = (a : ℕ) → In a (verts c) → f a ≡ g (image_of m a)

-- whether each bijection that carries c to d and keeps the first two colourings keeps the last two
abbrev pub StillKept : List (List ℕ) → List (List ℕ) → (ℕ → ℕ) → (ℕ → ℕ) → (ℕ → ℕ) → (ℕ → ℕ) → Type 0
StillKept c d f g h k = (m : List (ℕ × ℕ)) → is_map_to c d m ≡ true → KeepsColours c f g m → KeepsColours c h k m

-- whether no bijection carries c to d and keeps the colourings
abbrev pub NoneKeeps : List (List ℕ) → List (List ℕ) → (ℕ → ℕ) → (ℕ → ℕ) → Type 0
NoneKeeps c d f g = (m : List (ℕ × ℕ)) → is_map_to c d m ≡ true → KeepsColours c f g m → ⊥
