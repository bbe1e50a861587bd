-- The search for the least list of images, one vertex after another.
use Rattle.std.specs.Prelude.{◌≡◌, true, false, ℕ, ◌-◌, Bool, List, [], ◌∷◌, ◌++◌, map, length, Option, None, if◌then◌else◌}
use Rattle.std.specs.List.{find, zip}
use Rattle.simplex.specs.Simplex.{has, minus}
use Rattle.facet_set.specs.Complex.{verts}
use Rattle.relabelling.specs.Colours.{KeepsColours}
use Rattle.relabelling.specs.Bijections.{arrangements, is_map_to}

-- whether the images of the vertices in order make a bijection that carries c to d
abbrev pub makes_map : List (List ℕ) → List (List ℕ) → List ℕ → Bool
makes_map c d images = is_map_to c d (zip (verts c) images)

-- the first list that does, of those that go on from these images
abbrev pub seek : List (List ℕ) → List (List ℕ) → List ℕ → Option (List ℕ)
seek c d images = find (makes_map c d) (map (λ t. images ++ t) (arrangements (length (verts c) - length images) (minus (verts d) images)))

-- the first that goes on with this image, where it is not taken
abbrev pub branch : List (List ℕ) → List (List ℕ) → List ℕ → ℕ → Option (List ℕ)
branch c d images a = if has images a then None else seek c d (images ++ a ∷ [])

-- whether each bijection whose list goes on from these images keeps the colours
abbrev pub LeadsKeepColours : List (List ℕ) → List (List ℕ) → List ℕ → (ℕ → ℕ) → (ℕ → ℕ) → Type 0
LeadsKeepColours c d images f g = (t : List ℕ) → makes_map c d (images ++ t) ≡ true → KeepsColours c f g (zip (verts c) (images ++ t))

-- whether no list that goes on from these images makes such a bijection
abbrev pub LeadsNowhere : List (List ℕ) → List (List ℕ) → List ℕ → Type 0
LeadsNowhere c d images = (t : List ℕ) → makes_map c d (images ++ t) ≡ false
