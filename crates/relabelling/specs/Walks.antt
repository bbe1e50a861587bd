-- A walk from facet to facet that gives images to labels.
use Rattle.std.specs.Prelude.{◌≡◌, ℕ, ◌+◌, ◌≤◌, ◌⊎◌, ◌==◌, Bool, true, false, not, List, map, length, nat_eq, if◌then◌else◌, Option, None, Some, IsSome, IsTrue}
use Rattle.std.specs.List.{list_all, filter}
use Rattle.std.specs.HashMap.{HashMap, get}
use Rattle.std.specs.HashSet.{contains}
use Rattle.std.specs.Cmp.Lexicographic.{pointwise}
use Rattle.simplex.specs.Members.{In}
use Rattle.simplex.specs.Simplex.{is_label, is_simplex}
use Rattle.facet_set.specs.Complex.{is_complex}
use Rattle.facet_set.specs.Connection.{is_closed}
use Rattle.facet_set.specs.Flips.{same_facets}
use Rattle.facet_set.specs.Maps.{image, image_of, becomes}
use Rattle.relabelling.specs.Bijections.{is_map_to}
use Rattle.relabelling.specs.Ridges.{TellsEnds}
use Rattle.relabelling.specs.declared.extending.Walk.{Walk}

module _ {S : Type 0} where
  -- each label of the simplex has an image
  abbrev pub IsKnown : HashMap ℕ ℕ S → List ℕ → Type 0
  IsKnown t s = (a : ℕ) → In a s → IsSome (get nat_eq t a)

  -- the images are labels
  abbrev pub AreLabels : HashMap ℕ ℕ S → Type 0
  AreLabels t = (a b : ℕ) → get nat_eq t a ≡ Some b → IsTrue (is_label b)

  -- the images are those under the map
  abbrev pub Agrees : HashMap ℕ ℕ S → List (ℕ × ℕ) → Type 0
  Agrees t m = (a b : ℕ) → get nat_eq t a ≡ Some b → image_of m a ≡ b

  -- no bijection that carries c to d has these images
  abbrev pub NoneAgrees : List (List ℕ) → List (List ℕ) → HashMap ℕ ℕ S → Type 0
  NoneAgrees c d t = (m : List (ℕ × ℕ)) → IsTrue (is_map_to c d m) → Agrees t m → ⊥

  -- the images that more labels get: labels have the images that they had, and each bijection that carries c to d agrees with the new ones where it agrees with the old ones
  pub record Extends (c d : List (List ℕ)) (t n : HashMap ℕ ℕ S) : Type 0 where
    pub kept : (a b : ℕ) → get nat_eq t a ≡ Some b → get nat_eq n a ≡ Some b
    pub labels : AreLabels t → AreLabels n
    pub agrees : (m : List (ℕ × ℕ)) → IsTrue (is_map_to c d m) → Agrees t m → Agrees n m

-- the vertices with their images, where these carry the one complex to the other
abbrev pub map_of : {S : Type 0} → List (List ℕ) → List (List ℕ) → List ℕ → HashMap ℕ ℕ S → Option (List (ℕ × ℕ))
map_of c d vs t = let m = map (λ a. (a, becomes t a)) vs in if same_facets (image m c) d then Some m else None

-- c is closed, and the tables tell what lies across from the ridges of c and of d
pub record AreWays {S : Type 0} (c d : List (List ℕ)) (c_ends d_ends : HashMap (List ℕ) (ℕ × ℕ) S) : Type 0 where
  pub simplices : IsTrue (list_all is_simplex c)
  pub complex : IsTrue (is_complex c)
  pub closed : IsTrue (is_closed c)
  pub d_simplices : IsTrue (list_all is_simplex d)
  pub c_told : TellsEnds c_ends c
  pub d_told : TellsEnds d_ends d

-- whether the facet was not reached yet
abbrev pub is_unseen : Walk → List ℕ → Bool
is_unseen w t = not (contains (pointwise nat_eq) w.seen t)

-- the number of facets that were not reached yet
abbrev pub unseen_count : List (List ℕ) → Walk → ℕ
unseen_count c w = length (filter (is_unseen w) c)

-- whether there is an image, and it is the label
abbrev pub is_that : Option ℕ → ℕ → Bool
is_that None a = false
is_that (Some b) a = b == a

-- what a walk keeps as it goes on, and what it adds
pub record GoesOn (c d : List (List ℕ)) (w n : Walk) : Type 0 where
  pub images : Extends c d w.images n.images
  pub seen : (t : List ℕ) → is_unseen w t ≡ false → is_unseen n t ≡ false
  pub waiting : (t : List ℕ) → In t w.waiting.items → In t n.waiting.items
  pub reached : (t : List ℕ) → is_unseen w t ≡ true → is_unseen n t ≡ false → IsKnown n.images t × In t n.waiting.items
  pub added : (t : List ℕ) → In t n.waiting.items → In t w.waiting.items ⊎ (In t c × (is_unseen n t ≡ false))
  pub work : length n.waiting.items + unseen_count c n ≤ length w.waiting.items + unseen_count c w
  pub apart : (w.fits ≡ false → NoneAgrees c d w.images) → n.fits ≡ false → NoneAgrees c d w.images
