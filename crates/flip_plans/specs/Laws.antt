-- What a flip of A and B does to the faces that ask, and to the options.
use Rattle.std.specs.Prelude.{◌≡◌, ◌↔◌, ℕ, ◌+◌, ◌-◌, ◌<◌, not, ◌&&◌, Bool, false, List, length, map, Some, None, IsTrue}
use Rattle.std.specs.List.{list_all, filter}
use Rattle.simplex.specs.declared.flip.Flip.{Flip}
use Rattle.simplex.specs.Members.{In}
use Rattle.simplex.specs.Simplex.{is_simplex, is_within, minus}
use Rattle.facet_set.specs.Complex.{is_complex}
use Rattle.facet_set.specs.Numbers.{faces_of_size, size}
use Rattle.facet_set.specs.Flips.{flip, link_vertices, options}
use Rattle.facet_set.specs.Star.{lies_in_join}
use Rattle.flip_plans.specs.Askers.{asks, has_option, option_faces, wanted}
use Rattle.flip_plans.specs.Turns.{IsAllowed}

-- the options of a class that is not 0 are the faces of its size that ask for a set that is no face
abbrev pub OptionsByFaces : Type 0
OptionsByFaces =
    (c : List (List ℕ)) (i : ℕ) → IsTrue (list_all is_simplex c) → IsTrue (is_complex c) → 0 < i → option_faces c i ≡ filter (has_option c) (faces_of_size c (size c - i))

-- they are the simplices of that size that ask for a set that is no face
abbrev pub OptionFaces : Type 0
OptionFaces =
    (c : List (List ℕ)) (i : ℕ) (a : List ℕ) → IsTrue (list_all is_simplex c) → IsTrue (is_complex c) → 0 < i
    → In a (option_faces c i) ↔ (IsTrue (is_simplex a) × IsTrue (has_option c a) × (length a + i ≡ size c))

-- and each option puts the link vertices of its face in
abbrev pub OptionsPutLinksIn : Type 0
OptionsPutLinksIn = (c : List (List ℕ)) (i : ℕ) → 0 < i → options c i ≡ map (λ a. record { a = a; b = link_vertices c a }) (option_faces c i)

-- a set that A lies in asks for the labels of B beside it, and for nothing after the flip
abbrev pub AskersGo : Type 0
AskersGo =
    (c : List (List ℕ)) (m : Flip) (s : List ℕ) → IsAllowed c m → IsTrue (is_simplex s) → IsTrue (lies_in_join m.a m.b s) → IsTrue (is_within m.a s) → length s < size c
    → (wanted c s ≡ Some (minus m.b s)) × (wanted (flip c m.a m.b) s ≡ None)

-- a set that B lies in asks for nothing before the flip, and after it for the labels of A beside it
abbrev pub AskersCome : Type 0
AskersCome =
    (c : List (List ℕ)) (m : Flip) (s : List ℕ) → IsAllowed c m → IsTrue (is_simplex s) → IsTrue (lies_in_join m.a m.b s) → IsTrue (is_within m.b s) → length s < size c
    → (wanted c s ≡ None) × (wanted (flip c m.a m.b) s ≡ Some (minus m.a s))

-- a set outside the join asks for what it asked for
abbrev pub AskersStay : Type 0
AskersStay = (c : List (List ℕ)) (m : Flip) (s : List ℕ) → IsAllowed c m → lies_in_join m.a m.b s ≡ false → wanted (flip c m.a m.b) s ≡ wanted c s

-- whether the set asks for one in the join that the other lies in
abbrev pub asks_above : List (List ℕ) → Flip → List ℕ → List ℕ → Bool
asks_above c m x s = asks c s && (lies_in_join m.a m.b (link_vertices c s) && is_within x (link_vertices c s))

-- outside the join, the options that go are those of the sets that ask for one that comes
abbrev pub OptionsGo : Type 0
OptionsGo =
    (c : List (List ℕ)) (m : Flip) (s : List ℕ) → IsAllowed c m → lies_in_join m.a m.b s ≡ false
    → (has_option c s && not (has_option (flip c m.a m.b) s)) ≡ asks_above c m m.b s

-- and those that come are those of the sets that ask for one that goes
abbrev pub OptionsCome : Type 0
OptionsCome =
    (c : List (List ℕ)) (m : Flip) (s : List ℕ) → IsAllowed c m → lies_in_join m.a m.b s ≡ false
    → (has_option (flip c m.a m.b) s && not (has_option c s)) ≡ asks_above c m m.a s
