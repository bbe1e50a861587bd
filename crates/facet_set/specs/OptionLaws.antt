-- Laws of options.
use Rattle.std.specs.Prelude.{◌≡◌, ℕ, ◌+◌, ◌↔◌, List, map, length, IsTrue, option_to_list}
use Rattle.std.specs.List.{list_all}
use Rattle.simplex.specs.declared.flip.Flip.{Flip}
use Rattle.simplex.specs.InOrder.{is_increasing}
use Rattle.simplex.specs.Members.{In}
use Rattle.simplex.specs.Simplex.{is_simplex, simplex_cmp}
use Rattle.facet_set.specs.Flips.{allowed, fresh, options}

-- the options of a class are its allowed flips, those of class 0 with the fresh label alone
abbrev pub OptionMembers : Type 0
OptionMembers =
    (c : List (List ℕ)) (i : ℕ) (m : Flip) → IsTrue (list_all is_simplex c) → IsTrue (is_simplex m.a) → IsTrue (is_simplex m.b)
    → In m (options c i) ↔ (IsTrue (allowed c m.a m.b) × (length m.b ≡ i + 1) × (i ≡ 0 → m.b ≡ option_to_list (fresh c)))

-- they come in the order of the sets that go out, each of which has at most one
abbrev pub OptionsIncrease : Type 0
OptionsIncrease = (c : List (List ℕ)) (i : ℕ) → IsTrue (is_increasing simplex_cmp (map (λ (m : Flip). m.a) (options c i)))
