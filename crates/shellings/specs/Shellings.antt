-- Shellings of a pure complex: orders of its facets in which each meets the earlier ones in ridges (textbooks).
--     is_good C E F         whether F can stand next after the members of E
--     first_bad C L         the least place of L, from 1, that is not good, or the place after the last where a facet is missing
--     is_shelling C L       whether there is no such place
--     restriction E F       the labels a of F for which F without a lies in a member of E
--     counts C L            how many restrictions of members of L have 0, 1, .. labels
use Rattle.std.specs.Prelude.{ℕ, ◌+◌, Bool, not, ◌&&◌, List, [], ◌∷◌, ◌++◌, map, length, ◌==◌, if◌then◌else◌, Option, Some, None, is_none, option_map}
use Rattle.std.specs.List.{list_any, list_all, filter, range_with_len}
use Rattle.simplex.specs.Simplex.{is_within, common, without}
use Rattle.facet_set.specs.Complex.{stands_in, is_face}
use Rattle.facet_set.specs.Numbers.{size, is_pure}
use Rattle.shellings.specs.declared.shell_fault.ShellFault.{ShellFault}
use Rattle.shellings.specs.declared.shell_fault.ShellFault.TheVariants.{NotPure, Bad}

-- whether f meets g in one label less than it has, and e in no label beside those
abbrev pub meets_in_ridge : List ℕ → List ℕ → List ℕ → Bool
meets_in_ridge f e g = is_within (common f e) (common f g) && (length (common f g) + 1 == length f)

-- whether the simplex meets each member in labels of a ridge in which it meets some member
abbrev pub meets_in_ridges : List (List ℕ) → List ℕ → Bool
meets_in_ridges earlier f = list_all (λ e. list_any (meets_in_ridge f e) earlier) earlier

-- whether the simplex is a facet that stands at no earlier place, and meets the earlier ones in ridges
abbrev pub is_good : List (List ℕ) → List (List ℕ) → List ℕ → Bool
is_good c earlier f = stands_in c f && not (stands_in earlier f) && meets_in_ridges earlier f

-- the first place that is not good, from the one after the earlier ones on
abbrev pub bad_after : List (List ℕ) → List (List ℕ) → List (List ℕ) → Option ℕ
bad_after c earlier [] = if list_all (stands_in earlier) c then None else Some (length earlier + 1)
bad_after c earlier (f ∷ rest) = if is_good c earlier f then bad_after c (earlier ++ f ∷ []) rest else Some (length earlier + 1)

abbrev pub first_bad : List (List ℕ) → List (List ℕ) → Option ℕ
first_bad c l = bad_after c [] l

abbrev pub is_shelling : List (List ℕ) → List (List ℕ) → Bool
is_shelling c l = is_pure c && is_none (first_bad c l)

-- why the list is no shelling, if it is none
abbrev pub shell_fault : List (List ℕ) → List (List ℕ) → Option ShellFault
shell_fault c l = if is_pure c then option_map Bad (first_bad c l) else Some NotPure

-- the labels without which the simplex lies in one of the earlier ones
abbrev pub restriction : List (List ℕ) → List ℕ → List ℕ
restriction earlier f = filter (λ a. is_face earlier (without f a)) f

-- the restriction of each simplex, and the simplex
abbrev pub intervals_after : List (List ℕ) → List (List ℕ) → List (List ℕ × List ℕ)
intervals_after earlier [] = []
intervals_after earlier (f ∷ rest) = (restriction earlier f, f) ∷ intervals_after (earlier ++ f ∷ []) rest

abbrev pub intervals : List (List ℕ) → List (List ℕ × List ℕ)
intervals l = intervals_after [] l

-- how many of the restrictions have k labels
abbrev pub count_of_restrictions : List (List ℕ) → ℕ → ℕ
count_of_restrictions l k = length (filter (λ (i : List ℕ × List ℕ). length i.0 == k) (intervals l))

abbrev pub counts : List (List ℕ) → List (List ℕ) → List ℕ
counts c l = map (count_of_restrictions l) (range_with_len 0 (size c + 1))
