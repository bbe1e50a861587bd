-- What a session keeps, and what holds of it.
use Rattle.std.specs.Prelude.{◌≡◌, ℕ, ◌+◌, ◌-◌, ◌&&◌, List, [], ◌∷◌, map, nat_lt, Option, None, option_map, IsTrue, if◌then◌else◌}
use Rattle.std.specs.List.{range_with_len}
use Rattle.simplex.specs.declared.flip.Flip.{Flip}
use Rattle.simplex.specs.FirstFailing.{first_failing}
use Rattle.facet_set.specs.Flips.{allowed, flip, fresh, goes, undoing}
use Rattle.facet_set.specs.Numbers.{size, is_pure}
use Rattle.flip_rules.specs.declared.candidate.Candidate.{Candidate}
use Rattle.flip_rules.specs.Candidates.{candidates}
use Rattle.flip_rules.specs.Tests.{flip_tests}

-- the candidates of the classes from 1 to the dimension, of which the first is at the place 0
abbrev pub candidate_lists : List (List ℕ) → List (List Candidate)
candidate_lists c = map (λ k. candidates c (k + 1)) (range_with_len 0 (size c - 1))

-- the set that the flips of class 0 put in, if there are such flips
abbrev pub new_point : List (List ℕ) → Option (List ℕ)
new_point c = if is_pure c && nat_lt 0 (size c) then option_map (λ x. x ∷ []) (fresh c) else None

-- the lists and the point are those of the complex, and the inverses of the flips of the journal are allowed on it, last first
pub record IsKept (c : List (List ℕ)) (lists : List (List Candidate)) (point : Option (List ℕ)) (journal : List Flip) : Type 0 where
  pub candidates : lists ≡ candidate_lists c
  pub pointed : point ≡ new_point c
  pub back : IsTrue (goes c (undoing journal))

-- the flip is allowed on c and leads to d, its inverse leads back, and the lists and the point are those of d
pub record IsNext (c : List (List ℕ)) (m : Flip) (d : List (List ℕ)) (lists : List (List Candidate)) (point : Option (List ℕ)) : Type 0 where
  pub passes : first_failing (flip_tests c m) ≡ None
  pub flipped : d ≡ flip c m.a m.b
  pub inverse_allowed : IsTrue (allowed d m.b m.a)
  pub inverse_back : flip d m.b m.a ≡ c
  pub candidates : lists ≡ candidate_lists d
  pub pointed : point ≡ new_point d
