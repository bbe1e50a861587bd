-- How much a flip changes the options, and bounds on steps.
use Rattle.std.specs.Prelude.{ℕ, ◌+◌, ◌*◌, ◌^◌, List, map, max}
use Rattle.std.specs.List.{range_with_len, sum_by}
use Rattle.simplex.specs.declared.flip.Flip.{Flip}
use Rattle.facet_set.specs.Change.{apart}
use Rattle.facet_set.specs.Flips.{options}
use Rattle.facet_set.specs.Numbers.{size}

-- the faces that have an option of the class
abbrev pub option_faces : List (List ℕ) → ℕ → List (List ℕ)
option_faces c i = map (λ (m : Flip). m.a) (options c i)

-- how many pairs of a class and a face have an option in exactly one of the complexes
abbrev pub moved : List (List ℕ) → List (List ℕ) → ℕ
moved c d = sum_by (λ i. apart (option_faces c i) (option_faces d i)) (range_with_len 0 (max (size c) (size d)))

-- the most steps of the staging of a flip: 4(d+6)^2 2^(d+1) in dimension d, which is -1 where there is no facet
abbrev pub stage_bound : List (List ℕ) → ℕ
stage_bound c = 4 * (size c + 5) ^ 2 * 2 ^ size c
