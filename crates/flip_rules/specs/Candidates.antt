-- The flips that are allowed, or would be if the set that comes were no face.
use Rattle.std.specs.Prelude.{◌≡◌, ℕ, ◌+◌, ◌-◌, ◌<◌, Bool, ◌&&◌, ◌==◌, List, length, take, Option, Some, None, if◌then◌else◌}
use Rattle.std.specs.List.{list_all, filter_map}
use Rattle.simplex.specs.declared.flip.Flip.{Flip}
use Rattle.facet_set.specs.Complex.{is_face}
use Rattle.facet_set.specs.Numbers.{size, faces_of_size}
use Rattle.facet_set.specs.Flips.{flip_parts, link_vertices, options}
use Rattle.flip_rules.specs.declared.candidate.Candidate.{Candidate}

-- whether all parts but the last hold
abbrev pub has_star : List (List ℕ) → List ℕ → List ℕ → Bool
has_star c a b = list_all (λ p. p) (take 4 (flip_parts c a b))

-- the flip at a that puts in its link vertices, where there is one of the class, and whether these are a face
abbrev pub candidate_of : List (List ℕ) → ℕ → List ℕ → Option Candidate
candidate_of c i a =
    let b = link_vertices c a in
    if has_star c a b && (length b == i + 1) then Some (record { flip = record { a = a; b = b }; is_blocked = is_face c b }) else None

-- all candidates of the class, in the order of A. No facet has link vertices, so there are none of class 0
abbrev pub candidates : List (List ℕ) → ℕ → List Candidate
candidates c i = filter_map (candidate_of c i) (faces_of_size c (size c - i))

-- the flip, where it is allowed
abbrev pub open_flip : Candidate → Option Flip
open_flip n = if n.is_blocked then None else Some n.flip

-- the options of a class that is not 0 are the candidates of which B is no face
abbrev pub OpenCandidates : Type 0
OpenCandidates = (c : List (List ℕ)) (i : ℕ) → 0 < i → options c i ≡ filter_map open_flip (candidates c i)
