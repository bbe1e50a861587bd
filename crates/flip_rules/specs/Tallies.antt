-- What is counted at the faces of a list of facets, to find the flips of a class.
use Rattle.std.specs.Prelude.{◌≡◌, ℕ, ◌+◌, ◌-◌, ◌^◌, Bool, ◌&&◌, ◌||◌, ◌==◌, List, [], length, min, nat_le, nat_eq, Option, Some, None, is_some, if◌then◌else◌}
use Rattle.std.specs.Bool.{IsTrue}
use Rattle.std.specs.Cmp.Lexicographic.{pointwise}
use Rattle.indexmap.specs.IndexMap.{get, IndexMap}
use Rattle.simplex.specs.declared.flip.Flip.{Flip}
use Rattle.simplex.specs.Simplex.{is_simplex, is_within, minus, union, len_limit}
use Rattle.facet_set.specs.Complex.{is_face}
use Rattle.facet_set.specs.Flips.{link_vertices}
use Rattle.facet_set.specs.Numbers.{degree}
use Rattle.flip_rules.specs.declared.candidate.Candidate.{Candidate}
use Rattle.flip_rules.specs.declared.tally.Tally.{Tally}
use Rattle.flip_rules.specs.declared.tallies.Sizes.{Sizes}

-- the list, where a simplex has room for it
abbrev pub fitting : List ℕ → Option (List ℕ)
fitting l = if nat_le (length l) len_limit then Some l else None

-- the number of the facets that contain the face, or the last usize where that is less, and its link vertices, where a simplex has room
abbrev pub tally_of : List (List ℕ) → List ℕ → Tally
tally_of c s = record { degree = min (degree c s) (2 ^ 64 - 1); up = fitting (link_vertices c s) }

-- what is kept at a list of labels: the tally of a face, and nothing where it is none
abbrev pub kept_at : List (List ℕ) → List ℕ → Option Tally
kept_at c s = if is_simplex s && is_face c s then Some (tally_of c s) else None

-- whether two simplices are one, as the map tells them apart
abbrev pub same : List ℕ → List ℕ → Bool
same = pointwise nat_eq

-- whether there are as many labels as in one of the two sets of a flip
abbrev pub is_sized : Sizes → List ℕ → Bool
is_sized z s = (length s == z.gone) || (length s == z.come)

-- at each list of one of the two sizes, the map keeps what is to be kept there
abbrev pub AreTalliesOf : {S : Type 0} → List (List ℕ) → Sizes → IndexMap (List ℕ) Tally S → Type 0
AreTalliesOf c z tallies = (s : List ℕ) → IsTrue (is_sized z s) → get same tallies s ≡ kept_at c s

-- the tally of no face
abbrev pub blank : Tally
blank = record { degree = 0; up = Some [] }

-- the labels of both, where a simplex has room for them
abbrev pub joined : Option (List ℕ) → List ℕ → Option (List ℕ)
joined None t = None
joined (Some s) t = fitting (union s t)

-- the tally of s with one facet more at s
abbrev pub with_facet : List ℕ → List ℕ → Tally → Tally
with_facet facet s tally = record { degree = min (tally.degree + 1) (2 ^ 64 - 1); up = joined tally.up (minus facet s) }

-- the same from what is kept at s
abbrev pub put_facet : List ℕ → List ℕ → Option Tally → Tally
put_facet facet s None = with_facet facet s blank
put_facet facet s (Some tally) = with_facet facet s tally

-- what is kept at s after one facet more
abbrev pub after_facet : List ℕ → List ℕ → Option Tally → Option Tally
after_facet facet s kept = if is_simplex s && is_within s facet then Some (put_facet facet s kept) else kept

-- the link vertices, where both they and the facets are n
abbrev pub counted : ℕ → ℕ → Option (List ℕ) → Option (List ℕ)
counted n degree None = None
counted n degree (Some b) = if (degree == n) && (length b == n) then Some b else None

abbrev pub link_at : ℕ → Option Tally → Option (List ℕ)
link_at n None = None
link_at n (Some tally) = counted n tally.degree tally.up

abbrev pub flip_of : List ℕ → List ℕ → Flip
flip_of a b = record { a = a; b = b }

-- the flip of a and b, and whether something is kept at b
abbrev pub candidate_where : (List ℕ → Option Tally) → List ℕ → Option (List ℕ) → Option Candidate
candidate_where kept a None = None
candidate_where kept a (Some b) = Some (record { flip = flip_of a b; is_blocked = is_some (kept b) })

-- the candidate at a, by what is kept at a and at its link vertices, which are to be n
abbrev pub candidate_at : (List ℕ → Option Tally) → ℕ → List ℕ → Option Candidate
candidate_at kept n a = candidate_where kept a (link_at n (kept a))
