-- How the candidates follow a flip. What a flip of A and B changes lies in the join of A and B, the set of all faces of which each
-- label is one of A or of B. So a face outside it keeps its facets; the candidates there are as before, save that their B may have
-- become a face or have ceased to be one. Those in it are the ones of the facets near by.
--     near m k d                the facets that have k labels or more of A and B
--     merged xs ys              two lists in order of A as one
--     next_candidates m d i l   the candidates of class i of d, which m led to, from those before
use Rattle.std.specs.Prelude.{◌≡◌, ℕ, ◌+◌, ◌-◌, ◌<◌, not, Bool, ◌||◌, List, [], ◌∷◌, map, length, get_or, nat_le, IsTrue, if◌then◌else◌}
use Rattle.std.specs.List.{list_all, filter, range_with_len}
use Rattle.std.specs.Ordering.{is_lt}
use Rattle.simplex.specs.declared.flip.Flip.{Flip}
use Rattle.simplex.specs.Simplex.{has, is_simplex, is_within, simplex_cmp}
use Rattle.facet_set.specs.Complex.{is_complex, is_face}
use Rattle.facet_set.specs.Flips.{allowed, flip}
use Rattle.facet_set.specs.Numbers.{size}
use Rattle.facet_set.specs.Star.{lies_in_join}
use Rattle.flip_rules.specs.declared.candidate.Candidate.{Candidate}
use Rattle.flip_rules.specs.Candidates.{candidates}

-- how many labels the facet has of A and B
abbrev pub shared : Flip → List ℕ → ℕ
shared m s = length (filter (λ x. has m.a x || has m.b x) s)

abbrev pub near : Flip → ℕ → List (List ℕ) → List (List ℕ)
near m k d = filter (λ s. nat_le k (shared m s)) d

-- whether the face A of the candidate lies in the join
abbrev pub is_inside : Flip → Candidate → Bool
is_inside m n = lies_in_join m.a m.b n.flip.a

-- a candidate outside, after the flip: a set in the join is a face exactly where A does not lie in it, and others stay what they are
abbrev pub stayed : Flip → Candidate → Candidate
stayed m n = record n { is_blocked = if lies_in_join m.a m.b n.flip.b then not (is_within m.a n.flip.b) else n.is_blocked }

-- a candidate with what is so in d
abbrev pub seen_in : List (List ℕ) → Candidate → Candidate
seen_in d n = record n { is_blocked = is_face d n.flip.b }

-- the candidate and those behind it, where `rest` merges those behind it with a list
abbrev pub merged_from : Candidate → List Candidate → (List Candidate → List Candidate) → List Candidate → List Candidate
merged_from x xs rest [] = x ∷ xs
merged_from x xs rest (y ∷ ys) = if is_lt (simplex_cmp y.flip.a x.flip.a) then y ∷ merged_from x xs rest ys else x ∷ rest (y ∷ ys)

abbrev pub merged : List Candidate → List Candidate → List Candidate
merged [] ys = ys
merged (x ∷ xs) ys = merged_from x xs (merged xs) ys

abbrev pub next_candidates : Flip → List (List ℕ) → ℕ → List Candidate → List Candidate
next_candidates m d i l = merged (map (stayed m) (filter (λ n. not (is_inside m n)) l)) (map (seen_in d) (filter (is_inside m) (candidates (near m (size d - i) d) i)))

-- the same for the lists of the classes from 1 on
abbrev pub next_lists : Flip → List (List ℕ) → List (List Candidate) → List (List Candidate)
next_lists m d lists = map (λ k. next_candidates m d (k + 1) (get_or lists k [])) (range_with_len 0 (length lists))

-- after an allowed flip, these are the candidates
abbrev pub CandidatesFollow : Type 0
CandidatesFollow =
    (c : List (List ℕ)) (m : Flip) (i : ℕ) → IsTrue (list_all is_simplex c) → IsTrue (is_complex c) → IsTrue (is_simplex m.a) → IsTrue (is_simplex m.b) → IsTrue (allowed c m.a m.b)
    → i < size c → next_candidates m (flip c m.a m.b) i (candidates c i) ≡ candidates (flip c m.a m.b) i
