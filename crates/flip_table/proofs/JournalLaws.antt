-- A journal with one more flip.
use Rattle.std.proofs.Common.{◌≡◌, ℕ, true, Option, List, [], ◌∷◌, ◌++◌, refl, ap, ◌∙◌}
use Rattle.simplex.specs.declared.flip.Flip.{Flip}
use Rattle.simplex.specs.Flip.{inverse}
use Rattle.simplex.proofs.InOrderLaws.{and_both}
use Rattle.facet_set.specs.Flips.{allowed, flip, goes, after, undoing}
use Rattle.flip_rules.specs.declared.candidate.Candidate.{Candidate}
use Rattle.flip_table.specs.Kept.{IsKept, IsNext}

-- its inverse comes first
pub undoing_more : (l : List Flip) (m : Flip) → undoing (l ++ m ∷ []) ≡ inverse m ∷ undoing l
undoing_more [] m = refl
undoing_more (k ∷ l) m = ap (λ r. r ++ inverse k ∷ []) (undoing_more l m)

pub goes_back : (c d : List (List ℕ)) (m : Flip) (l : List Flip) → allowed d m.b m.a ≡ true → flip d m.b m.a ≡ c → goes c (undoing l) ≡ true → goes d (undoing (l ++ m ∷ [])) ≡ true
goes_back c d m l h e k = ap (goes d) (undoing_more l m) ∙ and_both _ _ h (ap (λ x. goes x (undoing l)) e ∙ k)

-- and leads back
pub start_kept : (c d : List (List ℕ)) (m : Flip) (l : List Flip) → flip d m.b m.a ≡ c → after d (undoing (l ++ m ∷ [])) ≡ after c (undoing l)
start_kept c d m l e = ap (after d) (undoing_more l m) ∙ ap (λ x. after x (undoing l)) e

-- what is kept after the staged flip
pub kept_after : (c d : List (List ℕ)) (m : Flip) (lists next : List (List Candidate)) (point after : Option (List ℕ)) (l k : List Flip)
    → IsKept c lists point l → IsNext c m d next after → k ≡ l ++ m ∷ [] → IsKept d next after k
kept_after c d m lists next point after l k h n e = record {
  candidates = n.candidates;
  pointed = n.pointed;
  back = ap (λ j. goes d (undoing j)) e ∙ goes_back c d m l n.inverse_allowed n.inverse_back h.back;
}
