-- What one pass knows of the facets that contain a simplex, and what follows of the list.
use Rattle.std.proofs.Common.{◌≡◌, ℕ, List, [], ◌∷◌, refl, ap}
use Rattle.collapse_moves.specs.declared.holder.Holder.TheVariants.{Missing, One, Many}
use Rattle.collapse_moves.specs.Holders.{holder_of}

pub missing_at : (l : List (List ℕ)) → holder_of l ≡ Missing → l ≡ []
missing_at [] e = refl
missing_at (t ∷ []) e = cc
missing_at (t ∷ u ∷ l) e = cc

pub one_at : (l : List (List ℕ)) (t : List ℕ) → holder_of l ≡ One t → l ≡ t ∷ []
one_at [] t e = cc
one_at (u ∷ []) t e = let same : u ≡ t = cc in ap (λ v. v ∷ []) same
one_at (u ∷ v ∷ l) t e = cc

-- a list of at least two
pub record HasTwo (l : List (List ℕ)) : Type 0 where
  pub one : List ℕ
  pub other : List ℕ
  pub rest : List (List ℕ)
  pub whole : l ≡ one ∷ other ∷ rest

pub many_at : (l : List (List ℕ)) → holder_of l ≡ Many → HasTwo l
many_at [] e = cc
many_at (t ∷ []) e = cc
many_at (t ∷ u ∷ l) e = record { one = t; other = u; rest = l; whole = refl }
