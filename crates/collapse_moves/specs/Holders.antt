-- What one pass knows of the facets that contain a simplex.
use Rattle.std.specs.Prelude.{ℕ, List, [], ◌∷◌}
use Rattle.collapse_moves.specs.declared.holder.Holder.{Holder}
use Rattle.collapse_moves.specs.declared.holder.Holder.TheVariants.{Missing, One, Many}

-- none, one or more, of the facets that contain it
abbrev pub holder_of : List (List ℕ) → Holder
holder_of [] = Missing
holder_of (t ∷ []) = One t
holder_of (t ∷ u ∷ l) = Many
