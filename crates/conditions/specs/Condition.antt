-- The names of the conditions.
use Rattle.std.specs.Prelude.{ℕ, List, codes}
use Rattle.conditions.specs.declared.condition.Condition.{Condition}
use Rattle.conditions.specs.declared.condition.Condition.TheVariants as condition

abbrev pub condition_name : Condition → List ℕ
condition_name condition.NoName = codes "no_name"
condition_name condition.NamesFull = codes "names_full"
condition_name condition.LabelRange = codes "label_range"
condition_name condition.LabelTwice = codes "label_twice"
condition_name condition.DimLimit = codes "dim_limit"
condition_name condition.SizeLimit = codes "size_limit"
condition_name condition.Void = codes "void"
condition_name condition.NotPure = codes "not_pure"
condition_name condition.DimRange = codes "dim_range"
condition_name condition.DimDiffers = codes "dim_differs"
condition_name condition.NotFace = codes "not_face"
condition_name condition.NotFacet = codes "not_facet"
condition_name condition.NotMap = codes "not_map"
condition_name condition.Overlap = codes "overlap"
condition_name condition.Near = codes "near"
condition_name condition.FlipSize = codes "flip_size"
condition_name condition.FlipStar = codes "flip_star"
condition_name condition.FlipPresent = codes "flip_present"
condition_name condition.NotFree = codes "not_free"
condition_name condition.IsFace = codes "is_face"
condition_name condition.Range = codes "range"
condition_name condition.RankLimit = codes "rank_limit"
condition_name condition.Budget = codes "budget"
condition_name condition.JournalFull = codes "journal_full"
condition_name condition.NoPast = codes "no_past"
condition_name condition.NoFuture = codes "no_future"
