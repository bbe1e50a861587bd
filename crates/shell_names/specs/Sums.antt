-- How the names are kept.
use Rattle.std.specs.Prelude.{◌≡◌, ℕ, ◌≤◌, ◌<◌, true, List, length, slice_index_or, slice_set}
use Rattle.facet_set.specs.Numbers.{weight_limit}
use Rattle.shell_names.specs.Limits.{journal_limit}
use Rattle.shell_names.specs.State.{Named, State, holds, entry, put_entry, total_weight, journal}

-- the two sums of the names, which are within the limits
pub record AreSums (s : State) (weights sizes : ℕ) : Type 0 where
  pub weight : weights ≡ total_weight s
  pub journal : sizes ≡ journal s
  pub weight_few : weights ≤ weight_limit
  pub journal_few : sizes ≤ journal_limit

-- the name is held, at this place: what it has stands there, and what is put for it comes there
pub record StandsAt (s : State) (x : List ℕ) (place : ℕ) : Type 0 where
  pub held : holds s x ≡ true
  pub within : place < length s
  pub entry : (d : Named) → slice_index_or s place d ≡ entry s x
  pub put : (e : Named) → e.name ≡ x → put_entry e s ≡ slice_set s place e
