-- The room that the limit of weights leaves to the complex of one name, and the constructions that keep within it while they make.
use Rattle.std.specs.Prelude.{ℕ, ◌-◌, Bool, true, false, List, ◌++◌, nat_le}
use Rattle.std.specs.List.{flat_map}
use Rattle.facet_set.specs.Numbers.{weight}
use Rattle.script_text.specs.declared.command.Maker.{Maker}
use Rattle.script_text.specs.declared.command.Maker.TheVariants as maker
use Rattle.conditions.specs.declared.condition.Condition.TheVariants as condition
use Rattle.shell_names.specs.State.{State, Complex, present, total_weight}
use Rattle.script_shell.specs.declared.limits.Limits.{Limits}
use Rattle.script_shell.specs.Commands.{Making, Test, list_tests}

-- the limit less the weights of the other present complexes, or 0 where these are above it
abbrev pub room_beside : Limits → State → List ℕ → ℕ
room_beside limits s x = limits.weight - (total_weight s - weight (present s x))

-- the weight is within the room
abbrev pub fits_test : ℕ → Complex → Test
fits_test room c = (nat_le (weight c) room, condition.SizeLimit)

-- the conditions on the lists of the maker, and then its own
abbrev pub making_own : Making → List Test
making_own m = flat_map list_tests m.lists ++ m.own

-- whether the construction is told its room
abbrev pub takes_room : Maker → Bool
takes_room (maker.Cyclic k n) = true
takes_room (maker.Stacked d n seed) = true
takes_room (maker.Join x y) = true
takes_room (maker.Facets lists) = false
takes_room (maker.Copy x) = false
takes_room (maker.Link x face) = false
takes_room (maker.Star x face) = false
takes_room (maker.Deletion x face) = false
takes_room (maker.Boundary x) = false
takes_room (maker.Skeleton x k) = false
takes_room (maker.BdSimplex d) = false
takes_room (maker.BdCross d) = false
takes_room (maker.Cone x) = false
takes_room (maker.Suspension x) = false
takes_room (maker.Sum x f y g) = false
takes_room (maker.Handle x f g) = false
takes_room (maker.Relabel x lists) = false
