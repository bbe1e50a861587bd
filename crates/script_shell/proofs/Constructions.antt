-- The faults of constructions as conditions, and the room that they are told.
use Rattle.std.proofs.Common.{◌≡◌, ℕ, ◌<◌, ◌-◌, ◌⊎◌, inl, inr, Bool, true, false, cond, leb, List, [], ◌∷◌, ◌++◌, Some, None, refl, ap, ◌∙◌, arith}
use Rattle.std.specs.Option.{option_map}
use Rattle.std.proofs.lemmas.Bool.Decides.{nat_tests}
use Rattle.simplex.specs.FirstFailing.{first_failing}
use Rattle.facet_set.specs.Numbers.{weight}
use Rattle.constructions.specs.declared.make_fault.MakeFault.{MakeFault}
use Rattle.constructions.specs.declared.make_fault.MakeFault.TheVariants as make
use Rattle.conditions.specs.declared.condition.Condition.{Condition}
use Rattle.conditions.specs.declared.condition.Condition.TheVariants as condition
use Rattle.shell_names.specs.State.{State, Complex, named, present, assign, total_weight}
use Rattle.shell_names.proofs.StateLaws.{weight_put, weight_entry}
use Rattle.script_shell.specs.declared.limits.Limits.{Limits}
use Rattle.script_shell.specs.declared.stop.Stop.{Stop}
use Rattle.script_shell.specs.declared.stop.Stop.TheVariants as stop
use Rattle.script_shell.specs.Commands.{Test, make_condition, make_tests, weight_test}
use Rattle.script_shell.specs.Rooms.{room_beside, fits_test}
use Rattle.script_shell.specs.Stops.{StopsAt, make_stop}
use Rattle.script_shell.proofs.Listing.{failing_map}

pub make_passes : (ts : List (Bool × MakeFault)) → first_failing ts ≡ None → first_failing (make_tests ts) ≡ None
make_passes ts h = failing_map make_condition ts ∙ ap (option_map make_condition) h

make_fails : (ts : List (Bool × MakeFault)) (e : MakeFault) → first_failing ts ≡ Some e → first_failing (make_tests ts) ≡ Some (make_condition e)
make_fails ts e h = failing_map make_condition ts ∙ ap (option_map make_condition) h

-- a construction stops at the condition of its fault
pub make_stops : (e : MakeFault) (ts : List (Bool × MakeFault)) → (e ≡ make.Memory) ⊎ (first_failing ts ≡ Some e) → StopsAt (make_stop e) (first_failing (make_tests ts))
make_stops make.Range ts (inl h) = cc
make_stops make.Range ts (inr h) = make_fails ts make.Range h
make_stops make.DimLimit ts (inl h) = cc
make_stops make.DimLimit ts (inr h) = make_fails ts make.DimLimit h
make_stops make.LabelRange ts (inl h) = cc
make_stops make.LabelRange ts (inr h) = make_fails ts make.LabelRange h
make_stops make.NotPure ts (inl h) = cc
make_stops make.NotPure ts (inr h) = make_fails ts make.NotPure h
make_stops make.DimDiffers ts (inl h) = cc
make_stops make.DimDiffers ts (inr h) = make_fails ts make.DimDiffers h
make_stops make.NotFacet ts (inl h) = cc
make_stops make.NotFacet ts (inr h) = make_fails ts make.NotFacet h
make_stops make.NotMap ts (inl h) = cc
make_stops make.NotMap ts (inr h) = make_fails ts make.NotMap h
make_stops make.Overlap ts (inl h) = cc
make_stops make.Overlap ts (inr h) = make_fails ts make.Overlap h
make_stops (make.Near v) ts (inl h) = cc
make_stops (make.Near v) ts (inr h) = make_fails ts (make.Near v) h
make_stops make.Size ts (inl h) = cc
make_stops make.Size ts (inr h) = make_fails ts make.Size h
make_stops make.Memory ts h = tt

-- ---- the room
-- a complex that is too heavy for the room is too heavy for the limit
room_fails : (limits : Limits) (s : State) (x : List ℕ) (c : Complex) → leb (weight c) (room_beside limits s x) ≡ false → leb (total_weight (assign x c s)) limits.weight ≡ false
room_fails limits s x c h =
    let heavy : limits.weight - (total_weight s - weight (present s x)) < weight c = grind (arith, nat_tests) in
    let put = weight_put s x (named x c) refl in
    let above : limits.weight < total_weight (assign x c s) = omega (arith, put, heavy, weight_entry s x) in
    grind (arith, nat_tests)

last_fails : (own : List Test) (v w : Bool) (c k : Condition) → (v ≡ false → w ≡ false) → first_failing (own ++ (v, c) ∷ []) ≡ Some k → first_failing (own ++ (w, c) ∷ []) ≡ Some k
last_fails [] true w c k f h = cc
last_fails [] false w c k f h = ap (λ u. cond u None (Some c)) (f refl) ∙ h
last_fails ((true, d) ∷ own) v w c k f h = last_fails own v w c k f h
last_fails ((false, d) ∷ own) v w c k f h = h

-- what stops for want of room stops at the limit
pub within_stops : (f : Stop) (limits : Limits) (s : State) (x : List ℕ) (own : List Test) (c : Complex) → StopsAt f (first_failing (own ++ fits_test (room_beside limits s x) c ∷ []))
    → StopsAt f (first_failing (own ++ weight_test limits (assign x c s) ∷ []))
within_stops (stop.Refused k) limits s x own c h =
    last_fails own (leb (weight c) (room_beside limits s x)) (leb (total_weight (assign x c s)) limits.weight) condition.SizeLimit k (room_fails limits s x c) h
within_stops stop.Memory limits s x own c h = tt
