use Rattle.std.proofs.Common.{ℕ, [], ◌∷◌, ◌++◌, subst}
use Rattle.simplex.specs.FirstFailing.{first_failing}
use Rattle.script_shell.specs.Commands.{making}
use Rattle.script_shell.specs.Rooms.{fits_test, making_own}
use Rattle.script_shell.specs.Stops.{StopsAt}
use Rattle.script_shell.proofs.Constructions.{within_stops}
use Rattle.script_shell.proofs.Refusals.{if_err, stops_left}
use Rattle.script_shell.proofs.making.make.Goals as goal

pub returns-then-takes_room-clause-refused : goal.returns-then-takes_room-clause-refused
returns-then-takes_room-clause-refused c =
    let s = c.args.names.now in
    let m = making s c.args.maker.now in
    if_err c.make_within.result _ _ (λ e h. within_stops e c.args.limits s c.args.name.now (making_own m) m.complex
    (subst (λ (room : ℕ). StopsAt e (first_failing (making_own m ++ fits_test room m.complex ∷ []))) c.room_beside.ensures h)) c.make_within.ensures.refused

pub returns-else-takes_room-clause-refused : goal.returns-else-takes_room-clause-refused
returns-else-takes_room-clause-refused c =
    let m = making c.args.names.now c.args.maker.now in
    if_err c.make_freely.result _ _ (λ e h. stops_left e (making_own m) _ h) c.make_freely.ensures.refused
