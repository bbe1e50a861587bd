use Rattle.std.proofs.Common.{◌≡◌, None, List, [], ◌∷◌, ◌++◌, map, sym, ap, ◌∙◌, subst, append_assoc}
use Rattle.std.specs.List.{flat_map}
use Rattle.simplex.specs.FirstFailing.{first_failing}
use Rattle.script_shell.specs.declared.stop.Stop.{Stop}
use Rattle.script_shell.specs.Commands.{Test, making, list_tests, name_test, room_test}
use Rattle.script_shell.specs.Stops.{StopsAt}
use Rattle.script_shell.proofs.Refusals.{if_err, stops_right}
use Rattle.script_shell.proofs.making.made.Goals as goal

-- the names and the room pass, and what comes behind stops
own_stops : (s : Stop) (names : List Test) (room : Test) (lists own more : List Test) → first_failing names ≡ None → first_failing (room ∷ []) ≡ None
    → StopsAt s (first_failing ((lists ++ own) ++ more)) → StopsAt s (first_failing (((names ++ room ∷ lists) ++ own) ++ more))
own_stops s names room lists own more n r h =
    subst (λ ts. StopsAt s (first_failing ts)) (sym (ap (λ ts. ts ++ more) (append_assoc names (room ∷ lists) own) ∙ append_assoc names (room ∷ (lists ++ own)) more))
    (stops_right s names (room ∷ ((lists ++ own) ++ more)) n (stops_right s (room ∷ []) ((lists ++ own) ++ more) r h))

pub returns-clause-refused : goal.returns-clause-refused
returns-clause-refused c =
    let s = c.args.names.now in
    let m = making s c.args.maker.now in
    if_err c.make.result _ _ (λ e h. own_stops e (map (name_test s) m.names) (room_test c.args.limits s c.args.name.now) (flat_map list_tests m.lists) m.own _
    c.in_ok-names_held.ensures.passed c.in_ok-room.ensures.passed h) c.make.ensures.refused
