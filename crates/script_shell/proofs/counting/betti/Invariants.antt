use Rattle.script_shell.proofs.counting.betti.Given as goal

abbrev pub ghosts-betti_by : goal.ghosts-betti_by
ghosts-betti_by a = record { name = a.blank.name; parts = a.blank.parts }
