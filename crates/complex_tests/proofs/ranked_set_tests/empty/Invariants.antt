use Rattle.complex_tests.proofs.ranked_set_tests.empty.Given as goal

abbrev pub ghosts-emptied : goal.ghosts-emptied
ghosts-emptied a = record { name = a.blank.name; parts = a.blank.parts }
