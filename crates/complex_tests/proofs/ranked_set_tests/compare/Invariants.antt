use Rattle.complex_tests.proofs.ranked_set_tests.compare.Given as goal

abbrev pub ghosts-compared : goal.ghosts-compared
ghosts-compared a = record { name = a.blank.name; parts = a.blank.parts }
