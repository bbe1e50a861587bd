use Rattle.complex_tests.proofs.betti_tables_tests.betti.Given as goal

abbrev pub ghosts-counted : goal.ghosts-counted
ghosts-counted a = record { name = a.blank.name; parts = a.blank.parts }
