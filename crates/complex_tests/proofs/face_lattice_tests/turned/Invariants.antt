use Rattle.complex_tests.proofs.face_lattice_tests.turned.Given as goal

abbrev pub ghosts-turn_all : goal.ghosts-turn_all
ghosts-turn_all a = record { name = a.blank.name; parts = a.blank.parts }
