use Rattle.complex_tests.proofs.face_lattice_tests.room_kept.Given as goal

abbrev pub ghosts-into_room : goal.ghosts-into_room
ghosts-into_room a = record { name = a.blank.name; parts = a.blank.parts }
