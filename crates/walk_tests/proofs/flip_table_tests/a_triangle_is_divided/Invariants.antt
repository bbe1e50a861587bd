use Rattle.walk_tests.proofs.flip_table_tests.a_triangle_is_divided.Given as goal

abbrev pub ghosts-divide : goal.ghosts-divide
ghosts-divide g a = record { name = a.blank.name; parts = a.blank.parts }
