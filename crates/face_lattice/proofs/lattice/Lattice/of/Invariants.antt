use Rattle.face_lattice.proofs.lattice.Lattice.of.Given as goal

abbrev pub ghosts-of_facets : goal.ghosts-of_facets
ghosts-of_facets a = record { name = a.blank.name; parts = a.blank.parts }
