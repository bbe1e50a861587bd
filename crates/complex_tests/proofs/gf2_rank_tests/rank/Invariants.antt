use Rattle.complex_tests.proofs.gf2_rank_tests.rank.Given as goal

abbrev pub ghosts-counted : goal.ghosts-counted
ghosts-counted a = record { name = a.blank.name; parts = a.blank.parts }
