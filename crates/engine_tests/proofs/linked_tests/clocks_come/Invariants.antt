use Rattle.engine_tests.proofs.linked_tests.clocks_come.Given as goal

abbrev pub ghosts-clocks_are : goal.ghosts-clocks_are
ghosts-clocks_are a = record { name = a.blank.name; parts = a.blank.parts }
