use Rattle.engine_tests.proofs.linked_tests.rounds_of.Given as goal

abbrev pub ghosts-run_base : goal.ghosts-run_base
ghosts-run_base a = record { name = a.blank.name; parts = a.blank.parts }
