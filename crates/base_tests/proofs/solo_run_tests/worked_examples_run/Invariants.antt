use Rattle.base_tests.proofs.solo_run_tests.worked_examples_run.Given as goal

abbrev pub ghosts-with_steps : goal.ghosts-with_steps
ghosts-with_steps g a = record { name = a.blank.name; parts = a.blank.parts }
