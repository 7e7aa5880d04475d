use Rattle.engine_tests.proofs.phys_proc_tests.step_to.Given as goal

abbrev pub ghosts-step_counted : goal.ghosts-step_counted
ghosts-step_counted a = record { name = a.blank.name; parts = a.blank.parts }
