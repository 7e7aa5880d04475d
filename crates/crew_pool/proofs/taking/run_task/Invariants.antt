use Rattle.crew_pool.proofs.taking.run_task.Given as goal

abbrev pub ghosts-run_with_own_counter : goal.ghosts-run_with_own_counter
ghosts-run_with_own_counter g a = record { name = a.blank.name; parts = a.blank.parts }
