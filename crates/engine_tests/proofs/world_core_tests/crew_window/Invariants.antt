use Rattle.engine_tests.proofs.world_core_tests.crew_window.Given as goal

abbrev pub ghosts-crew_window_counted : goal.ghosts-crew_window_counted
ghosts-crew_window_counted g a = record { name = a.blank.name; parts = a.blank.parts }
