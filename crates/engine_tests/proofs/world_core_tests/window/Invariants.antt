use Rattle.engine_tests.proofs.world_core_tests.window.Given as goal

abbrev pub ghosts-window_counted : goal.ghosts-window_counted
ghosts-window_counted a = record { name = a.blank.name; parts = a.blank.parts }
