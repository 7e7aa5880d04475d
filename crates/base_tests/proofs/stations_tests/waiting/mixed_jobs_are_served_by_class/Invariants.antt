use Rattle.base_tests.proofs.stations_tests.waiting.mixed_jobs_are_served_by_class.Given as goal

abbrev pub ghosts-desk_and_copy : goal.ghosts-desk_and_copy
ghosts-desk_and_copy g a = record { name = a.blank.name; parts = a.blank.parts }
