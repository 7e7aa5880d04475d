use Rattle.base_tests.proofs.stations_tests.copies_stay_apart.Given as goal

abbrev pub ghosts-original_and_copy : goal.ghosts-original_and_copy
ghosts-original_and_copy g a = record { name = a.blank.name; parts = a.blank.parts }
