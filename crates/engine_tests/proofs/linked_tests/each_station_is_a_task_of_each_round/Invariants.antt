use Rattle.engine_tests.proofs.linked_tests.each_station_is_a_task_of_each_round.Given as goal

abbrev pub ghosts-four_workers_make_the_rounds : goal.ghosts-four_workers_make_the_rounds
ghosts-four_workers_make_the_rounds g a = record { name = a.blank.name; parts = a.blank.parts }
