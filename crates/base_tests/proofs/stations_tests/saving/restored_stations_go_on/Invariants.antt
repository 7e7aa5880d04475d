use Rattle.base_tests.proofs.stations_tests.saving.restored_stations_go_on.Given as goal

abbrev pub ghosts-every_kind : goal.ghosts-every_kind
ghosts-every_kind g a = record { name = a.blank.name; parts = a.blank.parts }
