use Rattle.program_tests.proofs.cloner_top_tests.run_with_watches.Given as goal

abbrev pub ghosts-cloner_counted : goal.ghosts-cloner_counted
ghosts-cloner_counted g a = record { name = a.blank.name; parts = a.blank.parts }
