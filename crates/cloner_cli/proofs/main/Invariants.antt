use Rattle.cloner_cli.proofs.main.Given as goal

abbrev pub ghosts-run_words : goal.ghosts-run_words
ghosts-run_words g a = record { name = a.blank.name; parts = a.blank.parts }
