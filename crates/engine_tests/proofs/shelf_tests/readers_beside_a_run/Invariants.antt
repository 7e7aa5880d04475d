use Rattle.engine_tests.proofs.shelf_tests.readers_beside_a_run.Given as goal

abbrev pub ghosts-beside : goal.ghosts-beside
ghosts-beside g a = record { book = a.opened.seen.book; start = a.opened.pen.nib.key }
