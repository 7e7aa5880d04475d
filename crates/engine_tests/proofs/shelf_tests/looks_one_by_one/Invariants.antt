use Rattle.engine_tests.proofs.shelf_tests.looks_one_by_one.Given as goal

abbrev pub ghosts-one_by_one : goal.ghosts-one_by_one
ghosts-one_by_one g a = record { book = a.opened.seen.book; start = a.opened.pen.nib.key }
