use Rattle.engine_tests.proofs.shelf_looks.seat_learns_of_front_10.Given as goal

abbrev pub ghosts-learns_of_ten : goal.ghosts-learns_of_ten
ghosts-learns_of_ten g a = record { book = a.opened.seen.book; start = a.opened.pen.nib.key }
