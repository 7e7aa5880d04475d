use Rattle.shelf.proofs.Legals.{HasRack-later}
use Rattle.engine_tests.proofs.shelf_looks.finds_told.Goals as goal

pub finds_all-requires : goal.finds_all-requires
finds_all-requires g c =
    let seat = c.args.seat.now in
    let begins = c.learn.ensures.begins in
    record {
      gate = HasRack-later 1 seat c.learn.new.self begins c.requires.gate;
      desk = HasRack-later 2 seat c.learn.new.self begins c.requires.desk;
    }
