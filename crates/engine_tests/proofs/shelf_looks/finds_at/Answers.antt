use Rattle.shelf.proofs.Legals.{HasRack-later}
use Rattle.engine_tests.proofs.shelf_looks.finds_at.Goals as goal

pub returns : goal.returns
returns g c =
    let seat = c.args.seat.now in
    let begins = c.look.ensures.begins in
    record {
      gate = HasRack-later 1 seat c.look.new.self begins c.requires.gate;
      desk = HasRack-later 2 seat c.look.new.self begins c.requires.desk;
    }
