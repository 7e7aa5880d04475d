use Rattle.shelf.proofs.Legals.{HasRack-later}
use Rattle.engine_tests.proofs.shelf_tests.look_once.Goals as goal

pub returns : goal.returns
returns g c = record {
  has_rack = HasRack-later 1 c.args.seat.now c.look.new.self c.look.ensures.begins c.requires.has_rack;
}
